-- Each lower and each upper bound by a name of its own.
use Rattle.std.proofs.Common.{ℕ, ◌+◌, ◌*◌}
use Rattle.present_value.specs.Rounding.{UNIT, down, up}
use Rattle.present_value.specs.Sums.{Cover, year, death}
use Rattle.crvm_reserve.specs.Rounded.{level_bound, excess_bound, beta_bound, reserve_bound, rounded, rounded_paid_up}
use Rattle.crvm_reserve.specs.RoundedMean.{net_bound, rounded_mean, rounded_paid_up_mean}

abbrev pub term_lo : Cover → ℕ
term_lo c = down (death c 0 * UNIT) (year c)

abbrev pub term_hi : Cover → ℕ
term_hi c = up (death c 0 * UNIT) (year c)

abbrev pub level_lo : Cover → ℕ → ℕ
level_lo c t = level_bound down up c t

abbrev pub level_hi : Cover → ℕ → ℕ
level_hi c t = level_bound up down c t

abbrev pub excess_lo : Cover → Cover → ℕ
excess_lo c cap = excess_bound down up c cap

abbrev pub excess_hi : Cover → Cover → ℕ
excess_hi c cap = excess_bound up down c cap

abbrev pub beta_lo : Cover → Cover → ℕ
beta_lo c cap = beta_bound down up c cap

abbrev pub beta_hi : Cover → Cover → ℕ
beta_hi c cap = beta_bound up down c cap

abbrev pub reserve_lo : Cover → Cover → ℕ → ℕ
reserve_lo c cap t = reserve_bound down up c cap t

abbrev pub reserve_hi : Cover → Cover → ℕ → ℕ
reserve_hi c cap t = reserve_bound up down c cap t

abbrev pub amount_lo : Cover → Cover → ℕ → ℕ → ℕ
amount_lo c cap amount t = (rounded c cap amount t).0

abbrev pub amount_hi : Cover → Cover → ℕ → ℕ → ℕ
amount_hi c cap amount t = (rounded c cap amount t).1

abbrev pub paid_up_lo : Cover → ℕ → ℕ → ℕ
paid_up_lo c amount t = (rounded_paid_up c amount t).0

abbrev pub paid_up_hi : Cover → ℕ → ℕ → ℕ
paid_up_hi c amount t = (rounded_paid_up c amount t).1

abbrev pub net_lo : Cover → Cover → ℕ → ℕ
net_lo c cap t = net_bound down up c cap t

abbrev pub net_hi : Cover → Cover → ℕ → ℕ
net_hi c cap t = net_bound up down c cap t

-- twice the mean reserve before the end of cover
abbrev pub double_lo : Cover → Cover → ℕ → ℕ
double_lo c cap t = reserve_lo c cap t + net_lo c cap t + reserve_lo c cap (t + 1)

abbrev pub double_hi : Cover → Cover → ℕ → ℕ
double_hi c cap t = reserve_hi c cap t + net_hi c cap t + reserve_hi c cap (t + 1)

abbrev pub mean_lo : Cover → Cover → ℕ → ℕ → ℕ
mean_lo c cap amount t = (rounded_mean c cap amount t).0

abbrev pub mean_hi : Cover → Cover → ℕ → ℕ → ℕ
mean_hi c cap amount t = (rounded_mean c cap amount t).1

abbrev pub paid_up_mean_lo : Cover → ℕ → ℕ → ℕ
paid_up_mean_lo c amount t = (rounded_paid_up_mean c amount t).0

abbrev pub paid_up_mean_hi : Cover → ℕ → ℕ → ℕ
paid_up_mean_hi c amount t = (rounded_paid_up_mean c amount t).1
