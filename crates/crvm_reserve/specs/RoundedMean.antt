use Rattle.std.specs.Prelude.{ℕ, zero, suc, ◌+◌, ◌-◌, ◌*◌, nat_lt, if◌then◌else◌}
use Rattle.crvm_reserve.specs.Names.{Cover, UNIT, ben_bound}
use Rattle.crvm_reserve.specs.Rounded.{excess_bound, beta_bound, reserve_bound, low_and_high, rounded, rounded_paid_up}

-- The rounded mean reserve: the two terminal reserves and the net premium are added as they are rounded, and half of
-- the sum for an amount is rounded once more.

-- the net premium of year t per unit of amount, in units of 10^-16
unfoldable pub net_bound : (this other : ℕ → ℕ → ℕ) → Cover → Cover → ℕ → ℕ
net_bound this other c cap zero = beta_bound this other c cap - excess_bound other this c cap
net_bound this other c cap (suc t) = if nat_lt (suc t) c.h then beta_bound this other c cap else 0

-- the mean reserve of an amount, in the amount's units; at the end of cover the terminal one
abbrev pub rounded_mean : Cover → Cover → ℕ → ℕ → ℕ × ℕ
rounded_mean c cap amount t =
    if nat_lt t c.n
    then low_and_high (λ this other.
    this (amount * (reserve_bound this other c cap t + net_bound this other c cap t + reserve_bound this other c cap (t + 1))) (2 * UNIT))
    else rounded c cap amount t

-- the same for a paid-up amount, for which no premium is due
abbrev pub rounded_paid_up_mean : Cover → ℕ → ℕ → ℕ × ℕ
rounded_paid_up_mean c amount t =
    if nat_lt t c.n
    then low_and_high (λ this other. this (amount * (ben_bound this c t + ben_bound this c (t + 1))) (2 * UNIT))
    else rounded_paid_up c amount t
