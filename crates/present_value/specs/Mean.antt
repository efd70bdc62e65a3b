use Rattle.std.specs.Prelude.{ℕ, zero, suc, ◌+◌, nat_lt, if◌then◌else◌}
use Rattle.present_value.specs.Fractions.{Fraction, whole, plus, less, over}
use Rattle.present_value.specs.Sums.{Cover, ben}
use Rattle.present_value.specs.Premium.{excess, beta}
use Rattle.present_value.specs.Reserve.{reserve}

-- The mean reserve, which a statement at the end of a calendar year uses: half of the sum of the two terminal
-- reserves around it and of the net premium of the year (NAIC Standard Valuation Law, Model 820).

-- the net premium of year t: the modified one; in the first year that without the excess; none from year h on
unfoldable pub net_premium : Cover → Cover → ℕ → Fraction
net_premium c cap zero = less (beta c cap) (excess c cap)
net_premium c cap (suc t) = if nat_lt (suc t) c.h then beta c cap else whole 0

-- per unit of amount in year t; at the end of cover it is the terminal reserve
unfoldable pub mean_reserve : Cover → Cover → ℕ → Fraction
mean_reserve c cap t =
    if nat_lt t c.n
    then over (plus (plus (reserve c cap t) (net_premium c cap t)) (reserve c cap (t + 1))) (whole 2)
    else reserve c cap t

-- the same for a paid-up policy, for which no premium is due
unfoldable pub paid_up_mean : Cover → ℕ → Fraction
paid_up_mean c t = if nat_lt t c.n then over (plus (ben c t) (ben c (t + 1))) (whole 2) else ben c t
