-- Laws that an actuary expects of the mean reserve.
use Rattle.std.specs.Prelude.{◌≡◌, ℕ, ◌+◌, ◌*◌, ◌<◌, ◌≤◌, ◌⊎◌}
use Rattle.present_value.specs.Fractions.{Fraction, whole, plus, over}
use Rattle.present_value.specs.Sums.{Cover, ben}
use Rattle.present_value.specs.Reserve.{reserve}
use Rattle.present_value.specs.Mean.{net_premium, mean_reserve, paid_up_mean}

-- a value lies between two others, by cross-multiplying
pub record LiesWithin (low high value : Fraction) : Type 0 where
  pub above : low.num * value.den ≤ value.num * low.den
  pub below : value.num * high.den ≤ high.num * value.den

-- between two values, in either order
abbrev pub LiesBetween : Fraction → Fraction → Fraction → Type 0
LiesBetween a b value = LiesWithin a b value ⊎ LiesWithin b a value

abbrev pub LiesBetweenLaw : Type 0
LiesBetweenLaw = (c cap : Cover) → (t : ℕ) → t < c.n
    → let half = over (net_premium c cap t) (whole 2) in
    LiesBetween (plus (reserve c cap t) half) (plus (reserve c cap (t + 1)) half) (mean_reserve c cap t)

abbrev pub TerminalAtTheEndLaw : Type 0
TerminalAtTheEndLaw = (c cap : Cover) → mean_reserve c cap c.n ≡ reserve c cap c.n

-- a cover with other years of premiums
abbrev pub paying : Cover → ℕ → Cover
paying c h = record { rates = c.rates; interest = c.interest; n = c.n; h = h; matures = c.matures }

-- whatever the years of premiums, the mean reserve of a paid-up policy is the same; it lies between the values of the
-- benefits around it, and at the end of cover it is the value of the benefits there
pub record NoPremiumLaw : Type 0 where
  pub same : (c : Cover) → (h t : ℕ) → paid_up_mean (paying c h) t ≡ paid_up_mean c t
  pub between : (c : Cover) → (t : ℕ) → t < c.n → LiesBetween (ben c t) (ben c (t + 1)) (paid_up_mean c t)
  pub end : (c : Cover) → paid_up_mean c c.n ≡ ben c c.n
