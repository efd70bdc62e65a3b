use Rattle.std.specs.Prelude.{ℕ, ◌+◌, ◌≤◌}
use Rattle.present_value.specs.Fractions.{Fraction, less, times, Between}
use Rattle.present_value.specs.Sums.{Cover, ben, ann}
use Rattle.present_value.specs.Premium.{beta}

-- the reserve at year t per unit of amount: the excess, if any, of the future benefits over the future
-- modified net premiums (NAIC Standard Valuation Law, Model 820)
unfoldable pub reserve : Cover → Cover → ℕ → Fraction
reserve c cap t = less (ben c t) (times (beta c cap) (ann c t))

-- the bounds enclose the amount times the value, and differ by at most 2
pub record Encloses (low high amount : ℕ) (value : Fraction) : Type 0 where
  pub between : Between low high amount value
  pub narrow : high ≤ low + 2
