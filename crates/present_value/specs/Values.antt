use Rattle.std.specs.Prelude.{◌≡◌, ℕ, ◌+◌, ◌<◌, ◌≤◌, List, length, slice_index_or}
use Rattle.rate_table.specs.Rates.{Rates}
use Rattle.rate_table.specs.declared.shape.Shape.{Shape}
use Rattle.present_value.specs.Fractions.{Fraction, Between}
use Rattle.present_value.specs.Sums.{Cover, ben, ann}
use Rattle.present_value.specs.Rounding.{UNIT}
use Rattle.present_value.specs.Recursion.{ben_lo, ben_hi, ann_lo, ann_hi}
use Rattle.present_value.specs.declared.pair.Pair.{Pair}
use Rattle.present_value.specs.declared.pair.Columns.{Columns}

-- a shape can be valued: premiums are due in at least one year and at most in the years of cover, the table holds the
-- ages of those years, and interest is at most 20 percent
pub record CanValue (table : Rates) (shape : Shape) (bp : ℕ) : Type 0 where
  pub paid : 1 ≤ shape.h
  pub covered : shape.h ≤ shape.n
  pub first : table.first_age ≤ shape.age
  pub last : shape.age + shape.n ≤ table.first_age + length table.rates
  pub interest : bp ≤ 2000

abbrev pub pair_of : ℕ → ℕ → Pair
pair_of lo hi = record { lo = lo; hi = hi }

-- the pair at a year
abbrev pub pair_at : List Pair → ℕ → Pair
pair_at pairs t = slice_index_or pairs t (pair_of 0 0)

-- each year's pair is the rounded value of the benefits, or of the premiums; places above n hold zeros
pub record AreBenefits (c : Cover) (pairs : List Pair) : Type 0 where
  pub within : (t : ℕ) → t ≤ c.n → pair_at pairs t ≡ pair_of (ben_lo c t) (ben_hi c t)
  pub rest : (t : ℕ) → c.n < t → pair_at pairs t ≡ pair_of 0 0

pub record ArePremiums (c : Cover) (pairs : List Pair) : Type 0 where
  pub within : (t : ℕ) → t ≤ c.n → pair_at pairs t ≡ pair_of (ann_lo c t) (ann_hi c t)
  pub rest : (t : ℕ) → c.n < t → pair_at pairs t ≡ pair_of 0 0

-- the columns are the rounded values of the cover
pub record AreColumns (c : Cover) (columns : Columns) : Type 0 where
  pub years : columns.n ≡ c.n
  pub payments : columns.h ≡ c.h
  pub benefits : AreBenefits c columns.ben
  pub premiums : ArePremiums c columns.ann

-- a pair encloses a value, and its bounds differ by at most 131 units
pub record IsPairOf (value : Fraction) (pair : Pair) : Type 0 where
  pub between : Between pair.lo pair.hi UNIT value
  pub narrow : pair.hi ≤ pair.lo + 131

-- the columns enclose the exact values
pub record Enclose (c : Cover) (columns : Columns) : Type 0 where
  pub benefits : (t : ℕ) → t ≤ c.n → IsPairOf (ben c t) (pair_at columns.ben t)
  pub premiums : (t : ℕ) → t ≤ c.n → IsPairOf (ann c t) (pair_at columns.ann t)
