-- By a table by age alone the cap makes no difference: if the cover has two years, the table holds the next age.
use Rattle.std.proofs.Common.{◌≡◌, ◌+◌, ◌≤◌, ◌||◌, Bool, true, false, nat_lt, length, refl, arith}
use Rattle.std.proofs.lemmas.Grind.{common_steps}
use Rattle.rate_table.specs.Rates.{Rates, last_age_of}
use Rattle.rate_table.specs.declared.shape.Shape.{Shape}
use Rattle.plan_benefits.specs.inside.Ages.{has_age}
use Rattle.std.proofs.Common.{Result, Ok, Err, if◌then◌else◌}
use Rattle.rate_table.specs.Rates.{rate_at}
use Rattle.plan_benefits.specs.declared.fault.NotValued.{NotValued}
use Rattle.plan_benefits.specs.declared.fault.NotValued.TheVariants.{BelowTable, PastTable, RateHigh}

-- the result if the next age is held, and if it isn't
abbrev pub capped : Bool → Result Shape NotValued → Result Shape NotValued
capped holds answer = by holds answer
  where
    by : Bool → Result Shape NotValued → Result Shape NotValued
    by true given = given
    by false (Err BelowTable) = Err BelowTable
    by false given = Err PastTable

-- the first reason why a shape has no value by a table
abbrev shape_or_fault : Rates → Shape → Result Shape NotValued
shape_or_fault table shape =
    if nat_lt shape.age table.first_age
    then Err BelowTable
    else if nat_lt (last_age_of table + 1) (shape.age + shape.n) || nat_lt shape.n 2
    then Err PastTable
    else if nat_lt 500000000 (rate_at table shape.age) then Err RateHigh else Ok shape

module _ (table : Rates) (shape : Shape) (some : 1 ≤ length table.rates) where
  past : has_age table (shape.age + 1) ≡ false → nat_lt shape.age table.first_age ≡ false
      → (b : Bool) → (nat_lt (last_age_of table + 1) (shape.age + shape.n) || nat_lt shape.n 2) ≡ b
      → capped false (shape_or_fault table shape) ≡ shape_or_fault table shape
  past none above true p = rw (above, p) refl
  past none above false p = absurd (grind (arith, common_steps))

  below : has_age table (shape.age + 1) ≡ false → (b : Bool) → nat_lt shape.age table.first_age ≡ b
      → capped false (shape_or_fault table shape) ≡ shape_or_fault table shape
  below none true l = rw l refl
  below none false l = past none l (nat_lt (last_age_of table + 1) (shape.age + shape.n) || nat_lt shape.n 2) refl

  by : (b : Bool) → has_age table (shape.age + 1) ≡ b → capped b (shape_or_fault table shape) ≡ shape_or_fault table shape
  by true e = refl
  by false e = below e (nat_lt shape.age table.first_age) refl

  pub uncapped : capped (has_age table (shape.age + 1)) (shape_or_fault table shape) ≡ shape_or_fault table shape
  uncapped = by (has_age table (shape.age + 1)) refl
