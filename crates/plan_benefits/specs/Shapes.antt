use Rattle.std.specs.Prelude.{ℕ, ◌+◌, ◌-◌, ◌||◌, ◌&&◌, Bool, true, false, Result, Ok, Err, min, nat_lt, nat_le, ◌≤◌, length, if◌then◌else◌}
use Rattle.rate_table.specs.Rates.{Rates, AreRates, HoldsAge, rate_at, last_age_of}
use Rattle.select_rates.specs.Along.{IsBelow, IsRateOf, table_along}
use Rattle.select_rates.specs.declared.any.AnyTable.{AnyTable}
use Rattle.select_rates.specs.declared.any.AnyTable.TheVariants.{Aggregate, Select}
use Rattle.rate_table.specs.declared.shape.Shape.{Shape}
use Rattle.policy_types.specs.declared.command.Plan.{Plan}
use Rattle.policy_types.specs.declared.command.Plan.TheVariants.{Term, Whole, Endowment, Limited}
use Rattle.policy_types.specs.Valid.{AreYears}
use Rattle.plan_benefits.specs.declared.fault.NotValued.{NotValued}
use Rattle.plan_benefits.specs.declared.fault.NotValued.TheVariants.{BelowTable, PastTable, RateHigh}

-- the years of cover, the years in which a premium is due, and whether a survivor is paid; `to_end` is the number of
-- years to the end of the table
abbrev pub terms_of : Plan → (years to_end : ℕ) → ℕ × ℕ × Bool
terms_of Term years to_end = (years, years, false)
terms_of Whole years to_end = (to_end, to_end, true)
terms_of Endowment years to_end = (years, years, true)
terms_of Limited years to_end = (to_end, min years to_end, true)

-- by the table for the age at issue: the first reason why the cover has no value, or the shape
abbrev pub shape_by : Plan → ℕ → ℕ → Rates → Result Shape NotValued
shape_by plan age years table =
    let terms = terms_of plan years (last_age_of table + 1 - age) in
    if nat_lt age table.first_age
    then Err BelowTable
    else if nat_lt (last_age_of table + 1) (age + terms.0) || nat_lt terms.0 2
    then Err PastTable
    else if nat_lt 500000000 (rate_at table age)
    then Err RateHigh
    else Ok (record { age = age; n = terms.0; h = terms.1; matures = terms.2 })

-- what a shape satisfies if there is no fault: the table holds its ages, there are at least two years of cover,
-- premiums are due in no more years than those, and the rate of death in the first year is at most one half
pub record FitsTable (plan : Plan) (years : ℕ) (table : Rates) (shape : Shape) : Type 0 where
  pub first : table.first_age ≤ shape.age
  pub last : shape.age + shape.n ≤ table.first_age + length table.rates
  pub covered : 2 ≤ shape.n
  pub paid : shape.h ≤ shape.n
  pub renewed : AreYears plan shape.age years → 2 ≤ shape.h
  pub half : rate_at table shape.age ≤ 500000000
  pub within : AreRates table

-- by a table of either kind: by the table that holds for the age at issue, if there is one. The cap of the net
-- premium is by the table of the next issue age: if that table doesn't hold the next age, the cover goes past the
-- table
abbrev pub shape_of : Plan → ℕ → ℕ → AnyTable → Result Shape NotValued
shape_of plan age years table =
    let next = table_along table (age + 1) in
    if lies_below table
    then Err BelowTable
    else capped (nat_le next.first_age (age + 1) && nat_lt (age + 1) (next.first_age + length next.rates))
    (shape_by plan age years (table_along table age))
  where
    lies_below : AnyTable → Bool
    lies_below (Aggregate table) = false
    lies_below (Select table) = nat_lt age table.first_age

    capped : (holds_next : Bool) → Result Shape NotValued → Result Shape NotValued
    capped true answer = answer
    capped false (Err BelowTable) = Err BelowTable
    capped false answer = Err PastTable

-- there are rates for an age at issue, and they hold that age; each is the rate of its year since the issue
pub record HasRates (table : AnyTable) (age : ℕ) : Type 0 where
  pub above : IsBelow table age → ⊥
  pub holds : HoldsAge (table_along table age) age
  pub rates : (k : ℕ) → HoldsAge (table_along table age) (age + k) → IsRateOf table age k (rate_at (table_along table age) (age + k))

-- what such a shape satisfies if there is no fault: there are rates for the age at issue and for the next one, and by
-- the former the shape has no fault
pub record FitsAny (plan : Plan) (years : ℕ) (table : AnyTable) (shape : Shape) : Type 0 where
  pub own : HasRates table shape.age
  pub next : HasRates table (shape.age + 1)
  pub fits : FitsTable plan years (table_along table shape.age) shape
