-- The rates for an age at issue.
use Rattle.std.proofs.Common.{◌≡◌, ℕ, ◌+◌, refl, subst, arith}
use Rattle.rate_table.specs.Rates.{Rates, HoldsAge, rate_at}
use Rattle.select_rates.specs.Along.{IsAlong, IsBelow, IsRateOf, table_along}
use Rattle.select_rates.specs.declared.any.AnyTable.{AnyTable}
use Rattle.select_rates.specs.declared.any.AnyTable.TheVariants.{Aggregate, Select}
use Rattle.plan_benefits.specs.Shapes.{HasRates}

rates_of : (table : AnyTable) (age : ℕ) (given : Rates) → IsAlong table age given → (k : ℕ) → HoldsAge given (age + k)
    → IsRateOf table age k (rate_at given (age + k))
rates_of (Aggregate table) age given is k holds = (rw is at holds, rw is refl)
rates_of (Select table) age given is k holds = is.rates k holds

-- a table that is found for an age and holds it
pub has_rates : (table : AnyTable) (age : ℕ) (given : Rates) → (IsBelow table age → ⊥) → IsAlong table age given → given ≡ table_along table age
    → HoldsAge given age → HasRates table age
has_rates table age given above along is holds =
    let is_along = subst (λ (t : Rates). IsAlong table age t) is along in
    record { above = above; holds = subst (λ (t : Rates). HoldsAge t age) is holds; rates = rates_of table age (table_along table age) is_along }

-- no age is below if the age before isn't
pub next_above : (table : AnyTable) (age : ℕ) → (IsBelow table age → ⊥) → IsBelow table (age + 1) → ⊥
next_above (Aggregate table) age above below = below
next_above (Select table) age above below = above (omega arith)
