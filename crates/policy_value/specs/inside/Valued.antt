-- The year and the worth of an insured policy, as they are computed.
use Rattle.std.specs.Prelude.{◌≡◌, ℕ, List, All, ℤ, ◌<ℤ◌, Result, Ok, Err}
use Rattle.policy_value.specs.Names.{Policy, Shape, shape_of, Dated, IsPicked, AnyTable, NotValued}
use Rattle.plan_benefits.specs.declared.fault.NotValued.TheVariants.{NoBasis}
use Rattle.policy_value.specs.declared.worth.Worth.{Worth}
use Rattle.policy_value.specs.declared.worth.Worth.TheVariants.{Word}
use Rattle.policy_value.specs.declared.worth.Measure.{Measure}
use Rattle.policy_value.specs.Covers.{AreByDuration, cap_along, cover_along}
use Rattle.policy_value.specs.Measures.{IsExactFor, IsWorthOf}
use Rattle.policy_value.specs.Rows.{IsYear}

-- by a table at an interest: a policy with a shape has its worth by the measure at its year, and one without a shape
-- has the word
abbrev pub IsReserveOf : Policy → AnyTable → ℕ → ℤ → Measure → Result Shape NotValued → ℕ → Worth → Type 0
IsReserveOf policy table bp on measure (Ok shape) t worth =
    IsYear policy.issued on shape.n t
    × IsWorthOf measure policy (cover_along table shape bp) (cap_along table shape.age bp) t worth
IsReserveOf policy table bp on measure (Err word) t worth = (t ≡ 0) × (worth ≡ Word word)

-- the year and the worth of an insured policy: by the last entry of the basis that had begun on its day of issue
pub record IsValueOf (policy : Policy) (basis : List Dated) (on : ℤ) (measure : Measure) (t : ℕ) (worth : Worth) : Type 0 where
  pub unnamed : All (λ (entry : Dated). policy.issued <ℤ entry.from_day) basis → (t ≡ 0) × (worth ≡ Word NoBasis)
  pub named : (index : ℕ) → (entry : Dated) → IsPicked basis policy.issued index entry
      → IsReserveOf policy entry.table entry.bp on measure (shape_of policy.plan policy.age policy.years entry.table) t worth

-- the bounds enclose the exact reserve of the policy's amount by the measure and differ by at most two cents; and the
-- reserve is by the rates of the age at issue and the duration
abbrev pub IsExact : Measure → Policy → AnyTable → ℕ → ℕ → Worth → Type 0
IsExact measure policy table bp t worth =
    (shape : Shape) → shape_of policy.plan policy.age policy.years table ≡ Ok shape
    → AreByDuration table shape.age (cover_along table shape bp) (cap_along table shape.age bp)
    × IsExactFor measure policy (cover_along table shape bp) (cap_along table shape.age bp) t worth
