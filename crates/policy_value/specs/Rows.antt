-- The row of a policy in a valuation: its worth on a day by a basis and a measure, or the word that says why it has
-- none
use Rattle.std.specs.Prelude.{◌≡◌, ℕ, ◌≤◌, ◌⊎◌, min, ⊤, List, All, ℤ, ◌<ℤ◌, ◌≤ℤ◌, MatchResult}
use Rattle.policy_value.specs.Names.{Policy, InForce, PaidUp, Shape, shape_of, Dated, IsPicked, NotValued}
use Rattle.life_dates.specs.Anniversary.{IsCompleted}
use Rattle.plan_benefits.specs.declared.fault.NotValued.TheVariants.{NoBasis}
use Rattle.policy_value.specs.declared.worth.Row.{Row}
use Rattle.policy_value.specs.declared.worth.Worth.{Worth}
use Rattle.policy_value.specs.declared.worth.Worth.TheVariants.{Bounds, Both, Word}
use Rattle.policy_value.specs.declared.worth.Measure.{Measure}
use Rattle.policy_value.specs.Covers.{AreByDuration, cap_along, cover_along}
use Rattle.policy_value.specs.Measures.{IsExactFor, IsWorthOf, no_reserve}

-- in force, whether or not a premium is in arrears, or paid up, and issued by the day
abbrev pub IsInsured : Policy → ℤ → Type 0
IsInsured policy on = ((policy.status ≡ InForce) ⊎ (policy.status ≡ PaidUp)) × (policy.issued ≤ℤ on)

-- the whole years from the issue to the day, and at most the n years of cover
abbrev pub IsYear : (issued on : ℤ) (n t : ℕ) → Type 0
IsYear issued on n t = (years : ℕ) × IsCompleted issued on years × (t ≡ min years n)

-- What is reported of a policy on a day: that it isn't insured then; or why it has no value; or its value by an entry
-- of the basis, which is the last one that had begun on its day of issue, and its shape
pub record IsByEntry (basis : List Dated) (on : ℤ) (policy : Policy) (Uninsured : Type 0) (Without : NotValued → Type 0)
    (With : Dated → Shape → Type 0) : Type 0 where
  pub uninsured : (IsInsured policy on → ⊥) → Uninsured
  pub unnamed : IsInsured policy on → All (λ (entry : Dated). policy.issued <ℤ entry.from_day) basis → Without NoBasis
  pub named : IsInsured policy on → (index : ℕ) → (entry : Dated) → IsPicked basis policy.issued index entry
      → MatchResult (shape_of policy.plan policy.age policy.years entry.table) (With entry) Without

-- The row of a policy on a day by a measure. Its bounds are the rounded ones by the rates of the age at issue and the
-- duration, and enclose the exact reserve; or it has a word.
pub record IsValuedRow (basis : List Dated) (on : ℤ) (measure : Measure) (policy : Policy) (row : Row) : Type 0 where
  pub id : row.id ≡ policy.id
  pub status : row.status ≡ policy.status
  pub worth : IsByEntry basis on policy ((row.t ≡ 0) × (row.worth ≡ no_reserve measure))
      (λ why. (row.t ≡ 0) × (row.worth ≡ Word why))
      (λ entry shape.
      let c = cover_along entry.table shape entry.bp in let cap = cap_along entry.table shape.age entry.bp in
      IsYear policy.issued on shape.n row.t × IsWorthOf measure policy c cap row.t row.worth
      × AreByDuration entry.table shape.age c cap × IsExactFor measure policy c cap row.t row.worth)

-- bounds are in order, and none is above the amount
abbrev pub IsWithinAmount : ℕ → Worth → Type 0
IsWithinAmount amount (Bounds lo hi) = (lo ≤ hi) × (hi ≤ amount)
IsWithinAmount amount (Both lo hi min_lo min_hi test) = (lo ≤ hi) × (hi ≤ amount) × (min_lo ≤ min_hi) × (min_hi ≤ amount)
IsWithinAmount amount (Word word) = ⊤
