-- The row of a policy, by what was found of it.
use Rattle.policy_value.proofs.Names.{◌≡◌, ℕ, refl, List, ℤ, Result, Ok, Err, Dated, IsPicked}
use Rattle.std.specs.Prelude.{MatchResult}
use Rattle.policy_types.specs.declared.policy.Policy.{Policy}
use Rattle.rate_table.specs.declared.shape.Shape.{Shape}
use Rattle.plan_benefits.specs.Shapes.{shape_of}
use Rattle.plan_benefits.specs.declared.fault.NotValued.{NotValued}
use Rattle.policy_value.specs.declared.worth.Measure.{Measure}
use Rattle.policy_value.specs.declared.worth.Row.{Row}
use Rattle.policy_value.specs.declared.worth.Worth.{Worth}
use Rattle.policy_value.specs.declared.worth.Worth.TheVariants.{Word}
use Rattle.policy_value.specs.Covers.{AreByDuration, cap_along, cover_along}
use Rattle.policy_value.specs.Measures.{IsExactFor, IsWorthOf, no_reserve}
use Rattle.policy_value.specs.Rows.{IsInsured, IsValuedRow, IsYear}
use Rattle.policy_value.specs.inside.Valued.{IsExact, IsReserveOf, IsValueOf}

-- the worth by an entry is exact if there is a shape
by_shape : (policy : Policy) (entry : Dated) (on : ℤ) (measure : Measure) (t : ℕ) (worth : Worth) (r : Result Shape NotValued)
    → shape_of policy.plan policy.age policy.years entry.table ≡ r → IsReserveOf policy entry.table entry.bp on measure r t worth
    → IsExact measure policy entry.table entry.bp t worth
    → MatchResult r (λ shape. IsYear policy.issued on shape.n t
    × IsWorthOf measure policy (cover_along entry.table shape entry.bp) (cap_along entry.table shape.age entry.bp) t worth
    × AreByDuration entry.table shape.age (cover_along entry.table shape entry.bp) (cap_along entry.table shape.age entry.bp)
    × IsExactFor measure policy (cover_along entry.table shape entry.bp) (cap_along entry.table shape.age entry.bp) t worth)
    (λ why. (t ≡ 0) × (worth ≡ Word why))
by_shape policy entry on measure t worth (Ok shape) is value exact = (value.0, value.1, (exact shape is).0, (exact shape is).1)
by_shape policy entry on measure t worth (Err word) is value exact = value

module _ (basis : List Dated) (on : ℤ) (measure : Measure) (policy : Policy) (row : Row) (id : row.id ≡ policy.id)
    (status : row.status ≡ policy.status) where
  pub insured_row : IsInsured policy on → IsValueOf policy basis on measure row.t row.worth
      → ((index : ℕ) → (entry : Dated) → IsPicked basis policy.issued index entry
      → IsExact measure policy entry.table entry.bp row.t row.worth)
      → IsValuedRow basis on measure policy row
  insured_row insured value exact = record {
    id = id;
    status = status;
    worth = record {
      uninsured = λ not. absurd (not insured);
      unnamed = λ _ none. value.unnamed none;
      named = λ _ index entry picked.
          by_shape policy entry on measure row.t row.worth (shape_of policy.plan policy.age policy.years entry.table) refl
          (value.named index entry picked) (exact index entry picked);
    };
  }

  pub uninsured_row : (IsInsured policy on → ⊥) → row.t ≡ 0 → row.worth ≡ no_reserve measure → IsValuedRow basis on measure policy row
  uninsured_row not year none = record {
    id = id;
    status = status;
    worth = record {
      uninsured = λ _. (year, none);
      unnamed = λ insured. absurd (not insured);
      named = λ insured. absurd (not insured);
    };
  }
