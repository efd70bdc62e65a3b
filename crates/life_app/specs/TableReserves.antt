-- The exact reserves by the tables, as the headline is given them
use Rattle.std.specs.Prelude.{◌≡◌, ℕ, Ok, Err}
use Rattle.life_app.specs.Names.{Dated, Policy, Fraction, NotValued}
use Rattle.plan_benefits.specs.Shapes.{shape_of}
use Rattle.policy_value.specs.Covers.{AreByDuration, cap_along, cover_along}
use Rattle.policy_value.specs.Measures.{exact_reserve}
use Rattle.policy_value.specs.declared.worth.Measure.TheVariants.{Terminal}
use Rattle.rate_table.specs.declared.shape.Shape.{Shape}
use Rattle.life_app.specs.Given.{Reserves}

-- by the rates of the age at issue and the duration
pub record IsTableReserve (policy : Policy) (entry : Dated) (years t : ℕ) (reserve : Fraction) : Type 0 where
  pub shape : Shape
  pub shaped : shape_of policy.plan policy.age policy.years entry.table ≡ Ok shape
  pub covered : years ≡ shape.n
  pub rates : AreByDuration entry.table shape.age (cover_along entry.table shape entry.bp) (cap_along entry.table shape.age entry.bp)
  pub exact : reserve
      ≡ exact_reserve Terminal policy.status (cover_along entry.table shape entry.bp) (cap_along entry.table shape.age entry.bp) t

-- and none if it has no shape, for the same reason
abbrev pub table_reserves : Reserves
table_reserves = record {
  Is = IsTableReserve;
  HasNone = λ policy entry why. shape_of policy.plan policy.age policy.years entry.table ≡ Err why;
}

-- There is at most one exact reserve, and none if there is a reason for that.
pub record AreOnce (reserves : Reserves) : Type 0 where
  pub one : (policy : Policy) (entry : Dated) (years other t : ℕ) (reserve another : Fraction) → reserves.Is policy entry years t reserve
      → reserves.Is policy entry other t another → (years ≡ other) × (reserve ≡ another)
  pub none : (policy : Policy) (entry : Dated) (years t : ℕ) (reserve : Fraction) (why : NotValued)
      → reserves.Is policy entry years t reserve → reserves.HasNone policy entry why → ⊥
