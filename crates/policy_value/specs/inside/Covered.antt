-- The cover of a policy, as the program has it.
use Rattle.std.specs.Prelude.{◌≡◌, ℕ, ◌+◌, List, Some, Ok, slice_get}
use Rattle.policy_value.specs.Names.{AreRates, HoldsAge, table_along, shape_of, Cover, cover_of, cap_of, CanReserve, Dated, Plan}
use Rattle.policy_value.specs.Caches.{IsRowOf}
use Rattle.policy_value.specs.declared.covered.Covered.{Covered}
use Rattle.policy_value.specs.declared.covered.IssueRates.{IssueRates}

-- the rates and the interest are those of a row of the basis, for the age by which they are kept
abbrev pub IsByRow : List Dated → IssueRates → Type 0
IsByRow basis rates = IsRowOf basis rates.basis_row rates.issue rates.table.now rates.bp

-- the cover, and the one that limits its net premium
abbrev pub cover_by : Covered → Cover
cover_by covered = cover_of covered.own.table.now covered.shape covered.own.bp

abbrev pub cap_by : Covered → Cover
cap_by covered = cap_of covered.next.table.now covered.shape.age covered.own.bp

-- both sets of rates are by one row, whose entry this is: those of the age at issue and those of the next. By them
-- the shape has a modified net premium.
pub record IsCovered (basis : List Dated) (entry : Dated) (covered : Covered) : Type 0 where
  pub row : slice_get basis covered.own.basis_row ≡ Some entry
  pub own : covered.own.table.now ≡ table_along entry.table covered.shape.age
  pub next : covered.next.table.now ≡ table_along entry.table (covered.shape.age + 1)
  pub interest : covered.own.bp ≡ entry.bp
  pub one : covered.next.bp ≡ covered.own.bp
  pub own_row : IsByRow basis covered.own
  pub next_row : IsByRow basis covered.next
  pub ages : AreRates covered.own.table.now
  pub can : CanReserve covered.own.table.now covered.shape covered.own.bp
  pub capped : HoldsAge covered.next.table.now (covered.shape.age + 1)

-- the same for the shape of a plan, an age at issue and years
pub record IsCoverOf (basis : List Dated) (plan : Plan) (age years : ℕ) (covered : Covered) : Type 0 where
  pub entry : Dated
  pub is : IsCovered basis entry covered
  pub shape : shape_of plan age years entry.table ≡ Ok covered.shape
