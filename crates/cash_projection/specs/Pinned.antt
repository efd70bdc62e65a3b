-- The projection of the policies at a pinned position.
use Rattle.std.specs.Prelude.{◌≡◌, ◌≤◌, ℕ, List, length, ℤ, Result}
use Rattle.cash_projection.specs.Names.{most_commands, Policy, Dated, Holding, OfficeOpening}
use Rattle.policy_types.specs.declared.entry.At.{At}
use Rattle.snapshot_value.specs.Reading.{HasMadeOfBook}
use Rattle.snapshot_value.specs.declared.valuation.ValueFault.{ValueFault}
use Rattle.cash_projection.specs.Policies.{IsCashOf}
use Rattle.cash_projection.specs.declared.printing.Projection.{Projection}

-- the position, the day, the number of policies, which is no more than there may be, how many of them have a word,
-- and their cash in each of so many years
pub record IsProjectionAt (basis : List Dated) (on : ℤ) (years position : ℕ) (policies : List Policy)
    (projection : Projection) : Type 0 where
  pub pinned : projection.position ≡ position
  pub day : projection.on ≡ on
  pub counted : projection.policies ≡ length policies
  pub cash : IsCashOf basis on policies years projection.unvalued projection.years
  pub few : length policies ≤ most_commands

-- a caller projected the policies at the position that was pinned
abbrev pub HasProjected : {D W : Type 0} → List Dated → ℤ → ℕ → At → Holding (OfficeOpening D W)
    → Holding (OfficeOpening D W) → ℕ → Result Projection ValueFault → Type 0
HasProjected basis on years at old new turn answer =
    HasMadeOfBook (IsProjectionAt basis on years) at old new turn answer
