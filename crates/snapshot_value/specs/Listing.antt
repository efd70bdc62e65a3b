-- The policies at a pinned position
use Rattle.std.specs.Prelude.{◌≡◌, ℕ, ◌≤◌, List, length, Result}
use Rattle.snapshot_value.specs.Names.{AllByRecursion, most_commands, Policy, At, IsSound, Holding, OfficeOpening}
use Rattle.snapshot_value.specs.Reading.{HasMadeOfBook}
use Rattle.snapshot_value.specs.declared.valuation.Policies.{Policies}
use Rattle.snapshot_value.specs.declared.valuation.ValueFault.{ValueFault}

-- the position, and all policies there; they are as the rules leave them, and not more than there may be
pub record IsBookAt (position : ℕ) (policies : List Policy) (listed : Policies) : Type 0 where
  pub pinned : listed.position ≡ position
  pub all : listed.book ≡ policies
  pub few : length listed.book ≤ most_commands
  pub sound : AllByRecursion IsSound listed.book

-- a caller listed the policies at the position that was pinned
abbrev pub HasListed : {D W : Type 0} → At → Holding (OfficeOpening D W) → Holding (OfficeOpening D W) → ℕ
    → Result Policies ValueFault → Type 0
HasListed at old new turn answer = HasMadeOfBook IsBookAt at old new turn answer
