-- What was tallied of the policies that were read
use Rattle.std.specs.Prelude.{◌≡◌, ℕ, ◌≤◌, List, ◌++◌, length, ℤ}
use Rattle.cash_projection.specs.Names.{AllByRecursion, most_commands, Policy, Dated}
use Rattle.cash_projection.specs.Policies.{IsOfIssue}
use Rattle.cash_projection.specs.inside.Portions.{IsProjectorFor}
use Rattle.cash_projection.specs.inside.Tallies.{IsTallyOf}
use Rattle.cash_projection.specs.declared.tallier.Tallier.{Tallier}

-- Of the policies, in order, the first are tallied by this basis on this day for so many years; the others were read
-- and aren't tallied yet.
pub record HasTallied (basis : List Dated) (on : ℤ) (years : ℕ) (policies : List Policy) (tallier : Tallier) : Type 0 where
  pub day : tallier.on ≡ on
  pub many : tallier.tally.years ≡ years
  pub most : years ≤ 131
  pub some : 1 ≤ length tallier.projectors.items
  pub few : length tallier.projectors.items ≤ 64
  pub each : AllByRecursion (IsProjectorFor basis on tallier.tally.years) tallier.projectors.items
  pub sound : AllByRecursion IsOfIssue tallier.room.items
  pub tallied : List Policy
  pub whole : policies ≡ tallied ++ tallier.room.items
  pub is : IsTallyOf basis on tallier.tally.years tallied tallier.tally

-- and in addition they are no more than there may be policies
pub record CanTally (tallier : Tallier) : Type 0 where
  pub basis : List Dated
  pub on : ℤ
  pub years : ℕ
  pub policies : List Policy
  pub has : HasTallied basis on years policies tallier
  pub limit : length policies ≤ most_commands
