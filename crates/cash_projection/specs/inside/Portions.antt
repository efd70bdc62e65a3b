-- The portions of a list of policies, and what the workers of a projection make of them
use Rattle.std.specs.Prelude.{ℕ, ◌≤◌, List, [], ◌∷◌, ◌++◌, length, ℤ}
use Rattle.cash_projection.specs.Names.{AllByRecursion, AllZip, most_commands, Policy, Dated}
use Rattle.cash_projection.specs.Policies.{IsOfIssue}
use Rattle.cash_projection.specs.inside.Paths.{ArePaths}
use Rattle.cash_projection.specs.inside.Tallies.{IsTallyOf}
use Rattle.cash_projection.specs.declared.portions.Portion.{Portion}
use Rattle.cash_projection.specs.declared.projector.Projector.{Projector}
use Rattle.cash_projection.specs.declared.tally.Tally.{Tally}

-- the policies of the portions, one after the other
abbrev pub policies_of_portions : List Portion → List Policy
policies_of_portions [] = []
policies_of_portions (portion ∷ more) = portion.policies.now ++ policies_of_portions more

-- what a worker takes
pub record TakesPortion (projector : Projector) (portion : Portion) : Type 0 where
  pub years : projector.years ≤ 131
  pub right : ArePaths projector.basis.now projector.paths
  pub sound : AllByRecursion IsOfIssue portion.policies.now
  pub few : length portion.policies.now ≤ most_commands

-- what it gives
abbrev pub GivesTally : Projector → Portion → Tally → Type 0
GivesTally projector portion tally =
    IsTallyOf projector.basis.now projector.on projector.years portion.policies.now tally

-- the worker takes portions, and is right for this basis, day and number of years
pub record IsProjectorFor (basis : List Dated) (on : ℤ) (years : ℕ) (projector : Projector) : Type 0 where
  pub takes : (portion : Portion) → AllByRecursion IsOfIssue portion.policies.now → length portion.policies.now ≤ most_commands
      → TakesPortion projector portion
  pub by : (portion : Portion) (tally : Tally) → GivesTally projector portion tally
      → IsTallyOf basis on years portion.policies.now tally

-- each portion has its tally
abbrev pub AreTallies : List Dated → ℤ → ℕ → List Portion → List Tally → Type 0
AreTallies basis on years portions tallies =
    AllZip (λ (portion : Portion) (tally : Tally). IsTallyOf basis on years portion.policies.now tally) portions tallies

-- the tallies are those of portions of at most 4,000,000 policies
pub record AreTalliesOfFew (years : ℕ) (tallies : List Tally) : Type 0 where
  pub basis : List Dated
  pub on : ℤ
  pub portions : List Portion
  pub each : AreTallies basis on years portions tallies
  pub few : length (policies_of_portions portions) ≤ most_commands
