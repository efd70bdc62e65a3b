use Rattle.cash_projection.proofs.Names.{◌≡◌, ◌++◌, length, policies_of_portions}
use Rattle.cash_projection.proofs.portions.portions_of.Given as goal

abbrev pub invariant-loop-rest : goal.invariant-loop-rest
invariant-loop-rest l = policies_of_portions l.portions.items ++ l.rest ≡ l.policies

abbrev pub decreases-loop-rest : goal.decreases-loop-rest
decreases-loop-rest l = length l.rest
