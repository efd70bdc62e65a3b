use Rattle.std.proofs.Common.{◌≤◌, length}
use Rattle.std.specs.List.{AllByRecursion}
use Rattle.cash_projection.specs.Policies.{IsOfIssue}
use Rattle.measure.proofs.projections.drawn.Given as goal

-- the policies so far may be issued
abbrev pub invariant-loop-before : goal.invariant-loop-before
invariant-loop-before l = record { sound : AllByRecursion IsOfIssue l.policies.items; few : length l.policies.items ≤ l.before }
