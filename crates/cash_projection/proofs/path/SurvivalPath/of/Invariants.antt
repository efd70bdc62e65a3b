use Rattle.cash_projection.specs.inside.Paths.{rates_after, KnowsYears}
use Rattle.cash_projection.proofs.path.SurvivalPath.of.Given as goal

-- so many years are known
abbrev pub invariant-loop-j : goal.invariant-loop-j
invariant-loop-j l = KnowsYears (rates_after l.table l.key.age) l.j l.alive l.dying
