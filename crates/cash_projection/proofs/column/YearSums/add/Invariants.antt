use Rattle.cash_projection.specs.inside.Tallies.{HasRisen}
use Rattle.cash_projection.proofs.column.YearSums.add.Given as goal

-- the years before this one are added
abbrev pub invariant-loop-j : goal.invariant-loop-j
invariant-loop-j l = HasRisen l.from l.j l.cents l.pairs l.fn.self.sums l.self.sums
