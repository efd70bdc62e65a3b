use Rattle.cash_projection.specs.inside.Tallies.{AreBothSums}
use Rattle.cash_projection.proofs.Columns.{StaysFrom}
use Rattle.cash_projection.proofs.column.YearSums.join.Given as goal

-- the years before this one are added
abbrev pub invariant-loop-j : goal.invariant-loop-j
invariant-loop-j l = record {
  joined : AreBothSums l.j l.fn.self.sums l.other.sums l.self.sums;
  stays : StaysFrom l.j l.fn.self.sums l.self.sums;
}
