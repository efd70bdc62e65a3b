use Rattle.xtbml_subset.proofs.Names.{None, filled, ReadsDuration, rows_from, found_of, bytes_left}
use Rattle.xtbml_subset.proofs.ReadingRuns.{AllSoFar}
use Rattle.xtbml_subset.proofs.RowRuns.{rows_left}
use Rattle.xtbml_subset.proofs.period.read_period.Given as goal

abbrev pub invariant-loop-next : goal.invariant-loop-next
invariant-loop-next l =
    AllSoFar ReadsDuration (record { duration = None; age = l.age }) (filled (rows_from l.total (found_of l.first))) l.rates.items l.due (filled (rows_left l.total l.next))

abbrev pub decreases-loop-next : goal.decreases-loop-next
decreases-loop-next l = bytes_left l.next
