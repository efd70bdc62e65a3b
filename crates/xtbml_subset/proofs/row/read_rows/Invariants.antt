use Rattle.xtbml_subset.proofs.Names.{◌≡◌, None, length, ReadsRow, rows_from, found_of, bytes_left}
use Rattle.xtbml_subset.proofs.ReadingRuns.{AllSoFar}
use Rattle.xtbml_subset.proofs.RowRuns.{rows_left}
use Rattle.xtbml_subset.proofs.row.read_rows.Given as goal

abbrev pub invariant-loop-next : goal.invariant-loop-next
invariant-loop-next l = record {
  so_far : AllSoFar ReadsRow None (rows_from l.total (found_of l.first)) l.rates.items l.due (rows_left l.total l.next);
  count : length (rows_left l.total l.next) ≡ l.left;
}

abbrev pub decreases-loop-next : goal.decreases-loop-next
decreases-loop-next l = bytes_left l.next
