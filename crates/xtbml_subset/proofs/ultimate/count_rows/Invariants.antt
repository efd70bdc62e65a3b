use Rattle.xtbml_subset.proofs.Names.{◌≡◌, ◌+◌, ◌≤◌, length, codes, siblings_at, found_of, bytes_left}
use Rattle.xtbml_subset.proofs.RowRuns.{rows_left}
use Rattle.xtbml_subset.proofs.ultimate.count_rows.Given as goal

abbrev pub invariant-loop-next : goal.invariant-loop-next
invariant-loop-next l = record {
  count : l.count + length (rows_left 0 l.next) ≡ 1 + length (siblings_at (codes "Y") (found_of l.first));
  low : l.count + bytes_left l.next ≤ 4194305;
}

abbrev pub decreases-loop-next : goal.decreases-loop-next
decreases-loop-next l = bytes_left l.next
