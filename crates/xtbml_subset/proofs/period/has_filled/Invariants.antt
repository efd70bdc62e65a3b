use Rattle.xtbml_subset.proofs.Names.{◌≡◌, ℕ, has_filled, rows_from, found_of, bytes_left}
use Rattle.xtbml_subset.proofs.RowRuns.{rows_left}
use Rattle.xtbml_subset.proofs.period.has_filled.Given as goal

abbrev pub invariant-loop-next : goal.invariant-loop-next
invariant-loop-next l = (total : ℕ) → has_filled (rows_left total l.next) ≡ has_filled (rows_from total (found_of l.first))

abbrev pub decreases-loop-next : goal.decreases-loop-next
decreases-loop-next l = bytes_left l.next
