use Rattle.xtbml_subset.proofs.Names.{◌≡◌, ◌++◌, None, map, ReadsIssue, issues_from, found_of, bytes_left}
use Rattle.xtbml_subset.proofs.ReadingRuns.{AllSoFar}
use Rattle.xtbml_subset.proofs.Filled.{issues_left}
use Rattle.xtbml_subset.proofs.issue.read_issues.Given as goal

abbrev pub invariant-loop-next : goal.invariant-loop-next
invariant-loop-next l = record {
  so_far : AllSoFar ReadsIssue None (issues_from l.total (found_of l.first)) (map (λ row. row.items) l.rows.items) l.due (issues_left l.total l.next);
  place : l.places.items ++ map (λ issue. issue.at) (issues_left l.total l.next) ≡ map (λ issue. issue.at) (issues_from l.total (found_of l.first));
}

abbrev pub decreases-loop-next : goal.decreases-loop-next
decreases-loop-next l = bytes_left l.next
