use Rattle.std.proofs.Common.{length}
use Rattle.reserve_tests.proofs.projection_sums_tests.+are_of_issue.Given as goal

abbrev pub decreases-are_of_issue : goal.decreases-are_of_issue
decreases-are_of_issue l = length l.policies.now
