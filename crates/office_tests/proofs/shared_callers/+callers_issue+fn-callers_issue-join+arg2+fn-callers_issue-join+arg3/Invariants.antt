use Rattle.std.proofs.Common.{◌+◌, ◌*◌}
use Rattle.office_tests.proofs.shared_callers.+callers_issue+fn-callers_issue-join+arg2+fn-callers_issue-join+arg3.Given as goal

abbrev pub decreases-join+arg2 : goal.decreases-join+arg2
decreases-join+arg2 g l = 2 * l.half + 1

abbrev pub decreases-join+arg3 : goal.decreases-join+arg3
decreases-join+arg3 g l = 2 * l.rest + 1

abbrev pub decreases-callers_issue : goal.decreases-callers_issue
decreases-callers_issue g l = 2 * l.callers
