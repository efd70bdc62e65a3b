use Rattle.std.proofs.Common.{◌+◌, ◌*◌}
use Rattle.measure.proofs.lane.+fn-lanes-join+arg2+fn-lanes-join+arg3+lanes.Given as goal

abbrev pub decreases-join+arg2 : goal.decreases-join+arg2
decreases-join+arg2 g l = 2 * l.half + 1

abbrev pub decreases-join+arg3 : goal.decreases-join+arg3
decreases-join+arg3 g l = 2 * l.rest + 1

abbrev pub decreases-lanes : goal.decreases-lanes
decreases-lanes g l = 2 * l.callers
