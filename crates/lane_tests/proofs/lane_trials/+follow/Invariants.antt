use Rattle.std.proofs.Common.{length}
use Rattle.lane_tests.proofs.lane_trials.+follow.Given as goal

abbrev pub decreases-follow : goal.decreases-follow
decreases-follow l = length l.lanes.now
