use Rattle.std.proofs.Common.{length}
use Rattle.lane_runner.proofs.running.+settle.Given as goal

abbrev pub decreases-settle : goal.decreases-settle
decreases-settle g l = length l.inlets.now
