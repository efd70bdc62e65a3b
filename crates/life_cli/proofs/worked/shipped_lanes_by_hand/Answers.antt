use Rattle.life_cli.proofs.WorkedStart.{shipped_lanes}
use Rattle.life_cli.proofs.worked.shipped_lanes_by_hand.Goals as goal

pub returns : goal.returns
returns c = shipped_lanes
