use Rattle.command_csv.proofs.Lanes.{lanes_whole}
use Rattle.command_csv.proofs.laws.lanes_are_whole.Goals as goal

pub returns : goal.returns
returns c = lanes_whole
