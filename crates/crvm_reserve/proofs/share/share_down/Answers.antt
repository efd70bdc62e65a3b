use Rattle.crvm_reserve.proofs.Sharing.{down_twice}
use Rattle.crvm_reserve.proofs.share.share_down.Goals as goal

pub returns : goal.returns
returns c = down_twice c.args.amount c.args.units
