use Rattle.crvm_reserve.proofs.Sharing.{up_twice}
use Rattle.crvm_reserve.proofs.share.share_up.Goals as goal

pub returns : goal.returns
returns c = up_twice c.args.amount c.args.units
