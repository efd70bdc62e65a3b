use Rattle.std.proofs.Common.{refl}
use Rattle.cash_projection.proofs.RoomSteps.{more_read}
use Rattle.cash_projection.proofs.tallier.Tallier.put.Goals as goal

pub returns : goal.returns
returns c = λ basis on years policies has.
    let old = c.args.self.now in
    more_read basis on years policies old
    (record { on = old.on; projectors = old.projectors; room = c.extend.new.items; tally = old.tally })
    has c.args.part.now c.requires.sound refl refl refl c.in_ok-extend.ensures.items
