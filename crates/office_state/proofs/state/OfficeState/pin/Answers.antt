use Rattle.office_state.proofs.Names.{List, Entry, StandsFor}
use Rattle.office_state.proofs.PinTurns.{stands_pin}
use Rattle.office_state.proofs.state.OfficeState.pin.Goals as goal

pub returns-clause-stands : goal.returns-clause-stands
returns-clause-stands g c = λ (history : List Entry) (stands : StandsFor c.args.self.now history).
    stands_pin c.args.self.now history stands _ c.args.caller c.count.result c.hold.new.pins c.hold.result c.count.ensures c.hold.ensures
