use Rattle.office_state.proofs.Names.{List, Entry, StandsFor}
use Rattle.office_state.proofs.PinTurns.{stands_unpinned}
use Rattle.office_state.proofs.state.OfficeState.unpin.Goals as goal

pub returns-clause-stands : goal.returns-clause-stands
returns-clause-stands g c = λ (history : List Entry) (stands : StandsFor c.args.self.now history).
    stands_unpinned c.args.self.now history stands _ c.args.caller c.args.pin c.without-self.result c.without-self.ensures c.requires.held
