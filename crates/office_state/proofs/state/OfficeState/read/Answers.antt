use Rattle.office_state.proofs.Names.{List, Entry, StandsFor}
use Rattle.office_state.proofs.PinTurns.{pins_above, stands_read}
use Rattle.office_state.proofs.state.OfficeState.read.Goals as goal

-- no live pin's position is below the floor
pub fill-requires-clause-floor : goal.fill-requires-clause-floor
fill-requires-clause-floor g c =
    let (history, stands) = c.requires.stands in
    pins_above c.args.self.now history stands c.args.self.now.counted c.in-Some.held c.in-Some.ensures.found.0

pub returns-clause-stands : goal.returns-clause-stands
returns-clause-stands g c = λ (history : List Entry) (stands : StandsFor c.args.self.now history).
    stands_read c.args.self.now history stands _ c.args.caller c.args.pin c.args.first c.in-Some.held c.fill.new.window.items c.requires.held
    c.in-Some.ensures.found.0 c.in-Some.ensures.found.1 c.fill.ensures.policies
