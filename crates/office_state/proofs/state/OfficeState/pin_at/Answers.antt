use Rattle.office_state.proofs.Names.{List, arith, Entry, StandsFor}
use Rattle.office_state.proofs.PinTurns.{stands_ahead, stands_pin_at, stands_trimmed}
use Rattle.office_state.proofs.state.OfficeState.pin_at.Goals as goal

pub returns-then-count-p-clause-stands : goal.returns-then-count-p-clause-stands
returns-then-count-p-clause-stands g c = λ (history : List Entry) (stands : StandsFor c.args.self.now history).
    stands_ahead c.args.self.now history stands _ c.args.caller c.args.p c.count-count.result c.count-count.ensures (omega (arith, c.if-count-p.true))

pub returns-then-p-floor-clause-stands : goal.returns-then-p-floor-clause-stands
returns-then-p-floor-clause-stands g c = λ (history : List Entry) (stands : StandsFor c.args.self.now history).
    rw c.floor-floor.ensures
    (stands_trimmed c.args.self.now history stands _ c.args.caller c.args.p (omega (arith, c.if-count-p.false, c.count-count.ensures))
    (omega (arith, c.if-p-floor.true, c.floor-floor.ensures)))

pub returns-clause-stands : goal.returns-clause-stands
returns-clause-stands g c = λ (history : List Entry) (stands : StandsFor c.args.self.now history).
    stands_pin_at c.args.self.now history stands _ c.args.caller c.args.p c.hold.new.pins c.hold.result
    (omega (arith, c.if-count-p.false, c.count-count.ensures)) (omega (arith, c.if-p-floor.false, c.floor-floor.ensures)) c.hold.ensures
