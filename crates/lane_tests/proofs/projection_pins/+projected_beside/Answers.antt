use Rattle.std.proofs.Common.{◌≡◌, IfOk, ap, arith, subst}
use Rattle.office_state.specs.declared.held.Held.{Held}
use Rattle.shared_office.specs.Pins.{HoldsPin}
use Rattle.shared_office.proofs.Holding.{earlier}
use Rattle.lane_tests.proofs.projection_pins.+projected_beside.Goals as goal

pub returns-in-Ok-clause-pins : goal.returns-in-Ok-clause-pins
returns-in-Ok-clause-pins g t c pin holds =
    let taken = subst (λ answer. IfOk answer (λ pin. (pin.number ≡ c.pin.result.turn) × HoldsPin c.pin.new.pass pin)) c.in-Ok.is c.pin.ensures.held in
    let number : c.in-Ok.pin.number ≡ c.pin.result.turn = taken.0 in
    let low = earlier c.pin.result.turn _ c.args.pass.now c.pin.new.pass c.pin.ensures.turn pin holds in
    c.unpin.ensures.pins pin (λ same. omega (arith, low, same, number, ap (λ (taken : Held). taken.number) c.in-Ok.pin-is)) (c.projected_beside-found.ensures.pins pin (c.pin.ensures.pins pin holds))
