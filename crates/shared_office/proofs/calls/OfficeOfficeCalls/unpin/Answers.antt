use Rattle.std.proofs.Common.{refl, ap, subst}
use Rattle.shared_office.specs.Pins.{KeepsOtherPins}
use Rattle.shared_office.proofs.Holding.{keeps_others}
use Rattle.shared_office.proofs.calls.OfficeOfficeCalls.unpin.Goals as goal

pub returns-clause-pins : goal.returns-clause-pins
returns-clause-pins g c =
    subst (λ n. KeepsOtherPins n c.args.pass.now c.turn.new.pass) (ap (λ held. held.number) c.held-held.ensures)
    (keeps_others _ _ c.args.pass.now c.turn.new.pass c.turn.ensures.turn c.held-held.result.number refl)
