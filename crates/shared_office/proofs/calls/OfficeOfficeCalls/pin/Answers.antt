use Rattle.shared_office.proofs.Names.{refl, Pin}
use Rattle.shared_office.proofs.Holding.{given, keeps_pins}
use Rattle.shared_office.proofs.calls.OfficeOfficeCalls.pin.Goals as goal

pub returns-clause-held : goal.returns-clause-held
returns-clause-held g c =
    given c.turn-turn.result.turn Pin c.args.pass.now c.turn-turn.new.pass tt c.caller-caller.ensures.facts c.turn-turn.result.answer
    c.pin_taken.result.turn c.caller-caller.result c.pin_taken.result.answer c.pin_taken.ensures.0 c.caller-caller.ensures.number c.pin_taken.ensures.1
    c.turn-turn.ensures.turn

pub returns-clause-pins : goal.returns-clause-pins
returns-clause-pins g c = keeps_pins _ _ c.args.pass.now c.turn-turn.new.pass c.turn-turn.ensures.turn (λ pin. refl)
