use Rattle.std.proofs.Common.{refl}
use Rattle.shared_office.proofs.Holding.{keeps_pins}
use Rattle.shared_office.proofs.calls.OfficeOfficeCalls.read.Goals as goal

pub returns-clause-pins : goal.returns-clause-pins
returns-clause-pins g c = keeps_pins _ _ c.args.pass.now c.turn-turn.new.pass c.turn-turn.ensures.turn (λ pin. refl)
