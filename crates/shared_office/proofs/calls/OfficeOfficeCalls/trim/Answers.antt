use Rattle.std.proofs.Common.{refl}
use Rattle.shared_office.proofs.Holding.{keeps_pins}
use Rattle.shared_office.proofs.calls.OfficeOfficeCalls.trim.Goals as goal

pub returns-clause-pins : goal.returns-clause-pins
returns-clause-pins g c = keeps_pins c.turn.result.turn _ c.args.pass.now c.turn.new.pass c.turn.ensures.turn (λ pin. refl)
