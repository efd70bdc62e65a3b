use Rattle.command_csv.proofs.Names.{arith, AreWorkers}
use Rattle.command_csv.proofs.FieldTexts.{number_missed}
use Rattle.command_csv.proofs.fields.LineFields.workers.Goals as goal

pub returns-then-workers-eq0-clause-none : goal.returns-then-workers-eq0-clause-none
returns-then-workers-eq0-clause-none c =
    number_missed AreWorkers c.in_ok-workers.workers _ _ _ c.in_ok-next_field.ensures.some c.in_ok-next_field.ensures.counted c.in_ok-workers.ensures.number.1
    (omega (arith, c.in_ok-workers.ensures.number.0)) (λ x h. omega (arith, h)) (λ h. omega (arith, h, c.if-workers-eq0.true))
