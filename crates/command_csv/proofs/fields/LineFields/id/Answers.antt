use Rattle.command_csv.proofs.Names.{arith, IsId}
use Rattle.command_csv.proofs.FieldTexts.{number_missed}
use Rattle.command_csv.proofs.fields.LineFields.id.Goals as goal

pub returns-then-id-eq0-clause-none : goal.returns-then-id-eq0-clause-none
returns-then-id-eq0-clause-none c =
    number_missed IsId c.in_ok-id.id _ _ _ c.in_ok-next_field.ensures.some c.in_ok-next_field.ensures.counted c.in_ok-id.ensures.number.1
    (omega (arith, c.in_ok-id.ensures.number.0)) (λ x h. omega (arith, h)) (λ h. omega (arith, h, c.if-id-eq0.true))
