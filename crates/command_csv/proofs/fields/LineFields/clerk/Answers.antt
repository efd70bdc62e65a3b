use Rattle.command_csv.proofs.Names.{arith, IsClerk}
use Rattle.command_csv.proofs.FieldTexts.{number_missed}
use Rattle.command_csv.proofs.fields.LineFields.clerk.Goals as goal

pub returns-then-clerk-eq0-clause-none : goal.returns-then-clerk-eq0-clause-none
returns-then-clerk-eq0-clause-none c =
    number_missed IsClerk c.in_ok-clerk.clerk _ _ _ c.in_ok-next_field.ensures.some c.in_ok-next_field.ensures.counted c.in_ok-clerk.ensures.number.1
    (omega (arith, c.in_ok-clerk.ensures.number.0)) (λ x h. omega (arith, h)) (λ h. omega (arith, h, c.if-clerk-eq0.true))
