use Rattle.command_csv.proofs.FieldTexts.{next_some, next_none}
use Rattle.command_csv.proofs.fields.LineFields.next_field.Goals as goal

pub returns-clause-some : goal.returns-clause-some
returns-clause-some c = next_some _ _ _ c.get-field.ensures.value

pub returns-clause-none : goal.returns-clause-none
returns-clause-none c = next_none _ _ _ c.get-field.ensures.value
