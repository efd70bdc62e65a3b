use Rattle.command_csv.proofs.FieldTexts.{day_took, day_missed}
use Rattle.command_csv.proofs.fields.LineFields.day.Goals as goal

pub returns-clause-some : goal.returns-clause-some
returns-clause-some c = day_took _ _ _ _ c.in_ok-next_field.ensures.some c.in_ok-next_field.ensures.counted c.parse_day.ensures.some

pub returns-clause-none : goal.returns-clause-none
returns-clause-none c = day_missed _ _ _ _ c.in_ok-next_field.ensures.some c.in_ok-next_field.ensures.counted c.parse_day.ensures.exact
