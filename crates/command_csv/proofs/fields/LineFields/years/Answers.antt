use Rattle.command_csv.proofs.FieldTexts.{years_missed}
use Rattle.command_csv.proofs.fields.LineFields.years.Goals as goal

pub returns-else-are_years-clause-none : goal.returns-else-are_years-clause-none
returns-else-are_years-clause-none c =
    years_missed c.args.plan c.args.age _ _ _ _ c.are_years.result c.in_ok-next_field.ensures.some c.in_ok-next_field.ensures.counted c.in_ok-years.ensures.number.1 c.in_ok-years.ensures.number.0
    c.requires.age_in c.are_years.ensures c.if-are_years.false
