use Rattle.report_text.proofs.Names.{refl, row_text, total_text, heading_text}
use Rattle.std.specs.Fmt.{digits}
use Rattle.life_dates.specs.Calendar.{date_of, month_of, days_before_year, days_of_months}
use Rattle.life_dates.specs.DayText.{day_text}
use Rattle.report_text.proofs.worked.worked_valuations.Goals as goal

pub returns-clause-rows : goal.returns-clause-rows
unfolding row_text digits
returns-clause-rows c = (refl, refl, refl)

pub returns-clause-totals : goal.returns-clause-totals
unfolding total_text digits
returns-clause-totals c = (refl, refl, refl)

pub returns-clause-none : goal.returns-clause-none
unfolding heading_text total_text day_text date_of month_of days_before_year days_of_months digits
returns-clause-none c = refl

pub returns-clause-two : goal.returns-clause-two
unfolding heading_text row_text total_text day_text date_of month_of days_before_year days_of_months digits
returns-clause-two c = refl

pub returns-clause-paid_up : goal.returns-clause-paid_up
unfolding row_text digits
returns-clause-paid_up c = (refl, refl)

pub returns-clause-deficiency_rows : goal.returns-clause-deficiency_rows
unfolding row_text digits
returns-clause-deficiency_rows c = (refl, refl, refl)

pub returns-clause-deficiency_totals : goal.returns-clause-deficiency_totals
unfolding total_text digits
returns-clause-deficiency_totals c = (refl, refl, refl, refl)

pub returns-clause-measures : goal.returns-clause-measures
unfolding heading_text row_text total_text day_text date_of month_of days_before_year days_of_months digits
returns-clause-measures c = (refl, refl)
