use Rattle.load_maker.proofs.Names.{refl, policy_drawn, state_after, generated_rows, generated_lanes}
use Rattle.std.specs.Fmt.{digits}
use Rattle.life_dates.specs.Calendar.{date_of, month_of, days_before_year, days_of_months}
use Rattle.life_dates.specs.DayText.{day_text}
use Rattle.load_maker.specs.GeneratedScript.{generated_text}
use Rattle.load_maker.proofs.worked.seed_of_1.Goals as goal

pub returns-clause-rows : goal.returns-clause-rows
unfolding generated_text generated_rows state_after policy_drawn day_text date_of month_of days_before_year days_of_months digits
returns-clause-rows c = refl

pub returns-clause-lanes : goal.returns-clause-lanes
unfolding generated_lanes generated_rows state_after policy_drawn
returns-clause-lanes c = refl
