use Rattle.life_dates.proofs.CalendarLemmas.{date_of_is}
use Rattle.life_dates.proofs.TextLemmas.{date_of-day_number}
use Rattle.life_dates.proofs.laws.days_have_dates.Goals as goal

pub returns-clause-date : goal.returns-clause-date
returns-clause-date c = date_of_is

pub returns-clause-only : goal.returns-clause-only
returns-clause-only c = date_of-day_number
