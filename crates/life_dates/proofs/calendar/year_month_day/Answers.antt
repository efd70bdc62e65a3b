use Rattle.life_dates.proofs.Names.{◌≡◌, arith, pos, ap, ◌∙◌, w32, to_z, of_z, to_z-of_z, ints, days_in_month_bounds, date_of}
use Rattle.life_dates.proofs.CalendarLemmas.{date_of_is, IsTermDay-year}
use Rattle.life_dates.proofs.calendar.year_month_day.Goals as goal

pub returns-clause-bound : goal.returns-clause-bound
returns-clause-bound c =
    let here = date_of_is c.args.day c.requires in
    let years = IsTermDay-year (date_of c.args.day) here.0 (rw here.1 c.requires) in
    let same : to_z w32 (of_z w32 c.args.day) ≡ c.args.day = to_z-of_z c.ranges.day in
    let year : c.civil_date-date.result.year ≡ pos (date_of c.args.day).year = c.civil_date-date.ensures.year ∙ ap (λ d. pos (date_of d).year) same in
    let long = days_in_month_bounds c.civil_date-date.result.year c.civil_date-date.result.month in
    (omega (arith, ints, years.0, years.1), omega (arith, ints, c.civil_date-date.result.month_in.1), omega (arith, ints, long.0, c.civil_date-date.result.day_in.1))
