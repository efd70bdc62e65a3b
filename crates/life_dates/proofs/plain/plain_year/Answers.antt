use Rattle.life_dates.proofs.Names.{◌≡◌, arith, pos, ap, ◌∙◌, w32, to_z, of_z, to_z-of_z, ints, date_of}
use Rattle.life_dates.proofs.CalendarLemmas.{date_of_is, IsTermDay-year}
use Rattle.life_dates.proofs.plain.plain_year.Goals as goal

pub returns : goal.returns
returns c =
    let here = date_of_is c.args.day c.requires in
    let years = IsTermDay-year (date_of c.args.day) here.0 (rw here.1 c.requires) in
    let same : to_z w32 (of_z w32 c.args.day) ≡ c.args.day = to_z-of_z c.ranges.day in
    let year : c.plain_date.result.year ≡ pos (date_of c.args.day).year = c.plain_date.ensures.year ∙ ap (λ d. pos (date_of d).year) same in
    omega (arith, ints, years.0, years.1)
