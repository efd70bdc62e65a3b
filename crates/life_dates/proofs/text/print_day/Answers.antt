use Rattle.life_dates.proofs.Names.{◌≡◌, ap, ◌∙◌, to_z-of_z, ymd, date_of}
use Rattle.life_dates.specs.DayText.{date_text, day_text}
use Rattle.life_dates.proofs.text.print_day.Goals as goal

pub returns : goal.returns
unfolding day_text
returns c =
    let date : ymd c.year_month_day-year.result.0 c.year_month_day-year.result.1 c.year_month_day-year.result.2 ≡ date_of c.args.day = c.year_month_day-year.ensures.value ∙ ap date_of (to_z-of_z c.ranges.day) in
    rw (c.two_digits_of.ensures, c.two_digits_of-2.ensures, c.two_digits_of-3.ensures, c.two_digits_of-4.ensures) (ap date_text date)
