use Rattle.life_dates.proofs.Names.{◌≡◌, ◌+◌, pos, ◌∙◌, arith, w32, to_z, of_z, to_z-of_z, ints, epoch_day, date_of, anniversary_of}
use Rattle.life_dates.proofs.AnniversaryLemmas.{epoch_day-anniversary, anniversary_in, IsDay-date}
use Rattle.life_dates.proofs.years.anniversary.Goals as goal

pub constrain-requires-clause-year_in : goal.constrain-requires-clause-year_in
constrain-requires-clause-year_in c =
    let issued : to_z w32 (of_z w32 c.args.issued) ≡ c.args.issued = to_z-of_z c.ranges.issued in
    let date = rw issued at c.plain_date-date.ensures in
    let here = IsDay-date c.args.issued c.requires.in_range in
    omega (arith, ints, date.year, here.3, c.requires.within)

pub returns-clause-value : goal.returns-clause-value
returns-clause-value c =
    let issued : to_z w32 (of_z w32 c.args.issued) ≡ c.args.issued = to_z-of_z c.ranges.issued in
    let date = rw issued at c.plain_date-date.ensures in
    let here = IsDay-date c.args.issued c.requires.in_range in
    let year : c.constrain.result.year ≡ pos ((date_of c.args.issued).year + c.args.t) =
    omega (arith, ints, c.constrain.ensures.year, date.year, here.3, c.requires.within) in
    let day = rw (date.day, date.month, ← c.constrain.ensures.year) at c.constrain.ensures.day in
    let is : epoch_day c.constrain.result ≡ anniversary_of c.args.issued c.args.t =
    epoch_day-anniversary c.args.issued c.args.t c.constrain.result c.requires.in_range c.requires.within (year, c.constrain.ensures.month ∙ date.month, rw year at day) in
    let range = anniversary_in c.args.issued c.args.t c.requires.in_range c.requires.within in
    omega (arith, ints, c.to_unix_epoch_day.ensures.value, is, range.0, range.1)

pub returns-clause-range : goal.returns-clause-range
returns-clause-range c = rw (returns-clause-value c) (anniversary_in c.args.issued c.args.t c.requires.in_range c.requires.within)
