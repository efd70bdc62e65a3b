use Rattle.life_dates.proofs.Names.{◌≡◌, pos, arith, ints, epoch_day, date_of}
use Rattle.life_dates.proofs.CalendarLemmas.{plain_is}
use Rattle.life_dates.proofs.plain.plain_date.Goals as goal

pub unwrap-requires : goal.unwrap-requires
unwrap-requires c = c.from_unix_epoch_day.ensures.succeeds.1 (omega (arith, ints, c.requires))

-- the date that was found is the day's
found : (c : goal.After-unwrap) → (c.unwrap.result.year ≡ pos (date_of c.args.day).year) × (c.unwrap.result.month ≡ (date_of c.args.day).month) × (c.unwrap.result.day ≡ (date_of c.args.day).day)
found c =
    let here = rw c.unwrap.ensures at c.from_unix_epoch_day.ensures.value in
    let same : epoch_day c.unwrap.result ≡ c.args.day = omega (arith, ints, here, c.requires) in
    plain_is c.unwrap.result c.args.day c.requires same

pub returns-clause-year : goal.returns-clause-year
returns-clause-year c = (found c).0

pub returns-clause-month : goal.returns-clause-month
returns-clause-month c = (found c).1

pub returns-clause-day : goal.returns-clause-day
returns-clause-day c = (found c).2
