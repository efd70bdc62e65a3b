use Rattle.life_dates.proofs.Names.{◌≡◌, ◌+ℤ◌, pos, ◌∙◌, arith, FitsSigned, w32, w64, epoch_day, date_of}
use Rattle.std.proofs.lemmas.Int.{to_z-of_z}
use Rattle.jiff.proofs.SpanFacts.{signed_arith, date_add-days, can_add-days}
use Rattle.life_dates.proofs.CalendarLemmas.{plain_is, epoch_is}
use Rattle.life_dates.proofs.calendar.civil_date.Goals as goal

pub unwrap-requires : goal.unwrap-requires
unwrap-requires c =
    let f4 : FitsSigned w32 c.args.day = c.ranges.day in
    let f8 : FitsSigned w64 c.args.day = omega (arith, signed_arith) in
    let only = simp to_z-of_z at c.days.ensures in
    let epoch : epoch_day c.date.result ≡ pos 0 = epoch_is c.date.result c.date.ensures in
    let can = can_add-days c.date.result c.args.day c.days.result only in
    c.checked_add.ensures.succeeds.1 (can.1 (omega (arith, signed_arith)))

-- the date that was found is the day's
found : (c : goal.After-unwrap) → (c.unwrap.result.year ≡ pos (date_of c.args.day).year) × (c.unwrap.result.month ≡ (date_of c.args.day).month) × (c.unwrap.result.day ≡ (date_of c.args.day).day)
found c =
    let f4 : FitsSigned w32 c.args.day = c.ranges.day in
    let f8 : FitsSigned w64 c.args.day = omega (arith, signed_arith) in
    let only = simp to_z-of_z at c.days.ensures in
    let epoch : epoch_day c.date.result ≡ pos 0 = epoch_is c.date.result c.date.ensures in
    let after = rw c.unwrap.ensures at c.checked_add.ensures.value in
    let moved : epoch_day c.unwrap.result ≡ epoch_day c.date.result +ℤ c.args.day = after ∙ date_add-days c.date.result c.args.day c.days.result only in
    plain_is c.unwrap.result c.args.day c.requires (omega (arith, signed_arith))

pub returns-clause-year : goal.returns-clause-year
returns-clause-year c = (found c).0

pub returns-clause-month : goal.returns-clause-month
returns-clause-month c = (found c).1

pub returns-clause-day : goal.returns-clause-day
returns-clause-day c = (found c).2
