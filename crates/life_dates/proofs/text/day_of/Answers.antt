use Rattle.life_dates.proofs.Names.{◌≡◌, pos, negsuc, ◌≤ℤ◌, arith, ints, epoch_day}
use Rattle.life_dates.proofs.TextLemmas.{from_plain, number_is}
use Rattle.life_dates.proofs.text.day_of.Goals as goal
use Rattle.life_dates.proofs.text.day_of.Goals.{then-number-lt-FIRST_DAY-via-then-number-lt-FIRST_DAY, then-number-lt-FIRST_DAY-via-else-number-lt-FIRST_DAY+then-number-gt-LAST_DAY}

pub returns : goal.returns
returns c =
    let value = c.in-Ok.ensures.value in
    let year : c.in-Ok.date.year ≡ pos c.args.year = omega (arith, ints, value.0) in
    let month : c.in-Ok.date.month ≡ c.args.month = omega (arith, ints, value.1) in
    let day : c.in-Ok.date.day ≡ c.args.day = omega (arith, ints, value.2) in
    let low : negsuc 25_566 ≤ℤ epoch_day c.in-Ok.date = omega (arith, ints, c.number_of-number.ensures) in
    let is = from_plain c.in-Ok.date c.args.year c.args.month c.args.day year month day c.requires.0 low in
    ((is.0, rw is.1 (low, omega (arith, ints, c.number_of-number.ensures))), rw is.1 (omega (arith, ints, c.number_of-number.ensures)))

pub returns-then-number-lt-FIRST_DAY : goal.returns-then-number-lt-FIRST_DAY
returns-then-number-lt-FIRST_DAY c = λ h.
    let value = c.in-Ok.ensures.value in
    let year : c.in-Ok.date.year ≡ pos c.args.year = omega (arith, ints, value.0) in
    let month : c.in-Ok.date.month ≡ c.args.month = omega (arith, ints, value.1) in
    let day : c.in-Ok.date.day ≡ c.args.day = omega (arith, ints, value.2) in
    let e = number_is c.in-Ok.date c.args.year c.args.month c.args.day year month day h.0 in
    let number = c.number_of-number.ensures in
    elim c.then-number-lt-FIRST_DAY.branch [
      | then-number-lt-FIRST_DAY-via-then-number-lt-FIRST_DAY w ↦ omega (arith, ints, h.1.0, e, number)
      | then-number-lt-FIRST_DAY-via-else-number-lt-FIRST_DAY+then-number-gt-LAST_DAY w ↦ omega (arith, ints, h.1.1, e, number)
    ]
