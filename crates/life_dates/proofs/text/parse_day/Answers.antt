use Rattle.life_dates.proofs.Names.{◌+◌, ◌*◌, arith, ymd}
use Rattle.life_dates.proofs.TextLemmas.{read_text, read_some, read_exact}
use Rattle.life_dates.proofs.text.parse_day.Goals as goal

pub returns-clause-some : goal.returns-clause-some
returns-clause-some c =
    let is = read_text c.args.text.now c.in_ok-century.century c.in_ok-year.year c.in_ok-month.month c.in_ok-day.day (omega arith) (omega arith) (omega arith) c.in_ok-century.ensures c.in_ok-year.ensures c.in_ok-month.ensures c.in_ok-day.ensures in
    read_some c.day_of.result (ymd (c.in_ok-century.century * 100 + c.in_ok-year.year) c.in_ok-month.month c.in_ok-day.day) c.args.text.now c.day_of.ensures is

pub returns-clause-exact : goal.returns-clause-exact
returns-clause-exact c =
    let is = read_text c.args.text.now c.in_ok-century.century c.in_ok-year.year c.in_ok-month.month c.in_ok-day.day (omega arith) (omega arith) (omega arith) c.in_ok-century.ensures c.in_ok-year.ensures c.in_ok-month.ensures c.in_ok-day.ensures in
    read_exact c.day_of.result (ymd (c.in_ok-century.century * 100 + c.in_ok-year.year) c.in_ok-month.month c.in_ok-day.day) c.args.text.now (omega (arith, c.in_ok-century.ensures, c.in_ok-year.ensures)) (omega (arith, c.in_ok-month.ensures)) (omega (arith, c.in_ok-day.ensures)) c.day_of.ensures is
