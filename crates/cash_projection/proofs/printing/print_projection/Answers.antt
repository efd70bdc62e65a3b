use Rattle.cash_projection.proofs.Names.{arith, ap, length, ◌<◌, List, Year, asked_text}
use Rattle.cash_projection.proofs.YearLines.{years_more}
use Rattle.cash_projection.proofs.printing.print_projection.Goals as goal

pub loop-j-preserved : goal.loop-j-preserved
loop-j-preserved c =
    let below : c.loop-j.j < length c.args.projection.now.years = omega (arith, ap (λ (ys : List Year). length ys) c.as_slice-year-items.ensures) in
    years_more c.args.projection.now.years c.loop-j.j _ (asked_text c.args.projection.now) c.loop-j.lines _ below c.loop-j.invariant
    (rw c.as_slice-year-items.ensures at c.in_ok-write_year.ensures)
