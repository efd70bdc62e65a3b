use Rattle.cash_projection.proofs.Names.{◌≡◌, ◌++◌, take, asked_text}
use Rattle.cash_projection.proofs.YearLines.{years_text}
use Rattle.cash_projection.proofs.printing.print_projection.Given as goal

-- the years before this one are written
abbrev pub invariant-loop-j : goal.invariant-loop-j
invariant-loop-j l = l.lines ≡ asked_text l.projection ++ years_text 0 (take l.j l.projection.years)
