use Rattle.report_text.proofs.Names.{◌≡◌, take, flat_map, row_text}
use Rattle.report_text.proofs.printer.print_rows.Given as goal

abbrev pub invariant-loop-row : goal.invariant-loop-row
invariant-loop-row l = l.lines ≡ flat_map row_text (take l.row-index l.rows)
