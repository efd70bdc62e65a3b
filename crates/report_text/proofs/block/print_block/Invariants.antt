use Rattle.report_text.proofs.Names.{◌≡◌, ◌++◌, length, take, flat_map, heading_text, row_text}
use Rattle.report_text.proofs.block.print_block.Given as goal

abbrev pub invariant-loop-row : goal.invariant-loop-row
invariant-loop-row l =
    l.lines
    ≡ heading_text l.lane l.on l.position (length l.rows) l.measure ++ flat_map row_text (take l.row-index l.rows)
