use Rattle.command_csv.proofs.Names.{◌≡◌, take, lines_of}
use Rattle.command_csv.proofs.reader.lines_of.Given as goal

abbrev pub invariant-loop-entry : goal.invariant-loop-entry
invariant-loop-entry l = l.lines.items ≡ lines_of l.clerk (take l.entry-index l.entries)
