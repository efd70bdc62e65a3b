use Rattle.command_csv.proofs.Names.{◌≡◌, lanes_up_to}
use Rattle.command_csv.proofs.reader.script_of.Given as goal

abbrev pub invariant-loop-before : goal.invariant-loop-before
invariant-loop-before l = l.lanes.items ≡ lanes_up_to l.before l.entries
