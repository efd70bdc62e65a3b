use Rattle.std.proofs.Common.{◌-◌, length}
use Rattle.command_csv.proofs.Progress.{IsReadTo}
use Rattle.command_csv.proofs.reader.read_lines.Given as goal

abbrev pub invariant-loop-entries : goal.invariant-loop-entries
invariant-loop-entries l = IsReadTo l.fn.bytes l.rows l.count l.valuations l.entries.items

abbrev pub decreases-loop-entries : goal.decreases-loop-entries
decreases-loop-entries l = length l.fn.bytes - l.count
