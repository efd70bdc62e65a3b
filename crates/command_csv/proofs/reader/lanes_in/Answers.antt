use Rattle.command_csv.proofs.Progress.{script_read}
use Rattle.command_csv.proofs.reader.lanes_in.Goals as goal

pub returns-clause-ok : goal.returns-clause-ok
returns-clause-ok c = script_read c.args.bytes.now _ _ c.in_ok-entries.ensures.ok (rw c.as_slice.ensures.value at c.script_of.ensures.ok)
