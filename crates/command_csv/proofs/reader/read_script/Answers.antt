use Rattle.command_csv.proofs.Exact.{gives_due}
use Rattle.command_csv.proofs.reader.read_script.Goals as goal

pub returns-clause-due : goal.returns-clause-due
returns-clause-due c = λ answer due.
    gives_due c.args.bytes.now c.lanes_in.result answer c.lanes_in.ensures.ok c.lanes_in.ensures.fault due
