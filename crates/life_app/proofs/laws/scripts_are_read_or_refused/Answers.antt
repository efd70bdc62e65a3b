use Rattle.command_csv.proofs.Faults.{one_fault}
use Rattle.script_run.proofs.ScriptStatus.{not_both, read_or_refused}
use Rattle.life_app.proofs.laws.scripts_are_read_or_refused.Goals as goal

pub returns : goal.returns
returns c = record { either = read_or_refused; not_both = not_both; one = one_fault }
