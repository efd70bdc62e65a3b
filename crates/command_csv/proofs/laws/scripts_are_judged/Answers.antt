use Rattle.command_csv.proofs.Judging.{judged}
use Rattle.command_csv.proofs.laws.scripts_are_judged.Goals as goal

pub returns : goal.returns
returns c = judged
