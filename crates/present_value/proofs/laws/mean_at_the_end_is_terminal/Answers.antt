use Rattle.present_value.proofs.MeanLaws.{mean_end}
use Rattle.present_value.proofs.laws.mean_at_the_end_is_terminal.Goals as goal

pub returns : goal.returns
returns c = mean_end
