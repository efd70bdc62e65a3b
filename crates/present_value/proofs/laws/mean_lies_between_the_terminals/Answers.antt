use Rattle.present_value.proofs.MeanLaws.{mean_between}
use Rattle.present_value.proofs.laws.mean_lies_between_the_terminals.Goals as goal

pub returns : goal.returns
returns c = mean_between
