use Rattle.present_value.proofs.MeanLaws.{no_premium}
use Rattle.present_value.proofs.laws.no_premium_enters_a_paid_up_mean.Goals as goal

pub returns : goal.returns
returns c = no_premium
