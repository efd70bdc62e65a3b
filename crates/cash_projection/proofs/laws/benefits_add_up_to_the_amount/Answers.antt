use Rattle.cash_projection.proofs.AddingUp.{add_up}
use Rattle.cash_projection.proofs.laws.benefits_add_up_to_the_amount.Goals as goal

pub returns : goal.returns
returns c = add_up
