use Rattle.cash_projection.proofs.AddingUp.{never_rise}
use Rattle.cash_projection.proofs.laws.survivors_never_rise.Goals as goal

pub returns : goal.returns
returns c = never_rise
