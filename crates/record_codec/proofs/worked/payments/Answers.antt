use Rattle.record_codec.proofs.Names.{refl, spelling_of}
use Rattle.record_codec.proofs.worked.payments.Goals as goal

pub returns-clause-premium : goal.returns-clause-premium
unfolding spelling_of
returns-clause-premium c = refl

pub returns-clause-reinstatement : goal.returns-clause-reinstatement
unfolding spelling_of
returns-clause-reinstatement c = refl

pub returns-clause-settlement : goal.returns-clause-settlement
unfolding spelling_of
returns-clause-settlement c = refl

pub returns-clause-paid_up : goal.returns-clause-paid_up
unfolding spelling_of
returns-clause-paid_up c = refl
