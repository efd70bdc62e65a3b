use Rattle.record_codec.proofs.Names.{refl, spelling_of}
use Rattle.record_codec.proofs.worked.days_alone.Goals as goal

pub returns-clause-lapse : goal.returns-clause-lapse
unfolding spelling_of
returns-clause-lapse c = refl

pub returns-clause-claim : goal.returns-clause-claim
unfolding spelling_of
returns-clause-claim c = refl

pub returns-clause-maturity : goal.returns-clause-maturity
unfolding spelling_of
returns-clause-maturity c = refl
