use Rattle.record_codec.proofs.Names.{refl, spelling_of}
use Rattle.record_codec.proofs.worked.first_issue.Goals as goal

pub returns : goal.returns
unfolding spelling_of
returns c = refl
