use Rattle.watcher_set.proofs.Noting.{IsNoted-noted_of}
use Rattle.watcher_set.proofs.laws.noted_to_the_first_end.Goals as goal

pub returns : goal.returns
returns c = IsNoted-noted_of
