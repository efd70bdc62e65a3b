use Rattle.checkpoint_store.proofs.OneSnapshot.{front_longer, front_of_all, saved_true}
use Rattle.checkpoint_store.proofs.laws.checkpoints_stay_true.Goals as goal

pub returns-clause-saved : goal.returns-clause-saved
returns-clause-saved c = saved_true

pub returns-clause-none : goal.returns-clause-none
returns-clause-none c = λ file bodies nothing s is. absurd (nothing s is)

pub returns-clause-longer : goal.returns-clause-longer
returns-clause-longer c = λ file bodies more true_checkpoint s is. front_longer bodies more s (true_checkpoint s is)

pub returns-clause-used : goal.returns-clause-used
returns-clause-used c = λ file bodies true_checkpoint s is within. true_checkpoint s is

pub returns-clause-front : goal.returns-clause-front
returns-clause-front c = front_of_all
