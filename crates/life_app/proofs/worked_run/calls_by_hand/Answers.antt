use Rattle.life_app.proofs.Names.{refl, spelling_of}
use Rattle.life_app.proofs.WorkedRun.First.{honest_calls}
use Rattle.life_app.proofs.WorkedRun.Row.{found_by_hand}
use Rattle.life_app.proofs.worked_run.calls_by_hand.Goals as goal

pub returns-clause-honest : goal.returns-clause-honest
returns-clause-honest c = honest_calls

pub returns-clause-reads : goal.returns-clause-reads
unfolding spelling_of
returns-clause-reads c = (refl, refl, refl)

pub returns-clause-found : goal.returns-clause-found
returns-clause-found c = found_by_hand
