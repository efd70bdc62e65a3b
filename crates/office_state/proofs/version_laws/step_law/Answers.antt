use Rattle.office_state.proofs.SetSteps.{sets_of-accepted, sets_of-refused, sets_of-upgrade}
use Rattle.office_state.proofs.version_laws.step_law.Goals as goal

pub returns-clause-accepted : goal.returns-clause-accepted
returns-clause-accepted c = sets_of-accepted

pub returns-clause-refused : goal.returns-clause-refused
returns-clause-refused c = sets_of-refused

pub returns-clause-upgrade : goal.returns-clause-upgrade
returns-clause-upgrade c = sets_of-upgrade
