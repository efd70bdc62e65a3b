use Rattle.office_state.proofs.SetSteps.{few_after, length-sets_of, sets_of-rise}
use Rattle.office_state.proofs.version_laws.count_law.Goals as goal

pub returns-clause-rising : goal.returns-clause-rising
returns-clause-rising c = sets_of-rise

pub returns-clause-count : goal.returns-clause-count
returns-clause-count c = length-sets_of

pub returns-clause-after : goal.returns-clause-after
returns-clause-after c = few_after
