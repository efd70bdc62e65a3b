use Rattle.office_state.proofs.PolicyValues.{newest_of-sets_of, value_at-sets_of}
use Rattle.office_state.proofs.version_laws.policy_law.Goals as goal

pub returns-clause-at : goal.returns-clause-at
returns-clause-at c = value_at-sets_of

pub returns-clause-newest : goal.returns-clause-newest
returns-clause-newest c = newest_of-sets_of
