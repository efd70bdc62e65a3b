use Rattle.policy_machine.proofs.AcceptedLemmas.{next-keeps, next-last}
use Rattle.policy_machine.proofs.laws.contracts_are_kept.Goals as goal

pub returns-clause-same : goal.returns-clause-same
returns-clause-same c = next-keeps

pub returns-clause-last : goal.returns-clause-last
returns-clause-last c = next-last
