use Rattle.policy_machine.proofs.PaidUpLemmas.{amount_never_rises, paid_up_stays}
use Rattle.policy_machine.proofs.upgrading.cover_never_rises.Goals as goal

pub returns-clause-amount : goal.returns-clause-amount
returns-clause-amount c = amount_never_rises

pub returns-clause-paid_up : goal.returns-clause-paid_up
returns-clause-paid_up c = paid_up_stays
