use Rattle.policy_machine.proofs.LedgerLemmas.{sum_of-ledger}
use Rattle.policy_machine.proofs.ledgers.ledgers_add_up.Goals as goal

pub returns : goal.returns
returns c = sum_of-ledger
