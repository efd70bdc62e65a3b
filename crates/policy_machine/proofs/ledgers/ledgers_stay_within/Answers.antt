use Rattle.policy_machine.proofs.LedgerLemmas.{AreWithin-ledger}
use Rattle.policy_machine.proofs.ledgers.ledgers_stay_within.Goals as goal

pub returns : goal.returns
returns c = AreWithin-ledger
