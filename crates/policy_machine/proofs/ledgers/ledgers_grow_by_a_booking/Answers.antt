use Rattle.policy_machine.proofs.LedgerLemmas.{ledger_of-push}
use Rattle.policy_machine.proofs.ledgers.ledgers_grow_by_a_booking.Goals as goal

pub returns : goal.returns
returns c = ledger_of-push
