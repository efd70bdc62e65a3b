use Rattle.policy_machine.proofs.LedgerLemmas.{sum_of-ledger}
use Rattle.schedule_laws.proofs.Payable.{payable-ledger}
use Rattle.schedule_laws.proofs.balances.balance_law.Goals as goal

pub returns : goal.returns
returns c = λ commands accepted. (sum_of-ledger commands, payable-ledger commands accepted)
