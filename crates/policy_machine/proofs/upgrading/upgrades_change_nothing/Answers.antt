use Rattle.policy_machine.proofs.BookLemmas.{policy_of-upgrade, book-upgrade}
use Rattle.policy_machine.proofs.LedgerLemmas.{ledger_of-upgrade}
use Rattle.policy_machine.proofs.upgrading.upgrades_change_nothing.Goals as goal

pub returns-clause-policies : goal.returns-clause-policies
returns-clause-policies c = policy_of-upgrade

pub returns-clause-book : goal.returns-clause-book
returns-clause-book c = book-upgrade

pub returns-clause-balances : goal.returns-clause-balances
returns-clause-balances c = ledger_of-upgrade
