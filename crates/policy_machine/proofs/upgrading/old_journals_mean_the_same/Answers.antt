use Rattle.policy_machine.proofs.OldLemmas.{IsAccepted-old, judge-old, policy_of-old, book-old, ledger_of-old}
use Rattle.policy_machine.proofs.upgrading.old_journals_mean_the_same.Goals as goal

pub returns-clause-accepted : goal.returns-clause-accepted
returns-clause-accepted c = IsAccepted-old

pub returns-clause-refused : goal.returns-clause-refused
returns-clause-refused c = judge-old

pub returns-clause-policies : goal.returns-clause-policies
returns-clause-policies c = policy_of-old

pub returns-clause-book : goal.returns-clause-book
returns-clause-book c = book-old

pub returns-clause-balances : goal.returns-clause-balances
returns-clause-balances c = ledger_of-old
