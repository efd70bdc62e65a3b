use Rattle.command_csv.proofs.Faults.{fault_excludes, one_fault}
use Rattle.command_csv.proofs.laws.faults_are_exact.Goals as goal

pub returns-clause-unread : goal.returns-clause-unread
returns-clause-unread c = fault_excludes

pub returns-clause-one : goal.returns-clause-one
returns-clause-one c = one_fault
