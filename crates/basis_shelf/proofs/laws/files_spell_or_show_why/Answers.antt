use Rattle.basis_shelf.proofs.EitherAny.{any_or_fault}
use Rattle.basis_shelf.proofs.EitherTable.{table_or_fault}
use Rattle.basis_shelf.proofs.laws.files_spell_or_show_why.Goals as goal

pub returns-clause-any : goal.returns-clause-any
returns-clause-any c = any_or_fault

pub returns-clause-aggregate : goal.returns-clause-aggregate
returns-clause-aggregate c = table_or_fault
