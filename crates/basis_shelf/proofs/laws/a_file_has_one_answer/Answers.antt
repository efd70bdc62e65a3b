use Rattle.basis_shelf.proofs.OneTable.{one_table, table_or_bad}
use Rattle.basis_shelf.proofs.laws.a_file_has_one_answer.Goals as goal

pub returns-clause-table : goal.returns-clause-table
returns-clause-table c = one_table

pub returns-clause-not_both : goal.returns-clause-not_both
returns-clause-not_both c = table_or_bad
