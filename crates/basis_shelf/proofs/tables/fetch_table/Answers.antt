use Rattle.basis_shelf.proofs.NeverSelect.{told_fault}
use Rattle.basis_shelf.proofs.ToldTable.{told_table}
use Rattle.basis_shelf.proofs.tables.fetch_table.Goals as goal

pub no_table-requires : goal.no_table-requires
no_table-requires g c = told_fault c.as_slice.result.now c.in-Err.fault c.in-Err.ensures.fault

pub returns-clause-bad : goal.returns-clause-bad
returns-clause-bad g c = λ files agrees.
    told_table files c.args.name.now c.as_slice.result.now c.args.number c.in-Err.fault c.no_table.result
    (rw c.as_slice.ensures.value (c.in_ok-bytes.ensures.file files agrees)) c.in-Err.ensures.fault c.no_table.ensures
