use Rattle.basis_book.proofs.Exact.{gives_due}
use Rattle.basis_book.proofs.file.read_basis.Goals as goal

pub returns-clause-due : goal.returns-clause-due
returns-clause-due c = gives_due c.args.bytes.now c.read_rows.result c.read_rows.ensures.rows c.read_rows.ensures.faults
