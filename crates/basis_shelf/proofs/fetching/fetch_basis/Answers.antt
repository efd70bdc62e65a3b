use Rattle.basis_shelf.proofs.Fetched.{gives_due}
use Rattle.basis_shelf.proofs.fetching.fetch_basis.Goals as goal

pub returns-clause-due : goal.returns-clause-due
returns-clause-due g c = λ files answer agrees due.
    gives_due files c.args.name.now c.fetch_parts.result answer (c.fetch_parts.ensures.basis files agrees) (c.fetch_parts.ensures.bad files agrees) due
