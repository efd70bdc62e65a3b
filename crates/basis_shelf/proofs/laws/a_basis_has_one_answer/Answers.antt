use Rattle.basis_shelf.proofs.OneBasis.{one_basis, one_first_bad, basis_or_bad}
use Rattle.basis_shelf.proofs.laws.a_basis_has_one_answer.Goals as goal

pub returns-clause-basis : goal.returns-clause-basis
returns-clause-basis c = one_basis

pub returns-clause-bad : goal.returns-clause-bad
returns-clause-bad c = one_first_bad

pub returns-clause-not_both : goal.returns-clause-not_both
returns-clause-not_both c = basis_or_bad
