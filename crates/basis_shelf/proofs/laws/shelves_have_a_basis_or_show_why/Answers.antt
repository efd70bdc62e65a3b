use Rattle.basis_shelf.proofs.EitherBasis.{basis_or_bad_file}
use Rattle.basis_shelf.proofs.laws.shelves_have_a_basis_or_show_why.Goals as goal

pub returns : goal.returns
returns c = basis_or_bad_file
