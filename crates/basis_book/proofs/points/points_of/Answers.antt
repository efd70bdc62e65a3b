use Rattle.basis_book.proofs.Digits.{too_long}
use Rattle.basis_book.proofs.points.points_of.Goals as goal

pub returns-then-text-gt4-clause-none : goal.returns-then-text-gt4-clause-none
returns-then-text-gt4-clause-none c = λ points h. too_long c.args.text.now points h c.if-text-gt4.true
