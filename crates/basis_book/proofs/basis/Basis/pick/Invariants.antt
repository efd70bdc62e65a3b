use Rattle.basis_book.proofs.Names.{◌≤◌, ◌<ℤ◌, length, drop, All, BasisRow}
use Rattle.basis_book.proofs.basis.Basis.pick.Given as goal

abbrev pub invariant-loop-index : goal.invariant-loop-index
invariant-loop-index l = (l.index ≤ length l.rows) × All (λ (row : BasisRow). l.issued <ℤ row.from_day) (drop l.index l.rows)
