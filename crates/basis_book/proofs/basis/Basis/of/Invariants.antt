use Rattle.basis_book.proofs.Names.{All, IsSome, take, slice_get, get_by_text, values, BasisRow}
use Rattle.basis_book.specs.inside.Placed.{ArePlaces}
use Rattle.basis_book.proofs.basis.Basis.of.Given as goal

abbrev pub invariant-loop-row : goal.invariant-loop-row
invariant-loop-row l = All (λ (row : BasisRow). IsSome (get_by_text l.fn.tables row.table)) (take l.row-index l.row-items)
    × ArePlaces (slice_get (values l.fn.tables)) (get_by_text l.fn.tables) (take l.row-index l.row-items) l.places.items
