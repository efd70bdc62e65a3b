-- Workers that take any item take each of a list
use Rattle.std.proofs.Common.{List, [], ◌∷◌}
use Rattle.std.specs.List.{AllByRecursion}
use Rattle.parallel_value.specs.Pieces.{TakeAll}

every : {X : Type 0} (P : X → Type 0) (xs : List X) → ((x : X) → P x) → AllByRecursion P xs
every P [] each = tt
every P (x ∷ xs) each = (each x, every P xs each)

pub take_every : {P I : Type 0} (takes : P → I → Type 0) (pieces : List P) (items : List I) → ((piece : P) (item : I) → takes piece item)
    → TakeAll takes pieces items
take_every takes pieces items each = every _ pieces (λ piece. every (takes piece) items (each piece))
