-- The three fields of a row, if it has three.
use Rattle.std.specs.Prelude.{◌≡◌, ℕ, List, [], ◌∷◌, Option, Some, None}
use Rattle.basis_book.specs.declared.fields.BasisFields.{BasisFields}

abbrev pub list_of : BasisFields → List (List ℕ)
list_of fields = fields.day.now ∷ fields.table.now ∷ fields.points.now ∷ []

abbrev pub AreThree : List (List ℕ) → Option BasisFields → Type 0
AreThree row (Some fields) = row ≡ list_of fields
AreThree row None = (day table points : List ℕ) → row ≡ day ∷ table ∷ points ∷ [] → ⊥
