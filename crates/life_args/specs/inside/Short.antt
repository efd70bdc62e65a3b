-- Abbreviations for the promises of single functions, and for the proofs
use Rattle.std.specs.Prelude.{ℕ, List, ◌∷◌, cond, bytes_eq}
use Rattle.std.specs.List.{flat_map}
use Rattle.life_args.specs.Pieces.{WordPiece, piece_words}

-- the arguments that the pieces spell
abbrev pub spelled : List WordPiece → List (List ℕ)
spelled pieces = flat_map piece_words pieces

-- the values that an option of one name gets here, if it has the other name
abbrev pub value_under : List ℕ → List ℕ → List ℕ → List (List ℕ) → List (List ℕ)
value_under name other value values = cond (bytes_eq other name) (value ∷ values) values
