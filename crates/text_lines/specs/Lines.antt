-- A line of output: fields with commas between them
use Rattle.std.specs.Prelude.{ℕ, List, [], ◌∷◌, ◌++◌}

-- each field after a comma, which is 44
abbrev pub behind_commas : List (List ℕ) → List ℕ
behind_commas [] = []
behind_commas (field ∷ fields) = 44 ∷ (field ++ behind_commas fields)

-- the first field, the others after a comma each, and the line feed
abbrev pub line_of : List ℕ → List (List ℕ) → List ℕ
line_of first fields = first ++ behind_commas fields ++ 10 ∷ []
