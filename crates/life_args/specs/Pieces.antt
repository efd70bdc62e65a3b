-- The arguments after a command's name, as the pieces that its usage line shows
use Rattle.std.specs.Prelude.{◌≡◌, ℕ, ⊤, ◌⊎◌, List, [], ◌∷◌, ◌++◌, codes, cond, bytes_eq, Option, Some, None}

pub data WordPiece : Type 0 where
  -- a value that stands alone
  bare : List ℕ → WordPiece
  -- an option's name and value in two arguments, `--name value`
  apart : List ℕ → List ℕ → WordPiece
  -- an option's name and value in one argument, `--name=value`
  joined : List ℕ → List ℕ → WordPiece
  -- a flag, which is an option's name alone, `--name`
  flag : List ℕ → WordPiece

-- the arguments of a piece
abbrev pub piece_words : WordPiece → List (List ℕ)
piece_words (bare value) = value ∷ []
piece_words (apart name value) = (codes "--" ++ name) ∷ value ∷ []
piece_words (joined name value) = (codes "--" ++ (name ++ (codes "=" ++ value))) ∷ []
piece_words (flag name) = (codes "--" ++ name) ∷ []

-- the values that stand alone
abbrev pub bare_values : List WordPiece → List (List ℕ)
bare_values [] = []
bare_values (bare value ∷ pieces) = value ∷ bare_values pieces
bare_values (apart name value ∷ pieces) = bare_values pieces
bare_values (joined name value ∷ pieces) = bare_values pieces
bare_values (flag name ∷ pieces) = bare_values pieces

-- the values of the option with this name. Each use of a flag counts as an empty text.
abbrev pub option_values : List ℕ → List WordPiece → List (List ℕ)
option_values name [] = []
option_values name (bare value ∷ pieces) = option_values name pieces
option_values name (apart other value ∷ pieces) = cond (bytes_eq other name) (value ∷ option_values name pieces) (option_values name pieces)
option_values name (joined other value ∷ pieces) = cond (bytes_eq other name) (value ∷ option_values name pieces) (option_values name pieces)
option_values name (flag other ∷ pieces) = cond (bytes_eq other name) ([] ∷ option_values name pieces) (option_values name pieces)

-- the name is one of these
abbrev pub IsAmong : List (List ℕ) → List ℕ → Type 0
IsAmong [] name = ⊥
IsAmong (one ∷ names) name = (name ≡ one) ⊎ IsAmong names name

-- each option with a value has one of the first names, and each flag one of the second
abbrev pub HasOnly : List (List ℕ) → List (List ℕ) → List WordPiece → Type 0
HasOnly names flags [] = ⊤
HasOnly names flags (bare value ∷ pieces) = HasOnly names flags pieces
HasOnly names flags (apart name value ∷ pieces) = IsAmong names name × HasOnly names flags pieces
HasOnly names flags (joined name value ∷ pieces) = IsAmong names name × HasOnly names flags pieces
HasOnly names flags (flag name ∷ pieces) = IsAmong flags name × HasOnly names flags pieces

-- there is at most one value, and the condition on it, or on its absence, is met
abbrev pub AtMostOne : List (List ℕ) → (Option (List ℕ) → Type 0) → Type 0
AtMostOne [] IsAsked = IsAsked None
AtMostOne (value ∷ []) IsAsked = IsAsked (Some value)
AtMostOne (value ∷ other ∷ values) IsAsked = ⊥
