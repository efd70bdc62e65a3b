-- How a text is cut after the digits at its start.
use Rattle.std.specs.Prelude.{◌≡◌, ◌≢◌, ℕ, ◌⊎◌, List, [], ◌∷◌, ◌++◌}
use Rattle.std.specs.Char.{IsAsciiDigit}
use Rattle.std.specs.Str.Parse.{AllDigits}

-- the text ends here, or goes on with a byte that is no digit
abbrev pub StopsDigits : List ℕ → Type 0
StopsDigits [] = Unit {0}
StopsDigits (byte ∷ rest) = IsAsciiDigit byte → ⊥

pub record SplitsDigits (text digits rest : List ℕ) : Type 0 where
  pub joined : text ≡ digits ++ rest
  pub are_digits : AllDigits 10 digits
  pub stops : StopsDigits rest

-- the digits after a point (46), or none where no point stands there
abbrev pub SplitsFraction : List ℕ → List ℕ → List ℕ → Type 0
SplitsFraction [] fraction rest = (fraction ≡ []) × (rest ≡ [])
SplitsFraction (byte ∷ text) fraction rest =
    ((byte ≡ 46) × SplitsDigits text fraction rest) ⊎ ((byte ≢ 46) × (fraction ≡ []) × (rest ≡ byte ∷ text))
