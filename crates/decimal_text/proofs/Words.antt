-- Short words of the proofs.
use Rattle.std.specs.Prelude.{◌≡◌, ℕ, ◌+◌, ◌*◌, ◌^◌, ◌⊎◌, List, [], ◌∷◌, ◌++◌, length}
use Rattle.std.specs.Str.Parse.{AllDigits, digits_value}
use Rattle.decimal_text.specs.Decimal.{Decimal}

-- the bytes of `.`, `+` and `-`
abbrev pub point : ℕ
point = 46

abbrev pub plus_sign : ℕ
plus_sign = 43

abbrev pub minus : ℕ
minus = 45

abbrev pub AreDigits : List ℕ → Type 0
AreDigits digits = AllDigits 10 digits

abbrev pub number : List ℕ → ℕ
number digits = digits_value 10 digits

abbrev pub IsPlain : List ℕ → List ℕ → List ℕ → Type 0
IsPlain text whole fraction = ((text ≡ whole) × (fraction ≡ [])) ⊎ (text ≡ whole ++ point ∷ fraction)

-- the two parts of a decimal's value
abbrev pub numerator : Decimal → ℕ
numerator decimal = number (decimal.whole ++ decimal.fraction) * 10 ^ decimal.raised

abbrev pub denominator : Decimal → ℕ
denominator decimal = 10 ^ (length decimal.fraction + decimal.lowered)
