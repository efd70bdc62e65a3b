-- A decimal number as a rate table writes it: digits, perhaps with a point before, among or after
-- them, and perhaps a power of ten after an `E`, as in `0.00042`, `.5`, `1.` and `7.5E-05`.
use Rattle.std.specs.Prelude.{◌≡◌, ℕ, ◌+◌, ◌<◌, ◌≤◌, ◌⊎◌, List, [], ◌∷◌, ◌++◌, length, codes}
use Rattle.std.specs.Str.Parse.{AllDigits, IsNumeral, digits_value}

-- A decimal: the digits before the point, those after it, and the power of ten by which `E` raises or lowers it.
pub record Decimal : Type 0 where
  pub whole : List ℕ
  pub fraction : List ℕ
  pub raised : ℕ
  pub lowered : ℕ

-- one to three digits, with a sign before them or none: after a minus their number lowers, else it raises
abbrev pub IsSigned : List ℕ → ℕ → ℕ → Type 0
IsSigned text raised lowered =
    (digits : List ℕ) × IsNumeral 10 digits × (length digits ≤ 3)
    × ((((text ≡ digits) ⊎ (text ≡ codes "+" ++ digits)) × (raised ≡ digits_value 10 digits) × (lowered ≡ 0))
    ⊎ ((text ≡ codes "-" ++ digits) × (raised ≡ 0) × (lowered ≡ digits_value 10 digits)))

-- nothing, or `E` (69) or `e` (101) followed by such a number
abbrev pub IsExponent : List ℕ → ℕ → ℕ → Type 0
IsExponent [] raised lowered = (raised ≡ 0) × (lowered ≡ 0)
IsExponent (letter ∷ text) raised lowered = ((letter ≡ 69) ⊎ (letter ≡ 101)) × IsSigned text raised lowered

-- The text is a spelling of the decimal: its digits, of which there is at least one, with a point before, among or after
-- them or none, and then the exponent.
pub record Spells (text : List ℕ) (decimal : Decimal) : Type 0 where
  pub plain : List ℕ
  pub exponent : List ℕ
  pub joined : text ≡ plain ++ exponent
  pub plain_is : ((plain ≡ decimal.whole) × (decimal.fraction ≡ [])) ⊎ (plain ≡ decimal.whole ++ (codes "." ++ decimal.fraction))
  pub exponent_is : IsExponent exponent decimal.raised decimal.lowered
  pub whole_digits : AllDigits 10 decimal.whole
  pub fraction_digits : AllDigits 10 decimal.fraction
  pub some_digit : 0 < length decimal.whole + length decimal.fraction
