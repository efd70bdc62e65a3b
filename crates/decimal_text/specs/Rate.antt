-- The value of a decimal, and the rate that it gives in units of 10^-9.
use Rattle.std.specs.Prelude.{◌≡◌, ℕ, ◌+◌, ◌*◌, ◌^◌, ◌<◌, ◌≤◌, List, ◌++◌, length, Result, Ok, Err}
use Rattle.std.specs.Str.Parse.{digits_value}
use Rattle.decimal_text.specs.declared.fault.RateFault.{RateFault}
use Rattle.decimal_text.specs.declared.fault.RateFault.TheVariants.{NoNumber, AboveOne, TooFine}
use Rattle.decimal_text.specs.Decimal.{Decimal, Spells}

-- The text spells a decimal of at most one, whose value is this rate in units of 10^-9. The value is all digits read
-- as one number, times ten to the power that raises it, divided by ten for each digit after the point and by ten to
-- the power that lowers it.
abbrev pub IsRate : List ℕ → ℕ → Type 0
IsRate text rate =
    (decimal : Decimal) × Spells text decimal
    × (rate * 10 ^ (length decimal.fraction + decimal.lowered)
    ≡ 1000000000 * (digits_value 10 (decimal.whole ++ decimal.fraction) * 10 ^ decimal.raised))
    × (rate ≤ 1000000000)

-- ---- what a reader answers

-- so many units of 10^-9 are the decimal's value
abbrev pub IsInUnits : ℕ → Decimal → Type 0
IsInUnits units decimal =
    units * 10 ^ (length decimal.fraction + decimal.lowered)
    ≡ 1000000000 * (digits_value 10 (decimal.whole ++ decimal.fraction) * 10 ^ decimal.raised)

-- the value is above one
abbrev pub IsAboveOne : Decimal → Type 0
IsAboveOne decimal =
    10 ^ (length decimal.fraction + decimal.lowered)
    < digits_value 10 (decimal.whole ++ decimal.fraction) * 10 ^ decimal.raised

-- at most one, and not a whole number of units of 10^-9
abbrev pub IsTooFine : Decimal → Type 0
IsTooFine decimal = (IsAboveOne decimal → ⊥) × ((units : ℕ) → IsInUnits units decimal → ⊥)

-- the result for a decimal
abbrev pub Answers : Decimal → Result ℕ RateFault → Type 0
Answers decimal (Ok rate) = IsInUnits rate decimal × (rate ≤ 1000000000)
Answers decimal (Err NoNumber) = ⊥
Answers decimal (Err AboveOne) = IsAboveOne decimal
Answers decimal (Err TooFine) = IsTooFine decimal
