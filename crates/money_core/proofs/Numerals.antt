-- Which texts are the decimal digits of a number.
use Rattle.money_core.proofs.Names.{◌≡◌, ℕ, ◌^◌, ◌<◌, List, length, get_or, sym, ap, ◌∙◌, inl, inr, subst, arith, eq-zero-or-pos, decimal, AllDigits, digits_value, decimal_is_IsNumeral, decimal_is_IsNumeral_wide, decimal_digit, first_decimal, decimal-digits_value, IsNumeralModel, numerals_by_value, tells_digits}

own : IsNumeralModel (AllDigits 10) (digits_value 10)
own = numerals_by_value (AllDigits 10) tells_digits

-- the text is digits alone, at least one and without a leading zero, and they write n
pub record Writes (n : ℕ) (ds : List ℕ) : Type 0 where
  pub digits : AllDigits 10 ds
  pub some : 0 < length ds
  pub short : get_or ds 0 0 ≡ 48 → length ds ≡ 1
  pub value : digits_value 10 ds ≡ n

short_decimal : (n : ℕ) → n < 2 ^ 64 → get_or (decimal n) 0 0 ≡ 48 → length (decimal n) ≡ 1
short_decimal n small zero_first =
    elim (eq-zero-or-pos n) [
      | inl z ↦ ap length (decimal_digit n (omega arith))
      | inr more ↦ absurd (omega (arith, first_decimal n more small))
    ]

writes_decimal : (n : ℕ) → n < 2 ^ 64 → Writes n (decimal n)
writes_decimal n small =
    let numeral = decimal_is_IsNumeral n small in
    record { digits = numeral.0.1; some = numeral.0.0; short = short_decimal n small; value = numeral.1 }

pub writes_from_decimal : (n : ℕ) (ds : List ℕ) → n < 2 ^ 64 → ds ≡ decimal n → Writes n ds
writes_from_decimal n ds small e = subst (Writes n) (sym e) (writes_decimal n small)

pub decimal_from_writes : (n : ℕ) (ds : List ℕ) → n < 2 ^ 64 → Writes n ds → ds ≡ decimal n
decimal_from_writes n ds small w =
    let fits : digits_value 10 ds < 2 ^ 64 = omega (arith, w.value) in
    sym (decimal-digits_value own ds w.digits w.some w.short fits) ∙ ap decimal w.value

-- two numbers of at most 64 digits have different digits
pub decimal_injective_wide : (m n : ℕ) → m < 10 ^ 64 → n < 10 ^ 64 → decimal m ≡ decimal n → m ≡ n
decimal_injective_wide m n small_m small_n e =
    sym (decimal_is_IsNumeral_wide m small_m).1 ∙ ap (digits_value 10) e ∙ (decimal_is_IsNumeral_wide n small_n).1
