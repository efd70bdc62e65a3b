-- Values as texts
use Rattle.life_args.proofs.Names.{◌≡◌, ◌≢◌, ◌+◌, ◌<◌, ◌^◌, ℕ, List, [], ◌∷◌, length, get_or, sym, ap, subst, arith, inl, inr, decimal, eq-zero-or-pos, ℤ, decimal_digit, decimal_nonempty, first_decimal, ints, IsDay, IsTermDay, day_text, IsDayText, IsName, IsPlainText}
use Rattle.std.proofs.lemmas.Bool.Decides.{nat_tests}
use Rattle.life_dates.proofs.TextLemmas.{IsDayText-day_text, day_text-only}

abbrev Text : Type 0
Text = List ℕ

-- a text that begins with another byte than a hyphen
begins : (text : Text) → 0 < length text → get_or text 0 0 ≢ 45 → IsPlainText text
begins [] some ne = absurd (omega arith)
begins (x ∷ xs) some ne = grind (arith, nat_tests)

first_of_decimal : (n : ℕ) → n < 2 ^ 64 → get_or (decimal n) 0 0 ≢ 45
first_of_decimal n small = elim (eq-zero-or-pos n) [
  | inl z ↦ let first : get_or (decimal n) 0 0 ≡ 48 + n = ap (λ t. get_or t 0 0) (decimal_digit n (omega arith)) in omega arith
  | inr more ↦ let first : 48 < get_or (decimal n) 0 0 = first_decimal n more small in omega arith
]

pub plain_decimal : (text : Text) (n : ℕ) → n < 2 ^ 64 → text ≡ decimal n → IsPlainText text
plain_decimal text n small is = subst IsPlainText (sym is) (begins (decimal n) (decimal_nonempty n small) (first_of_decimal n small))

pub plain_day : (text : Text) (day : ℤ) → text ≡ day_text day → IsPlainText text
unfolding day_text
plain_day text day is = subst IsPlainText (sym is) (begins (day_text day) (omega arith) (omega arith))

pub plain_name : (text : Text) → IsName text → IsPlainText text
plain_name text is = begins text (omega (arith, is.some)) first
  where
    first : get_or text 0 0 ≢ 45
    first = elim is.first [
      | inl letter ↦ elim letter [ inl digit ↦ omega (arith, digit) | inr large ↦ omega (arith, large) ]
      | inr small ↦ omega (arith, small)
    ]

term_day : (day : ℤ) → IsDay day → IsTermDay day
term_day day is = (is.0, omega (arith, ints))

-- a day's text is a text of the day, and its only one
pub text_of_day : (text : Text) (day : ℤ) → IsDay day → text ≡ day_text day → IsDayText text day
text_of_day text day is e = subst (λ (t : Text). IsDayText t day) (sym e) (IsDayText-day_text day (term_day day is))

pub day_of_text : (text : Text) (day : ℤ) → IsDay day → IsDayText text day → text ≡ day_text day
day_of_text text day is said = day_text-only text day (term_day day is) said
