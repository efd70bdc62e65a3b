-- The text of an amount: its two parts, which are the last three bytes and what stands before, and that it reports the amount.
use lib.Dec.{leb-zero}
use Rattle.std.specs.Prelude.{[]}
use Rattle.money_core.proofs.Names.{◌∷◌, ℤ, pos, negsuc, false, int_le, unsigned_abs, true≢false, suc, get_or, ◌≡◌, ℕ, ◌+◌, ◌-◌, ◌*◌, ◌/◌, ◌%◌, ◌^◌, ◌<◌, List, length, take, drop, sym, ap, ◌∙◌, refl, arith, length-append, take-append-drop, decimal, decimal_is_IsNumeral_wide, digit_at}
use Rattle.std.proofs.lemmas.List.{take_at, drop_at, get_or_append_left}
use Rattle.money_core.proofs.Numerals.{decimal_injective_wide}
use Rattle.money_core.specs.CentsText.{cents_text, signed_cents_text}

-- the last three bytes: a point and two digits
abbrev pub hundredths_text : ℕ → List ℕ
hundredths_text n = 46 ∷ (48 + n / 10) ∷ (48 + n % 10) ∷ []

pub hundredths_text_injective : (m n : ℕ) → m < 100 → n < 100 → hundredths_text m ≡ hundredths_text n → m ≡ n
hundredths_text_injective m n small_m small_n e =
    let tens : 48 + m / 10 ≡ 48 + n / 10 = cc in
    let ones : 48 + m % 10 ≡ 48 + n % 10 = cc in
    omega arith

length-cents_text : (n : ℕ) → length (cents_text n) - 3 ≡ length (decimal (n / 100))
length-cents_text n = omega (arith, length-append (decimal (n / 100)) (hundredths_text (n % 100)))

pub whole_part : (text : List ℕ) (c : ℕ) → text ≡ cents_text c → take (length text - 3) text ≡ decimal (c / 100)
whole_part text c e =
    ap (λ (t : List ℕ). take (length t - 3) t) e ∙ take_at (decimal (c / 100)) (hundredths_text (c % 100)) _ (sym (length-cents_text c))

pub fraction_part : (text : List ℕ) (c : ℕ) → text ≡ cents_text c → drop (length text - 3) text ≡ hundredths_text (c % 100)
fraction_part text c e =
    ap (λ (t : List ℕ). drop (length t - 3) t) e ∙ drop_at (decimal (c / 100)) (hundredths_text (c % 100)) _ (sym (length-cents_text c))

-- each amount has a text of its own
pub cents_text_injective : (m n : ℕ) → m < 10 ^ 64 → n < 10 ^ 64 → cents_text m ≡ cents_text n → m ≡ n
cents_text_injective m n small_m small_n e =
    let whole = decimal_injective_wide (m / 100) (n / 100) (omega arith) (omega arith) (sym (whole_part _ m refl) ∙ whole_part _ n e) in
    let rest = hundredths_text_injective (m % 100) (n % 100) (omega arith) (omega arith) (sym (fraction_part _ m refl) ∙ fraction_part _ n e) in
    omega arith

-- an amount's text is made of its two parts
pub text_from_parts : (text whole fraction : List ℕ) (units hundredths : ℕ) → hundredths < 100 → whole ≡ take (length text - 3) text
    → fraction ≡ drop (length text - 3) text → whole ≡ decimal units → fraction ≡ hundredths_text hundredths → text ≡ cents_text (units * 100 + hundredths)
text_from_parts text whole fraction units hundredths small before last w f =
    let u : (units * 100 + hundredths) / 100 ≡ units = omega arith in
    let h : (units * 100 + hundredths) % 100 ≡ hundredths = omega arith in
    rw (u, h, ← w, ← f, before, last) (sym (take-append-drop (length text - 3) text))

-- a negative amount has a minus before the text of its magnitude
pub minus_first : (z : ℤ) → int_le (pos 0) z ≡ false → 45 ∷ cents_text (unsigned_abs z) ≡ signed_cents_text z
minus_first (pos n) e = absurd (true≢false (sym (leb-zero n) ∙ e))
minus_first (negsuc n) e = refl

-- no minus stands at the start of an amount without a sign
not_minus : (n : ℕ) (rest : List ℕ) → n < 10 ^ 64 → 45 ∷ rest ≡ cents_text n → ⊥
not_minus n rest small e =
    let numeral = decimal_is_IsNumeral_wide (n / 100) (omega arith) in
    let digit = digit_at (decimal (n / 100)) 0 numeral.0.1 numeral.0.0 in
    let first : 45 ≡ get_or (decimal (n / 100)) 0 0 =
    ap (λ (t : List ℕ). get_or t 0 0) e ∙ get_or_append_left (decimal (n / 100)) (hundredths_text (n % 100)) 0 0 numeral.0.0 in
    omega arith

-- the same for an amount with a sign
pub signed_cents_text_injective : (y z : ℤ) → unsigned_abs y < 10 ^ 64 → unsigned_abs z < 10 ^ 64 → signed_cents_text y ≡ signed_cents_text z → y ≡ z
signed_cents_text_injective (pos m) (pos n) small_m small_n e = ap pos (cents_text_injective m n small_m small_n e)
signed_cents_text_injective (pos m) (negsuc n) small_m small_n e = absurd (not_minus m (cents_text (suc n)) small_m (sym e))
signed_cents_text_injective (negsuc m) (pos n) small_m small_n e = absurd (not_minus n (cents_text (suc m)) small_n e)
signed_cents_text_injective (negsuc m) (negsuc n) small_m small_n e =
    let rest : cents_text (suc m) ≡ cents_text (suc n) = cc in
    let same : suc m ≡ suc n = cents_text_injective (suc m) (suc n) small_m small_n rest in
    let less : m ≡ n = omega arith in
    ap negsuc less
