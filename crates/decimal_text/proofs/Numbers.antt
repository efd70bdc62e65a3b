-- The number that digits write.
use Rattle.decimal_text.proofs.Names.{◌≡◌, ℕ, zero, suc, ◌+◌, ◌-◌, ◌*◌, ◌^◌, ◌<◌, ◌≤◌, List, [], ◌∷◌, ◌++◌, length, drop, get_or, refl, ◌∙◌, arith, nat_tests, IsAsciiDigit, digit_value, digits_value_after, AreDigits, number}
use Rattle.std.proofs.Math.Nat.{pow-suc}
use Rattle.std.proofs.lemmas.Str.Parse.{digit_from_value}

pub digit_value_is : (x : ℕ) → IsAsciiDigit x → digit_value x ≡ x - 48
digit_value_is x h = let low : 48 ≤ x = h.0 in let high : x ≤ 57 = h.1 in grind (arith, nat_tests)

pub digit_below : (x : ℕ) → IsAsciiDigit x → digit_value x < 10
digit_below x h = omega (arith, digit_value_is x h, h.0, h.1)

pub no_digit_below : (x : ℕ) → (IsAsciiDigit x → ⊥) → digit_value x < 10 → ⊥
no_digit_below x none h = none (digit_from_value x h)

after_is : (n : ℕ) (b : List ℕ) → digits_value_after 10 n b ≡ n * 10 ^ length b + number b
after_is n [] = omega arith
after_is n (x ∷ b) =
    let here = after_is (n * 10 + digit_value x) b in
    let alone = after_is (digit_value x) b in
    rw (pow-suc 10 (length b)) (grind arith)

after_append : (n : ℕ) (a b : List ℕ) → digits_value_after 10 n (a ++ b) ≡ digits_value_after 10 (digits_value_after 10 n a) b
after_append n [] b = refl
after_append n (x ∷ a) b = after_append (n * 10 + digit_value x) a b

pub number-append : (a b : List ℕ) → number (a ++ b) ≡ number a * 10 ^ length b + number b
number-append a b = after_append 0 a b ∙ after_is (number a) b

pub AreDigits-append : (a b : List ℕ) → AreDigits a → AreDigits b → AreDigits (a ++ b)
AreDigits-append [] b h k = k
AreDigits-append (x ∷ a) b h k = (h.0, AreDigits-append a b h.1 k)

pub digit_at : (a : List ℕ) (i : ℕ) → AreDigits a → i < length a → IsAsciiDigit (get_or a i 0)
digit_at [] i h k = absurd (omega arith)
digit_at (x ∷ a) zero h k = digit_from_value x h.0
digit_at (x ∷ a) (suc i) h k = digit_at a i h.1 (omega arith)

pub AreDigits-drop : (n : ℕ) (a : List ℕ) → AreDigits a → AreDigits (drop n a)
AreDigits-drop zero a h = h
AreDigits-drop (suc n) [] h = tt
AreDigits-drop (suc n) (x ∷ a) h = AreDigits-drop n a h.1
