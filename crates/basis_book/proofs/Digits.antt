-- Numbers by their digits.
use Rattle.basis_book.proofs.Names.{◌≡◌, ◌≢◌, false, ℕ, suc, ◌+◌, ◌-◌, ◌*◌, ◌^◌, ◌<◌, ◌≤◌, List, [], ◌∷◌, length, get_or, sym, ◌∙◌, true, take, arith, lit<, length-take-le, IsPoints}
use Rattle.std.specs.Char.{digit_value, is_ascii_digit}
use Rattle.std.specs.Str.Parse.{AllDigits, digits_value, digits_value_after}
use Rattle.std.proofs.lemmas.Str.Parse.{digit_at, digit_from_value}
use Rattle.std.proofs.lemmas.Int.Digits.{digits_value-lt}
use Rattle.std.proofs.lemmas.Bool.Decides.{nat_tests}
use Rattle.std.proofs.Math.Nat.{mul-le-mul_right, pow-suc, pow-le-pow_right}

-- the digits that follow count at least the number so far with zeros
after_least : (n : ℕ) (cs : List ℕ) → n * 10 ^ length cs ≤ digits_value_after 10 n cs
after_least n [] = omega arith
after_least n (c ∷ cs) =
    let rest : (n * 10 + digit_value c) * 10 ^ length cs ≤ digits_value_after 10 (n * 10 + digit_value c) cs = after_least (n * 10 + digit_value c) cs in
    rw (pow-suc 10 (length cs)) (omega arith)

pub digit_value_is : (c : ℕ) → 48 ≤ c → c ≤ 57 → digit_value c ≡ c - 48
digit_value_is c h k = grind (arith, nat_tests)

longer : (n : ℕ) → 4 < suc n → 4 ≤ n
longer n h = omega arith

-- more than four digits with no leading zero are more than any basis points
pub too_long : (text : List ℕ) (points : ℕ) → IsPoints text points → 4 < length text → ⊥
too_long [] points h long = omega arith
too_long (c ∷ cs) points h long =
    let first : (48 ≤ c) × (c ≤ 57) = digit_from_value c h.digits.0 in
    let value : digit_value c ≡ c - 48 = digit_value_is c first.0 first.1 in
    let not_zero = h.plain (omega arith) in
    let some : 1 ≤ digit_value c = omega arith in
    let least = after_least (0 * 10 + digit_value c) cs in
    let tens : 10 ^ 4 ≤ 10 ^ length cs = pow-le-pow_right (lit< tt) (longer (length cs) long) in
    let more : 1 * 10 ^ length cs ≤ digit_value c * 10 ^ length cs = mul-le-mul_right (10 ^ length cs) some in
    omega (arith, h.value, h.most)

pub digit_range : (c : ℕ) → is_ascii_digit c ≡ true → (48 ≤ c) × (c ≤ 57)
digit_range c h = (grind (arith, nat_tests), grind (arith, nat_tests))

-- a digit, by its code
pub digit_is : (c d : ℕ) → is_ascii_digit c ≡ true → d ≡ c - 48 → (digit_value c ≡ d) × (d < 10)
digit_is c d h e = let range = digit_range c h in (digit_value_is c range.0 range.1 ∙ sym e, omega (arith, range.0, range.1))

-- three digits are below 1,000
pub small_so_far : (text : List ℕ) (i n : ℕ) → length text ≤ 4 → i < length text → AllDigits 10 (take i text) → n ≡ digits_value 10 (take i text) → n < 1000
small_so_far text i n short h all e =
    let bound : digits_value 10 (take i text) < 10 ^ length (take i text) = digits_value-lt 10 (take i text) all in
    let few : length (take i text) ≤ 3 = omega (arith, length-take-le i text (omega arith)) in
    let tens : 10 ^ length (take i text) ≤ 10 ^ 3 = pow-le-pow_right (lit< tt) few in
    omega arith

-- a byte that is no digit stands in no number
pub no_digit : (text : List ℕ) (i : ℕ) → AllDigits 10 text → i < length text → is_ascii_digit (get_or text i 0) ≢ false
no_digit text i h k = let in_range = digit_at text i h k in λ e. grind (arith, nat_tests)
