-- A text cut after its first digits: there is one such cut.
use Rattle.decimal_text.proofs.Names.{◌≡◌, ℕ, suc, ◌+◌, Bool, true, false, cond, List, [], ◌∷◌, ◌++◌, take, drop, refl, sym, ap, ◌∙◌, subst, arith, is_ascii_digit, IsAsciiDigit, nat_tests, AreDigits}
use Rattle.std.specs.List.{prefix_len}
use Rattle.std.proofs.lemmas.List.{append-nil}
use Rattle.std.proofs.lemmas.Str.Parse.{digit_from_value}
use Rattle.decimal_text.proofs.Numbers.{digit_below}
use Rattle.decimal_text.specs.inside.Splits.{SplitsDigits, StopsDigits}

is_digit : (x : ℕ) → is_ascii_digit x ≡ true → IsAsciiDigit x
is_digit x h = grind (arith, nat_tests)

no_digit : (x : ℕ) → is_ascii_digit x ≡ false → IsAsciiDigit x → ⊥
no_digit x h k = grind (arith, nat_tests)

step : (x : ℕ) (text : List ℕ) (n : ℕ) (b : Bool) → is_ascii_digit x ≡ b
    → SplitsDigits text (take n text) (drop n text)
    → (m : ℕ) → m ≡ cond b (1 + n) 0
    → SplitsDigits (x ∷ text) (take m (x ∷ text)) (drop m (x ∷ text))
step x text n true e s m h =
    let more : SplitsDigits (x ∷ text) (x ∷ take n text) (drop n text) = record { joined = ap (λ t. x ∷ t) s.joined; are_digits = (digit_below x (is_digit x e), s.are_digits); stops = s.stops } in
    let same : m ≡ suc n = omega arith in
    rw same more
step x text n false e s m h = rw h (record { joined = refl; are_digits = tt; stops = no_digit x e })

pub cut_at_prefix : (text : List ℕ) → SplitsDigits text (take (prefix_len is_ascii_digit text) text) (drop (prefix_len is_ascii_digit text) text)
cut_at_prefix [] = record { joined = refl; are_digits = tt; stops = tt }
cut_at_prefix (x ∷ text) = step x text (prefix_len is_ascii_digit text) (is_ascii_digit x) refl (cut_at_prefix text) _ refl

-- the digits at the start are those of each other such cut
pub fronts : (d r e s : List ℕ) → AreDigits d → StopsDigits r → AreDigits e → StopsDigits s → d ++ r ≡ e ++ s → (d ≡ e) × (r ≡ s)
fronts [] r [] s dd rr ee ss same = (refl, same)
fronts [] r (y ∷ e) s dd rr ee ss same = absurd ((subst StopsDigits same rr) (digit_from_value y ee.0))
fronts (x ∷ d) r [] s dd rr ee ss same = absurd ((subst StopsDigits (sym same) ss) (digit_from_value x dd.0))
fronts (x ∷ d) r (y ∷ e) s dd rr ee ss same =
    let heads : x ≡ y = cc in
    let tails : d ++ r ≡ e ++ s = cc in
    let rest = fronts d r e s dd.1 rr ee.1 ss tails in
    let front : d ≡ e = rest.0 in
    (cc, rest.1)

pub one_cut : (text d r e s : List ℕ) → SplitsDigits text d r → SplitsDigits text e s → (d ≡ e) × (r ≡ s)
one_cut text d r e s h k = fronts d r e s h.are_digits h.stops k.are_digits k.stops (sym h.joined ∙ k.joined)

-- a text of digits is cut at its end
pub all_digits : (text d r : List ℕ) → SplitsDigits text d r → AreDigits text → (d ≡ text) × (r ≡ [])
all_digits text d r h k = one_cut text d r text [] h (record { joined = sym (append-nil text); are_digits = k; stops = tt })
