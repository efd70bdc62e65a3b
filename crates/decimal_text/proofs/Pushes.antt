-- One more digit among those counted.
use Rattle.decimal_text.proofs.Names.{◌≡◌, ℕ, ◌+◌, ◌-◌, ◌*◌, ◌^◌, ◌<◌, ◌≤◌, List, [], ◌∷◌, ◌++◌, length, take, drop, min, sym, ap, ◌∙◌, arith, inl, inr, take_all, drop_all, take-append-le, drop-append-le, length_push, cases_lt, IsAsciiDigit, number}
use Rattle.std.proofs.Math.Nat.{mul-le-mul_left, mul-le-mul_right, one-le-pow}
use Rattle.std.proofs.lemmas.Int.Digits.{digits_value_push}
use Rattle.decimal_text.proofs.Numbers.{digit_value_is}

number_push : (s : List ℕ) (d : ℕ) → IsAsciiDigit d → number (s ++ d ∷ []) ≡ number s * 10 + (d - 48)
number_push s d h = digits_value_push 10 s d ∙ ap (λ n. number s * 10 + n) (digit_value_is d h)

pub take-push_under : (places : ℕ) (seen : List ℕ) (d : ℕ) → IsAsciiDigit d → length seen < places → number (take places (seen ++ d ∷ [])) ≡ number (take places seen) * 10 + (d - 48)
take-push_under places seen d digit h =
    rw (take_all places (seen ++ d ∷ []) (omega (arith, length_push seen d)), take_all places seen (omega arith)) (number_push seen d digit)

pub drop-push_under : (places : ℕ) (seen : List ℕ) (d : ℕ) → length seen < places → drop places (seen ++ d ∷ []) ≡ drop places seen
drop-push_under places seen d h = drop_all places (seen ++ d ∷ []) (omega (arith, length_push seen d)) ∙ sym (drop_all places seen (omega arith))

pub take-push_past : (places : ℕ) (seen : List ℕ) (d : ℕ) → places ≤ length seen → take places (seen ++ d ∷ []) ≡ take places seen
take-push_past places seen d h = take-append-le places seen (d ∷ []) h

pub drop-push_past : (places : ℕ) (seen : List ℕ) (d : ℕ) → IsAsciiDigit d → places ≤ length seen → number (drop places (seen ++ d ∷ [])) ≡ number (drop places seen) * 10 + (d - 48)
drop-push_past places seen d digit h = rw (drop-append-le places seen (d ∷ []) h) (number_push (drop places seen) d digit)

over : (a b most : ℕ) → most ≤ a → a ≤ b → min a most ≡ min b most
over a b most h k = omega arith

under_most : (n most : ℕ) → n < most → min n most ≡ n
under_most n most h = omega arith

past_most : (n most : ℕ) → most ≤ n → min n most ≡ most
past_most n most h = omega arith

pub capped-product : (n most p : ℕ) → 0 < p → min (min n most * p) most ≡ min (n * p) most
capped-product n most p h =
    elim (cases_lt n most) [
      | inl under ↦ ap (λ x. min (x * p) most) (under_most n most under)
      | inr past ↦ ap (λ x. min (x * p) most) (past_most n most past) ∙ over (most * p) (n * p) most (omega (arith, mul-le-mul_left most h)) (mul-le-mul_right p past)
    ]

-- the whole of it: what was counted to a place, with zeros down to the last
pub counted : (n count left total : ℕ) → count ≡ min n 1000000001 → total ≡ min (count * 10 ^ left) 1000000001 → total ≡ min (n * 10 ^ left) 1000000001
counted n count left total h k = k ∙ ap (λ x. min (x * 10 ^ left) 1000000001) h ∙ capped-product n 1000000001 (10 ^ left) (one-le-pow left 10 (omega arith))
