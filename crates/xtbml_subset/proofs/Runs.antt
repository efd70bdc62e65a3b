-- A run of bytes of one class.
use Rattle.xtbml_subset.proofs.Names.{◌≡◌, ℕ, zero, suc, ◌+◌, ◌-◌, ◌<◌, ◌≤◌, Bool, true, false, cond, eqb, not, Option, Some, None, List, [], ◌∷◌, ◌++◌, length, get_or, take, drop, refl, sym, ap, ◌∙◌, inl, inr, append_assoc, arith, drop_more, take_more, drop_all, take_all, append-nil, cases_Bool, false_from_ne_true, Class, Text, first_of, dashes_at, comment_end_at, from_byte, is_in, InClass, front, after}
use Rattle.memchr.specs.Find.{Nowhere, Passes, IsFirstByte, is_byte}

pub front_more : (class : Class) (bytes : List ℕ) (i : ℕ) → i < length bytes → is_in class (get_or bytes i 0) ≡ true
    → take i bytes ++ front class (drop i bytes) ≡ take (i + 1) bytes ++ front class (drop (i + 1) bytes)
front_more class bytes i lt h =
    let split : front class (drop i bytes) ≡ get_or bytes i 0 ∷ front class (drop (i + 1) bytes) = rw (drop_more bytes i 0 lt, h) refl in
    rw (split, take_more bytes i 0 lt) (sym (append_assoc (take i bytes) (get_or bytes i 0 ∷ []) (front class (drop (i + 1) bytes))))

pub after_more : (class : Class) (bytes : List ℕ) (i : ℕ) → i < length bytes → is_in class (get_or bytes i 0) ≡ true
    → after class (drop i bytes) ≡ after class (drop (i + 1) bytes)
after_more class bytes i lt h = rw (drop_more bytes i 0 lt, h) refl

pub front_stop : (class : Class) (bytes : List ℕ) (i : ℕ) → i < length bytes → is_in class (get_or bytes i 0) ≡ false
    → take i bytes ++ front class (drop i bytes) ≡ take i bytes
front_stop class bytes i lt h = rw (drop_more bytes i 0 lt, h) (append-nil (take i bytes))

pub after_stop : (class : Class) (bytes : List ℕ) (i : ℕ) → i < length bytes → is_in class (get_or bytes i 0) ≡ false
    → after class (drop i bytes) ≡ drop i bytes
after_stop class bytes i lt h =
    let more = drop_more bytes i 0 lt in
    rw (more, h) refl

pub front_end : (class : Class) (bytes : List ℕ) (i : ℕ) → length bytes ≤ i → take i bytes ++ front class (drop i bytes) ≡ take i bytes
front_end class bytes i le = rw (drop_all i bytes le) (append-nil (take i bytes))

pub after_end : (class : Class) (bytes : List ℕ) (i : ℕ) → length bytes ≤ i → after class (drop i bytes) ≡ drop i bytes
after_end class bytes i le = rw (drop_all i bytes le) refl

pub front-after : (class : Class) (bytes : List ℕ) → bytes ≡ front class bytes ++ after class bytes
front-after class [] = refl
front-after class (b ∷ bytes) =
    elim (is_in class b) as (λ t. b ∷ bytes ≡ cond t (b ∷ front class bytes) [] ++ cond t (after class bytes) (b ∷ bytes)) [
      | true ↦ ap (λ (s : List ℕ). b ∷ s) (front-after class bytes)
      | false ↦ refl
    ]

pub front_in : (class : Class) (bytes : List ℕ) → InClass class (front class bytes)
front_in class [] = tt
front_in class (b ∷ bytes) =
    let P : Bool → Type 0 = λ t. is_in class b ≡ t → InClass class (cond t (b ∷ front class bytes) []) in
    let both : P (is_in class b) = elim (is_in class b) as P [
      | true ↦ λ h. (h, front_in class bytes)
      | false ↦ λ h. tt
    ] in
    both refl

-- ---- from the first byte of a value on

from_more : (b : ℕ) (bytes : List ℕ) (i : ℕ) → i < length bytes → eqb (get_or bytes i 0) b ≡ false → from_byte b (drop i bytes) ≡ from_byte b (drop (i + 1) bytes)
from_more b bytes i lt h = rw (drop_more bytes i 0 lt, h) refl

from_next : (b : ℕ) (bytes : List ℕ) (i : ℕ) → i < length bytes → eqb (get_or bytes i 0) b ≡ false → from_byte b (drop i bytes) ≡ from_byte b (drop (suc i) bytes)
from_next b bytes i lt h =
    let more : from_byte b (drop i bytes) ≡ from_byte b (drop (i + 1) bytes) = from_more b bytes i lt h in
    let next : i + 1 ≡ suc i = omega arith in
    more ∙ ap (λ m. from_byte b (drop m bytes)) next

from_skip : (b : ℕ) (bytes : List ℕ) (n : ℕ) → n ≤ length bytes → Nowhere (Passes (is_byte b) bytes) 0 n → from_byte b bytes ≡ from_byte b (drop n bytes)
from_skip b bytes zero le none = refl
from_skip b bytes (suc n) le none =
    let other : eqb (get_or bytes n 0) b ≡ false = false_from_ne_true (eqb (get_or bytes n 0) b) (none n (omega arith) (omega arith)) in
    from_skip b bytes n (omega arith) (λ k low high. none k low (omega arith)) ∙ from_next b bytes n (omega arith) other

from_found : (b : ℕ) (bytes : List ℕ) (n : ℕ) → n < length bytes → Nowhere (Passes (is_byte b) bytes) 0 n → eqb (get_or bytes n 0) b ≡ true → from_byte b bytes ≡ drop n bytes
from_found b bytes n lt none is =
    let more = drop_more bytes n 0 lt in
    let stop : from_byte b (drop n bytes) ≡ drop n bytes = rw (more, is) refl in
    from_skip b bytes n (omega arith) none ∙ stop

from_none : (b : ℕ) (bytes : List ℕ) → Nowhere (Passes (is_byte b) bytes) 0 (length bytes) → from_byte b bytes ≡ []
from_none b bytes none =
    let all = drop_all (length bytes) bytes (omega arith) in
    from_skip b bytes (length bytes) (omega arith) none ∙ ap (from_byte b) all

pub found_is : (b : ℕ) (bytes : List ℕ) (r : Option ℕ) (n : ℕ) → r ≡ Some n → IsFirstByte (is_byte b) bytes r → from_byte b bytes ≡ drop n bytes
found_is b bytes None n e h = absurd cc
found_is b bytes (Some k) n e h =
    let same : k ≡ n = cc in
    from_found b bytes k h.0.high h.0.before h.1 ∙ ap (λ m. drop m bytes) same

pub none_is : (b : ℕ) (bytes : List ℕ) (r : Option ℕ) → r ≡ None → IsFirstByte (is_byte b) bytes r → from_byte b bytes ≡ []
none_is b bytes None e h = from_none b bytes h
none_is b bytes (Some k) e h = absurd cc

pub from_text : (bytes : List ℕ) → from_byte 60 bytes ≡ after Text bytes
from_text [] = refl
from_text (b ∷ bytes) =
    elim (eqb b 60) as (λ t. cond t (b ∷ bytes) (from_byte 60 bytes) ≡ cond (not t) (after Text bytes) (b ∷ bytes)) [
      | true ↦ refl
      | false ↦ from_text bytes
    ]

-- no comment ends before its first dash
pub end_from_dash : (bytes : List ℕ) → comment_end_at (from_byte 45 bytes) ≡ comment_end_at bytes
end_from_dash [] = refl
end_from_dash (b ∷ bytes) =
    elim (cases_Bool (eqb b 45)) [
      | inl h ↦ let whole : from_byte 45 (b ∷ bytes) ≡ b ∷ bytes = rw h refl in ap comment_end_at whole
      | inr h ↦ rw h (end_from_dash bytes)
    ]

-- and none ends where no dashes stand
pub end_behind : (rest : List ℕ) → None ≡ dashes_at rest → comment_end_at (take (length rest - 1) (drop 1 rest)) ≡ comment_end_at rest
end_behind [] none = refl
end_behind (b ∷ bytes) none =
    let count : length (b ∷ bytes) - 1 ≡ length bytes = omega arith in
    let all : take (length (b ∷ bytes) - 1) bytes ≡ bytes = ap (λ n. take n bytes) count ∙ take_all (length bytes) bytes (omega arith) in
    ap comment_end_at all ∙ ap (λ o. first_of o (comment_end_at bytes)) none
