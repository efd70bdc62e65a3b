-- The least number of a list
use Rattle.policy_machine.proofs.Names.{◌≡◌, ℕ, suc, zero, ◌+◌, ◌<◌, ◌≤◌, ◌⊎◌, inl, inr, List, [], ◌∷◌, refl, ap, ◌∙◌, None, Some, Option, filter_map, arith, cons_option, range_with_len, least_or}

-- a number of a list, and the least of the list
abbrev pub Member : ℕ → List ℕ → Type 0
Member n [] = ⊥
Member n (m ∷ ns) = (m ≡ n) ⊎ Member n ns

pub least_member : (other n : ℕ) (ns : List ℕ) → Member n ns → least_or other ns ≤ n
least_member other n [] member = absurd member
least_member other n (m ∷ []) (inl same) = omega arith
least_member other n (m ∷ []) (inr none) = absurd none
least_member other n (m ∷ k ∷ ns) (inl same) = omega arith
least_member other n (m ∷ k ∷ ns) (inr member) = let below = least_member other n (k ∷ ns) member in omega arith

pub member_more : (n : ℕ) (o : Option ℕ) (ns : List ℕ) → Member n ns → Member n (cons_option o ns)
member_more n None ns member = member
member_more n (Some m) ns member = inr member

pub member_first : (n : ℕ) (o : Option ℕ) (ns : List ℕ) → o ≡ Some n → Member n (cons_option o ns)
member_first n None ns same = grind arith
member_first n (Some m) ns same = inl (grind arith)

pub member_of_range : (h : ℕ → Option ℕ) (k n : ℕ) → h k ≡ Some n → (from len : ℕ) → from ≤ k → k < from + len
    → Member n (filter_map h (range_with_len from len))
member_of_range h k n found from zero low high = grind arith
member_of_range h k n found from (suc len) low high = by_place (grind arith) (member_of_range h k n found (from + 1) len)
  where
    by_place : (from ≡ k) ⊎ (from + 1 ≤ k)
        → (from + 1 ≤ k → k < from + 1 + len → Member n (filter_map h (range_with_len (from + 1) len)))
        → Member n (filter_map h (range_with_len from (suc len)))
    by_place (inl here) rest = member_first n (h from) (filter_map h (range_with_len (from + 1) len)) (ap h here ∙ found)
    by_place (inr later) rest = member_more n (h from) (filter_map h (range_with_len (from + 1) len)) (rest later (grind arith))

pub least_bounded : (h : ℕ → Option ℕ) (other : ℕ) → ((k n : ℕ) → h k ≡ Some n → n ≤ other) → (ks : List ℕ)
    → least_or other (filter_map h ks) ≤ other
least_bounded h other bound [] = omega arith
least_bounded h other bound (k ∷ ks) = with_first (least_bounded h other bound ks) (h k) refl
  where
    least_first : (n : ℕ) (ns : List ℕ) → n ≤ other → least_or other (n ∷ ns) ≤ other
    least_first n [] few = few
    least_first n (m ∷ ns) few = omega arith

    with_first : least_or other (filter_map h ks) ≤ other → (o : Option ℕ) → h k ≡ o
        → least_or other (cons_option o (filter_map h ks)) ≤ other
    with_first rest None none = rest
    with_first rest (Some n) found = least_first n (filter_map h ks) (bound k n found)
