-- Lists of entries: the entries of one caller, beginnings, and the longer of two lists.
use Rattle.turn_lock.proofs.Names.{◌≡◌, ℕ, ◌+◌, ◌<◌, ◌≤◌, ◌≢◌, Bool, cond, eqb, List, [], ◌∷◌, ◌++◌, length, sym, refl, ap, ◌∙◌, subst, inl, inr, arith, eq-eqb, ne_eqb, length-append, AllByRecursion, Entry, entries_of, StartsWith, longer, shorter}
use Rattle.std.proofs.lemmas.List.{append-nil}
use Rattle.std.proofs.lemmas.List.Elements.{filter-append}
use Rattle.std.proofs.lemmas.Bool.{cases_lt, lt-ltb, le-ltb}

pub entries-append : (xs ys : List Entry) (n : ℕ) → entries_of (xs ++ ys) n ≡ entries_of xs n ++ entries_of ys n
entries-append xs ys n = filter-append (λ e. eqb e.caller n) xs ys

-- an entry of the caller is one more
pub entries-own : (xs : List Entry) (e : Entry) (n : ℕ) → e.caller ≡ n → entries_of (xs ++ e ∷ []) n ≡ entries_of xs n ++ e ∷ []
entries-own xs e n is = entries-append xs (e ∷ []) n ∙ ap (λ (b : Bool). entries_of xs n ++ cond b (e ∷ []) []) (eq-eqb e.caller n is)

-- an entry of another caller isn't
pub entries-other : (xs : List Entry) (e : Entry) (n : ℕ) → e.caller ≢ n → entries_of (xs ++ e ∷ []) n ≡ entries_of xs n
entries-other xs e n not = entries-append xs (e ∷ []) n ∙ (ap (λ (b : Bool). entries_of xs n ++ cond b (e ∷ []) []) (ne_eqb e.caller n not) ∙ append-nil (entries_of xs n))

-- if all callers are below m there is no entry of m
pub entries-none : (xs : List Entry) (m n : ℕ) → m ≤ n → AllByRecursion (λ e. e.caller < m) xs → entries_of xs n ≡ []
entries-none [] m n le all = refl
entries-none (x ∷ xs) m n le all = let below = all.0 in ap (λ (b : Bool). cond b (x ∷ entries_of xs n) (entries_of xs n)) (ne_eqb x.caller n (λ e. omega arith)) ∙ entries-none xs m n le all.1

pub same_start : (xs : List Entry) → StartsWith xs xs
same_start xs = ([], sym (append-nil xs))

pub starts_more : (xs ys zs : List Entry) → StartsWith xs ys → StartsWith (xs ++ zs) ys
starts_more xs ys zs s = (s.0 ++ zs, ap (λ us. us ++ zs) s.1 ∙ assoc ys s.0 zs)
  where
    assoc : (us vs ws : List Entry) → (us ++ vs) ++ ws ≡ us ++ (vs ++ ws)
    assoc [] vs ws = refl
    assoc (u ∷ us) vs ws = ap (λ l. u ∷ l) (assoc us vs ws)

pub starts_empty : (xs : List Entry) → StartsWith xs []
starts_empty xs = (xs, refl)

ends_alike : (xs ys : List Entry) → xs ≡ xs ++ ys → ys ≡ []
ends_alike xs [] e = refl
ends_alike xs (y ∷ ys) e = absurd (let l : length xs ≡ length xs + length (y ∷ ys) = ap length e ∙ length-append xs (y ∷ ys) in omega arith)

-- Of two beginnings of one list, the one that isn't longer is a beginning of the other
pub nested : (h xs ys : List Entry) → StartsWith h xs → StartsWith h ys → length ys ≤ length xs → StartsWith xs ys
nested h xs ys a b le = go xs ys a.0 b.0 (sym a.1 ∙ b.1) le
  where
    tail : List Entry → List Entry
    tail [] = []
    tail (x ∷ xs) = xs

    head_or : Entry → List Entry → Entry
    head_or d [] = d
    head_or d (x ∷ xs) = x

    go : (xs ys us vs : List Entry) → xs ++ us ≡ ys ++ vs → length ys ≤ length xs → StartsWith xs ys
    go xs [] us vs e le = (xs, refl)
    go [] (y ∷ ys) us vs e le = absurd (omega arith)
    go (x ∷ xs) (y ∷ ys) us vs e le = let r = go xs ys us vs (ap tail e) (omega arith) in let same : x ≡ y = ap (head_or x) e in (r.0, λ i. same i ∷ r.1 i)

-- what lies between a beginning and the whole has no entry of n where the two have the same of n
pub sandwiched : (h xs ys p : List Entry) (n : ℕ) → StartsWith h xs → StartsWith xs ys → entries_of h n ≡ p → entries_of ys n ≡ p → entries_of xs n ≡ p
sandwiched h xs ys p n a b whole part =
    let up : entries_of h n ≡ entries_of xs n ++ entries_of a.0 n = ap (λ l. entries_of l n) a.1 ∙ entries-append xs a.0 n in
    let down : entries_of xs n ≡ entries_of ys n ++ entries_of b.0 n = ap (λ l. entries_of l n) b.1 ∙ entries-append ys b.0 n in
    let e₁ : length p ≡ length (entries_of xs n) + length (entries_of a.0 n) = ap length (sym whole ∙ up) ∙ length-append (entries_of xs n) (entries_of a.0 n) in
    let e₂ : length (entries_of xs n) ≡ length p + length (entries_of b.0 n) = ap length down ∙ (length-append (entries_of ys n) (entries_of b.0 n) ∙ ap (λ l. length l + length (entries_of b.0 n)) part) in
    let none : entries_of b.0 n ≡ [] = is_nil (entries_of b.0 n) (omega arith) in
    down ∙ (ap (λ l. entries_of ys n ++ l) none ∙ (append-nil (entries_of ys n) ∙ part))
  where
    is_nil : (l : List Entry) → length l ≡ 0 → l ≡ []
    is_nil [] e = refl
    is_nil (x ∷ l) e = absurd (omega arith)

-- between two beginnings with the same entries of n there is none of n
pub none_between : (xs ys between p : List Entry) (n : ℕ) → xs ≡ ys ++ between → entries_of xs n ≡ p → entries_of ys n ≡ p → entries_of between n ≡ []
none_between xs ys between p n is whole part =
    ends_alike p (entries_of between n) (sym whole ∙ (ap (λ l. entries_of l n) is ∙ (entries-append ys between n ∙ ap (λ l. l ++ entries_of between n) part)))

-- the longer and the shorter list are the two, in some order
pub longer_cases : (xs ys : List Entry) (F : List Entry → List Entry → Type 0) → (length xs < length ys → F ys xs) → (length ys ≤ length xs → F xs ys) → F (longer xs ys) (shorter xs ys)
longer_cases xs ys F less more = elim (cases_lt (length xs) (length ys)) [
  | inl l ↦ subst (λ (b : Bool). F (cond b ys xs) (cond b xs ys)) (sym (lt-ltb (length xs) (length ys) l)) (less l)
  | inr l ↦ subst (λ (b : Bool). F (cond b ys xs) (cond b xs ys)) (sym (le-ltb (length xs) (length ys) l)) (more l)
]

-- if the whole has no entry of n, a beginning has none
pub none_at_start : (h xs : List Entry) (n : ℕ) → StartsWith h xs → entries_of h n ≡ [] → entries_of xs n ≡ []
none_at_start h xs n s none = first_nil (entries_of xs n) (entries_of s.0 n) (sym (entries-append xs s.0 n) ∙ (ap (λ l. entries_of l n) (sym s.1) ∙ none))
  where
    first_nil : (l m : List Entry) → l ++ m ≡ [] → l ≡ []
    first_nil [] m e = refl
    first_nil (x ∷ l) m e = absurd (let z : length (x ∷ (l ++ m)) ≡ 0 = ap length e in omega arith)

pub start_fits : (h xs : List Entry) → StartsWith h xs → length xs ≤ length h
start_fits h xs s = let e : length h ≡ length xs + length s.0 = ap length s.1 ∙ length-append xs s.0 in omega arith

-- a beginning that is as long is the whole
pub full_start : (h xs : List Entry) → StartsWith h xs → length h ≤ length xs → xs ≡ h
full_start h xs s le = let e : length h ≡ length xs + length s.0 = ap length s.1 ∙ length-append xs s.0 in
    sym (append-nil xs) ∙ (ap (λ l. xs ++ l) (sym (nil s.0 (omega arith))) ∙ sym s.1)
  where
    nil : (l : List Entry) → length l ≡ 0 → l ≡ []
    nil [] e = refl
    nil (x ∷ l) e = absurd (omega arith)
