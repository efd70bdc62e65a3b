-- The places of turns in a history
use Rattle.lane_runner.proofs.Names.{◌≡◌, ℕ, ◌+◌, ◌≤◌, ◌<◌, ◌==◌, Bool, true, false, List, [], ◌∷◌, ◌++◌, length, refl, ap, sym, ◌∙◌, arith, AllByRecursion, enumerate_from, filter, Entry, Placed, turns_of, entries_of}

-- the turns of a caller, the first of which is at a place
abbrev pub turns_from : ℕ → List Entry → ℕ → List Placed
turns_from n history caller = filter (λ (placed : Placed). placed.1.caller == caller) (enumerate_from n history)

-- a turn at n or after it, below m
abbrev IsBetween : ℕ → ℕ → Placed → Type 0
IsBetween n m placed = (n ≤ placed.0) × (placed.0 < m)

earlier : (n m : ℕ) (turns : List Placed) → AllByRecursion (IsBetween (n + 1) m) turns → AllByRecursion (IsBetween n m) turns
earlier n m [] all = tt
earlier n m (turn ∷ turns) all = ((omega (arith, all.0.0), all.0.1), earlier n m turns all.1)

pub turns_between : (n m : ℕ) (history : List Entry) (caller : ℕ) → n + length history ≡ m
    → AllByRecursion (λ (placed : Placed). (n ≤ placed.0) × (placed.0 < m)) (turns_from n history caller)
turns_between n m [] caller is = tt
turns_between n m (entry ∷ history) caller is =
    by (entry.caller == caller) refl (earlier n m (turns_from (n + 1) history caller) (turns_between (n + 1) m history caller (omega (arith, is))))
  where
    by : (b : Bool) → (entry.caller == caller) ≡ b → AllByRecursion (IsBetween n m) (turns_from (n + 1) history caller)
        → AllByRecursion (IsBetween n m) (turns_from n (entry ∷ history) caller)
    by true own later = rw own ((omega arith, omega (arith, is)), later)
    by false other later = rw other later

below_only : (m : ℕ) (turns : List Placed) → AllByRecursion (IsBetween 0 m) turns → AllByRecursion (λ (placed : Placed). placed.0 < m) turns
below_only m [] all = tt
below_only m (turn ∷ turns) all = (all.0.1, below_only m turns all.1)

-- each turn stands within the history
pub turns_inside : (history : List Entry) (caller : ℕ) → AllByRecursion (λ (placed : Placed). placed.0 < length history) (turns_of history caller)
turns_inside history caller = below_only (length history) (turns_of history caller) (turns_between 0 (length history) history caller (omega arith))

-- if no entry is the caller's, no turn is
pub no_turns : (n : ℕ) (history : List Entry) (caller : ℕ) → entries_of history caller ≡ [] → turns_from n history caller ≡ []
no_turns n [] caller none = refl
no_turns n (entry ∷ history) caller none = by (entry.caller == caller) refl (no_turns (n + 1) history caller)
  where
    by : (b : Bool) → (entry.caller == caller) ≡ b
        → (entries_of history caller ≡ [] → turns_from (n + 1) history caller ≡ [])
        → turns_from n (entry ∷ history) caller ≡ []
    by true is later =
        let own : entries_of (entry ∷ history) caller ≡ entry ∷ entries_of history caller = rw is refl in
        let some : entry ∷ entries_of history caller ≡ [] = sym own ∙ none in absurd (cc)
    by false is later =
        let kept : entries_of (entry ∷ history) caller ≡ entries_of history caller = rw is refl in
        let rest : turns_from n (entry ∷ history) caller ≡ turns_from (n + 1) history caller = rw is refl in
        rest ∙ later (sym kept ∙ none)

tail_of : {A : Type 0} (x : A) (xs ys : List A) → x ∷ xs ≡ x ∷ ys → xs ≡ ys
tail_of x xs ys same = cc

-- the caller's turns stay as they are if no later entry is the caller's
pub turns_stay : (n : ℕ) (seen rest : List Entry) (caller : ℕ) → entries_of (seen ++ rest) caller ≡ entries_of seen caller
    → turns_from n (seen ++ rest) caller ≡ turns_from n seen caller
turns_stay n [] rest caller same = no_turns n rest caller same
turns_stay n (entry ∷ seen) rest caller same = by (entry.caller == caller) refl (turns_stay (n + 1) seen rest caller)
  where
    by : (b : Bool) → (entry.caller == caller) ≡ b
        → (entries_of (seen ++ rest) caller ≡ entries_of seen caller → turns_from (n + 1) (seen ++ rest) caller ≡ turns_from (n + 1) seen caller)
        → turns_from n (entry ∷ seen ++ rest) caller ≡ turns_from n (entry ∷ seen) caller
    by true is later =
        let whole : entries_of (entry ∷ seen ++ rest) caller ≡ entry ∷ entries_of (seen ++ rest) caller = rw is refl in
        let front : entries_of (entry ∷ seen) caller ≡ entry ∷ entries_of seen caller = rw is refl in
        let first : turns_from n (entry ∷ seen ++ rest) caller ≡ (n, entry) ∷ turns_from (n + 1) (seen ++ rest) caller = rw is refl in
        let second : turns_from n (entry ∷ seen) caller ≡ (n, entry) ∷ turns_from (n + 1) seen caller = rw is refl in
        first ∙ ap (λ turns. (n, entry) ∷ turns) (later (tail_of entry (entries_of (seen ++ rest) caller) (entries_of seen caller) (sym whole ∙ same ∙ front))) ∙ sym second
    by false is later =
        let whole : entries_of (entry ∷ seen ++ rest) caller ≡ entries_of (seen ++ rest) caller = rw is refl in
        let front : entries_of (entry ∷ seen) caller ≡ entries_of seen caller = rw is refl in
        let first : turns_from n (entry ∷ seen ++ rest) caller ≡ turns_from (n + 1) (seen ++ rest) caller = rw is refl in
        let second : turns_from n (entry ∷ seen) caller ≡ turns_from (n + 1) seen caller = rw is refl in
        first ∙ later (sym whole ∙ same ∙ front) ∙ sym second
