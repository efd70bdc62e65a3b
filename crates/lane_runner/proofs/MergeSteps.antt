-- The lines of all lanes, put in the order of their first turns
use Rattle.lane_runner.proofs.Names.{◌≡◌, ◌⊎◌, ◌↔◌, ℕ, zero, suc, ◌+◌, ◌≤◌, ◌<◌, ◌==◌, nat_eq, Bool, true, false, List, [], ◌∷◌, ◌++◌, length, map, get_or, Some, slice_get, inl, inr, refl, ap, sym, ◌∙◌, subst, append_assoc, length-append, arith, AllByRecursion, AllZip, Contains, IsDistinct, filter, flat_map, slice_set, swap, IsPermutation, cond-true, cond-false, eq-eqb, eqb-true, false≢true, Contains-permutation, IsPermutation-keeps, IsPermutation-refl, IsPermutation-swap, IsPermutation-trans, Entry, AnswersLine, AnswersLines, Placed, turns_of, TranscriptLine, AnsweredLine, turns_in, AreRising, AreDry, dry_of, lacked_memory, AreInOrder}
use Rattle.lane_runner.proofs.AnswerSteps.{all_later}
use Rattle.lane_runner.proofs.Places.{turns_from}

-- x stands in the list
abbrev pub In : {A : Type 0} → A → List A → Type 0
In x [] = ⊥
In x (y ∷ ys) = (y ≡ x) ⊎ In x ys

pub in_contains : {A : Type 0} (x : A) (xs : List A) → In x xs → Contains xs x
in_contains x [] is = absurd is
in_contains x (y ∷ ys) (inl same) = (0, omega arith, same)
in_contains x (y ∷ ys) (inr later) = let rest = in_contains x ys later in (suc rest.0, omega (arith, rest.1), rest.2)

pub contains_in : {A : Type 0} (x : A) (xs : List A) → Contains xs x → In x xs
contains_in x [] is = absurd (let below = is.1 in omega arith)
contains_in x (y ∷ ys) (zero, below, same) = inl same
contains_in x (y ∷ ys) (suc k, below, same) = inr (contains_in x ys (k, omega (arith, below), same))

pub in_moved : {A : Type 0} (xs ys : List A) → IsPermutation xs ys → (x : A) → In x xs → In x ys
in_moved xs ys moved x is = contains_in x ys (Contains-permutation xs ys x moved (in_contains x xs is))

pub in_front : {A : Type 0} (x : A) (xs ys : List A) → In x xs → In x (xs ++ ys)
in_front x [] ys is = absurd is
in_front x (z ∷ xs) ys (inl same) = inl same
in_front x (z ∷ xs) ys (inr later) = inr (in_front x xs ys later)

pub in_back : {A : Type 0} (x : A) (xs ys : List A) → In x ys → In x (xs ++ ys)
in_back x [] ys is = is
in_back x (z ∷ xs) ys is = inr (in_back x xs ys is)

pub in_cases : {A : Type 0} (x : A) (xs ys : List A) → In x (xs ++ ys) → In x xs ⊎ In x ys
in_cases x [] ys is = inr is
in_cases x (z ∷ xs) ys (inl same) = inl (inl same)
in_cases {A} x (z ∷ xs) ys (inr later) = by (in_cases x xs ys later)
  where
    by : In x xs ⊎ In x ys → In x (z ∷ xs) ⊎ In x ys
    by (inl front) = inl (inr front)
    by (inr back) = inr back

pub in_filter : {A : Type 0} (p : A → Bool) (x : A) (xs : List A) → In x xs → p x ≡ true → In x (filter p xs)
in_filter p x [] is passes = absurd is
in_filter {A} p x (y ∷ ys) is passes = by (p y) refl (λ later. in_filter p x ys later passes) is
  where
    by : (b : Bool) → p y ≡ b → (In x ys → In x (filter p ys)) → In x (y ∷ ys) → In x (filter p (y ∷ ys))
    by true here rest (inl same) = rw here (inl same)
    by true here rest (inr later) = rw here (inr (rest later))
    by false here rest (inl same) = absurd (false≢true (sym here ∙ ap p same ∙ passes))
    by false here rest (inr later) = rw here (rest later)

pub from_filter : {A : Type 0} (p : A → Bool) (x : A) (xs : List A) → In x (filter p xs) → In x xs × (p x ≡ true)
from_filter p x [] is = absurd is
from_filter {A} p x (y ∷ ys) is = by (p y) refl (from_filter p x ys)
  where
    behind : In x ys × (p x ≡ true) → In x (y ∷ ys) × (p x ≡ true)
    behind found = (inr found.0, found.1)

    first : p y ≡ true → (In x (filter p ys) → In x ys × (p x ≡ true)) → In x (y ∷ filter p ys) → In x (y ∷ ys) × (p x ≡ true)
    first here rest (inl same) = (inl same, ap p (sym same) ∙ here)
    first here rest (inr later) = behind (rest later)

    by : (b : Bool) → p y ≡ b → (In x (filter p ys) → In x ys × (p x ≡ true)) → In x (y ∷ ys) × (p x ≡ true)
    by true here rest = first here rest (subst (In x) (cond-true (p y) _ _ here) is)
    by false here rest = behind (rest (subst (In x) (cond-false (p y) _ _ here) is))

pub all_in : {A : Type 0} (P : A → Type 0) (x : A) (xs : List A) → AllByRecursion P xs → In x xs → P x
all_in P x [] all is = absurd is
all_in P x (y ∷ ys) all (inl same) = subst P same all.0
all_in P x (y ∷ ys) all (inr later) = all_in P x ys all.1 later

pub in_all : {A : Type 0} (P : A → Type 0) (xs : List A) → ((x : A) → In x xs → P x) → AllByRecursion P xs
in_all P [] each = tt
in_all P (x ∷ xs) each = (each x (inl refl), in_all P xs (λ y is. each y (inr is)))

-- two lists that are alike place by place stay so if both are put into another order
zip_set : {A B : Type 0} (R : A → B → Type 0) (xs : List A) (ys : List B) (i : ℕ) (x : A) (y : B) → AllZip R xs ys → R x y
    → AllZip R (slice_set xs i x) (slice_set ys i y)
zip_set R [] [] i x y all one = tt
zip_set R [] (b ∷ ys) i x y all one = absurd all
zip_set R (a ∷ xs) [] i x y all one = absurd all
zip_set R (a ∷ xs) (b ∷ ys) zero x y all one = (one, all.1)
zip_set R (a ∷ xs) (b ∷ ys) (suc i) x y all one = (all.0, zip_set R xs ys i x y all.1 one)

zip_get : {A B : Type 0} (R : A → B → Type 0) (xs : List A) (ys : List B) (i : ℕ) (d : A) (e : B) → AllZip R xs ys → i < length ys
    → R (get_or xs i d) (get_or ys i e)
zip_get R [] [] i d e all below = absurd (omega arith)
zip_get R [] (b ∷ ys) i d e all below = absurd all
zip_get R (a ∷ xs) [] i d e all below = absurd all
zip_get R (a ∷ xs) (b ∷ ys) zero d e all below = all.0
zip_get R (a ∷ xs) (b ∷ ys) (suc i) d e all below = zip_get R xs ys i d e all.1 (omega (arith, below))

zip_swap : {A B : Type 0} (R : A → B → Type 0) (xs : List A) (ys : List B) (i j : ℕ) → AllZip R xs ys → i < length ys → j < length ys
    → AllZip R (swap xs i j) (swap ys i j)
zip_swap R [] [] i j all one other = tt
zip_swap R [] (b ∷ ys) i j all one other = absurd all
zip_swap R (a ∷ xs) [] i j all one other = absurd all
zip_swap R (a ∷ xs) (b ∷ ys) i j all one other =
    zip_set R (slice_set (a ∷ xs) i (get_or (a ∷ xs) j a)) (slice_set (b ∷ ys) i (get_or (b ∷ ys) j b)) j (get_or (a ∷ xs) i a) (get_or (b ∷ ys) i b)
    (zip_set R (a ∷ xs) (b ∷ ys) i (get_or (a ∷ xs) j a) (get_or (b ∷ ys) j b) all (zip_get R (a ∷ xs) (b ∷ ys) j a b all other))
    (zip_get R (a ∷ xs) (b ∷ ys) i a b all one)

zip_long : {A B : Type 0} (R : A → B → Type 0) (xs : List A) (ys : List B) → AllZip R xs ys → length xs ≡ length ys
zip_long R [] [] all = refl
zip_long R [] (b ∷ ys) all = absurd all
zip_long R (a ∷ xs) [] all = absurd all
zip_long R (a ∷ xs) (b ∷ ys) all = ap suc (zip_long R xs ys all.1)

pub zip_moved_both : {A B : Type 0} (R : A → B → Type 0) (xs : List A) (ys zs : List B) → AllZip R xs ys → IsPermutation ys zs
    → (ws : List A) × (IsPermutation xs ws × AllZip R ws zs)
zip_moved_both {A} {B} R xs ys zs all moved =
    IsPermutation-keeps ys (λ (l : List B). (ws : List A) × (IsPermutation xs ws × AllZip R ws l)) (xs, (IsPermutation-refl xs, all)) step zs moved
  where
    step : (l : List B) (i j : ℕ) → i < length l → j < length l → (ws : List A) × (IsPermutation xs ws × AllZip R ws l)
        → (ws : List A) × (IsPermutation xs ws × AllZip R ws (swap l i j))
    step l i j one other so_far =
        let long : length so_far.0 ≡ length l = zip_long R so_far.0 l so_far.1.1 in (
          swap so_far.0 i j,
          (
            IsPermutation-trans xs so_far.0 (swap so_far.0 i j) so_far.1.0
                (IsPermutation-swap so_far.0 (swap so_far.0 i j) i j (omega (arith, long, one)) (omega (arith, long, other)) refl),
            zip_swap R so_far.0 l i j so_far.1.1 one other,
          ),
        )

-- lines whose first turns rise
abbrev pub Rises : ℕ → List AnsweredLine → Type 0
Rises n [] = Unit {0}
Rises n (one ∷ more) = (n ≤ one.first.0) × Rises (one.first.0 + 1) more

rises_lower : (n m : ℕ) (lines : List AnsweredLine) → n ≤ m → Rises m lines → Rises n lines
rises_lower n m [] lower rises = tt
rises_lower n m (one ∷ more) lower rises = (omega (arith, lower, rises.0), rises.1)

pub rises_filter : (p : AnsweredLine → Bool) (n : ℕ) (lines : List AnsweredLine) → Rises n lines → Rises n (filter p lines)
rises_filter p n [] rises = tt
rises_filter p n (one ∷ more) rises = by (p one) refl (rises_filter p (one.first.0 + 1) more rises.1)
  where
    by : (b : Bool) → p one ≡ b → Rises (one.first.0 + 1) (filter p more) → Rises n (filter p (one ∷ more))
    by true here later = rw here (rises.0, later)
    by false here later = rw here (rises_lower n (one.first.0 + 1) (filter p more) (omega (arith, rises.0)) later)

rises_above : (n : ℕ) (one : AnsweredLine) (lines : List AnsweredLine) → Rises n lines → In one lines → n ≤ one.first.0
rises_above n one [] rises is = absurd is
rises_above n one (x ∷ xs) rises (inl same) = subst (λ (l : AnsweredLine). n ≤ l.first.0) same rises.0
rises_above n one (x ∷ xs) rises (inr later) = omega (arith, rises.0, rises_above (x.first.0 + 1) one xs rises.1 later)

-- lists that rise, and have the same elements, are the same
pub rises_same : (n m : ℕ) (xs ys : List AnsweredLine) → Rises n xs → Rises m ys → ((z : AnsweredLine) → In z xs → In z ys)
    → ((z : AnsweredLine) → In z ys → In z xs) → xs ≡ ys
rises_same n m [] [] up upper there back = refl
rises_same n m [] (y ∷ ys) up upper there back = absurd (back y (inl refl))
rises_same n m (x ∷ xs) [] up upper there back = absurd (there x (inl refl))
rises_same n m (x ∷ xs) (y ∷ ys) up upper there back =
    let same : x ≡ y = heads (there x (inl refl)) (back y (inl refl)) in
    same_lists same (rises_same (x.first.0 + 1) (y.first.0 + 1) xs ys up.1 upper.1 (λ z is. forth same z is (there z (inr is))) (λ z is. return same z is (back z (inr is))))
  where
    heads : In x (y ∷ ys) → In y (x ∷ xs) → x ≡ y
    heads (inl same) other = sym same
    heads (inr later) (inl same) = same
    heads (inr later) (inr behind) =
        absurd (let one = rises_above (y.first.0 + 1) x ys upper.1 later in
        let other = rises_above (x.first.0 + 1) y xs up.1 behind in omega arith)

    same_lists : x ≡ y → xs ≡ ys → x ∷ xs ≡ y ∷ ys
    same_lists one rest = λ i. one i ∷ rest i

    forth : x ≡ y → (z : AnsweredLine) → In z xs → In z (y ∷ ys) → In z ys
    forth same z is (inr later) = later
    forth same z is (inl first) =
        absurd (let above = rises_above (x.first.0 + 1) z xs up.1 is in
        let place : x.first.0 ≡ z.first.0 = ap (λ (l : AnsweredLine). l.first.0) (same ∙ first) in omega arith)

    return : x ≡ y → (z : AnsweredLine) → In z ys → In z (x ∷ xs) → In z xs
    return same z is (inr later) = later
    return same z is (inl first) =
        absurd (let above = rises_above (y.first.0 + 1) z ys upper.1 is in
        let place : y.first.0 ≡ z.first.0 = ap (λ (l : AnsweredLine). l.first.0) (sym same ∙ first) in omega arith)

-- turns whose places rise
abbrev pub RisesThrough : ℕ → List Placed → Type 0
RisesThrough n [] = Unit {0}
RisesThrough n (turn ∷ turns) = (n ≤ turn.0) × RisesThrough (turn.0 + 1) turns

through_lower : (n m : ℕ) (turns : List Placed) → n ≤ m → RisesThrough m turns → RisesThrough n turns
through_lower n m [] lower rises = tt
through_lower n m (turn ∷ turns) lower rises = (omega (arith, lower, rises.0), rises.1)

pub through_turns : (n : ℕ) (history : List Entry) (caller : ℕ) → RisesThrough n (turns_from n history caller)
through_turns n [] caller = tt
through_turns n (entry ∷ history) caller = by (entry.caller == caller) refl (through_turns (n + 1) history caller)
  where
    by : (b : Bool) → (entry.caller == caller) ≡ b → RisesThrough (n + 1) (turns_from (n + 1) history caller)
        → RisesThrough n (turns_from n (entry ∷ history) caller)
    by true own later = rw own (omega arith, later)
    by false other later = rw other (through_lower n (n + 1) (turns_from (n + 1) history caller) (omega arith) later)

pub through_later : (n : ℕ) (front back : List Placed) → RisesThrough n (front ++ back) → RisesThrough n back
through_later n [] back rises = rises
through_later n (turn ∷ front) back rises =
    through_lower n (turn.0 + 1) back (omega (arith, rises.0)) (through_later (turn.0 + 1) front back rises.1)

pub rises_turns : (n : ℕ) (lines : List AnsweredLine) → RisesThrough n (flat_map turns_in lines) → Rises n lines
rises_turns n [] rises = tt
rises_turns n (one ∷ more) rises =
    (rises.0, rises_turns (one.first.0 + 1) more (through_later (one.first.0 + 1) one.rest (flat_map turns_in more) rises.1))

-- a lane's lines rise, since their turns are its caller's
pub rises_of : (history : List Entry) (caller : ℕ) (lines : List AnsweredLine) → flat_map turns_in lines ≡ turns_of history caller → Rises 0 lines
rises_of history caller lines turns = rises_turns 0 lines (subst (RisesThrough 0) (sym turns) (through_turns 0 history caller))

rises_head : (n : ℕ) (one : AnsweredLine) (more : List AnsweredLine) → n ≤ one.first.0
    → AreRising (map (λ (l : AnsweredLine). l.first.0) (one ∷ more)) → Rises n (one ∷ more)
rises_head n one [] above rising = (above, tt)
rises_head n one (next ∷ more) above rising = (above, rises_head (one.first.0 + 1) next more (omega (arith, rising.0)) rising.1)

pub rises_rising : (lines : List AnsweredLine) → AreRising (map (λ (one : AnsweredLine). one.first.0) lines) → Rises 0 lines
rises_rising [] rising = tt
rises_rising (one ∷ more) rising = rises_head 0 one more (omega arith) rising

-- places that don't fall, and differ, rise
pub rising_sorted : (lines : List TranscriptLine) → AreInOrder lines
    → IsDistinct nat_eq (map (λ (told : TranscriptLine). told.turn) lines) → AreRising (map (λ (told : TranscriptLine). told.turn) lines)
unfolding IsDistinct
rising_sorted [] sorted apart = tt
rising_sorted (told ∷ []) sorted apart = tt
rising_sorted (told ∷ next ∷ more) sorted apart = (below sorted.0 apart.0.0, rising_sorted (next ∷ more) sorted.1 apart.1)
  where
    below : told.turn ≤ next.turn → nat_eq told.turn next.turn ≡ false → told.turn < next.turn
    below least differs = by (told.turn == next.turn) refl
      where
        apart_is : told.turn ≡ next.turn → ⊥
        apart_is same = false≢true (sym differs ∙ eq-eqb told.turn next.turn same)

        by : (b : Bool) → (told.turn == next.turn) ≡ b → told.turn < next.turn
        by b is = omega (arith, least, apart_is)

-- numbers that differ, none of which is in both lists
pub distinct_append : (xs ys : List ℕ) → IsDistinct nat_eq xs → IsDistinct nat_eq ys
    → AllByRecursion (λ x. AllByRecursion (λ y. nat_eq x y ≡ false) ys) xs → IsDistinct nat_eq (xs ++ ys)
unfolding IsDistinct
distinct_append [] ys front back between = back
distinct_append (x ∷ xs) ys front back between =
    (together xs front.0, distinct_append xs ys front.1 back between.1)
  where
    together : (zs : List ℕ) → AllByRecursion (λ y. nat_eq x y ≡ false) zs → AllByRecursion (λ y. nat_eq x y ≡ false) (zs ++ ys)
    together [] none = between.0
    together (z ∷ zs) some = (some.0, together zs some.1)

pub differ : (x y : ℕ) → (x ≡ y → ⊥) → nat_eq x y ≡ false
differ x y apart = by (nat_eq x y) refl
  where
    by : (b : Bool) → nat_eq x y ≡ b → nat_eq x y ≡ false
    by true is = absurd (apart (eqb-true x y is))
    by false is = is

pub distinct_rises : (n : ℕ) (lines : List AnsweredLine) → Rises n lines → IsDistinct nat_eq (map (λ (one : AnsweredLine). one.first.0) lines)
unfolding IsDistinct
distinct_rises n [] rises = tt
distinct_rises n (one ∷ more) rises = (apart more (one.first.0 + 1) rises.1 (omega arith), distinct_rises (one.first.0 + 1) more rises.1)
  where
    apart : (lines : List AnsweredLine) (m : ℕ) → Rises m lines → one.first.0 < m
        → AllByRecursion (λ y. nat_eq one.first.0 y ≡ false) (map (λ (l : AnsweredLine). l.first.0) lines)
    apart [] m up below = tt
    apart (next ∷ later) m up below =
        (differ one.first.0 next.first.0 (λ same. omega (arith, same, up.0, below)), apart later (next.first.0 + 1) up.1 (omega (arith, up.0, below)))

-- what a history has at a place
abbrev pub IsAt : List Entry → ℕ → ℕ → Type 0
IsAt history caller place = (entry : Entry) × ((slice_get history place ≡ Some entry) × (entry.caller ≡ caller))

eq_caller : (entry : Entry) (caller : ℕ) → (entry.caller == caller) ≡ true → entry.caller ≡ caller
eq_caller entry caller is = eqb-true entry.caller caller is

-- each turn of a caller stands at its place
turns_at : (front history : List Entry) (caller : ℕ) → AllByRecursion (λ (turn : Placed). IsAt (front ++ history) caller turn.0) (turns_from (length front) history caller)
turns_at front [] caller = tt
turns_at front (entry ∷ history) caller =
    by (entry.caller == caller) refl
    (subst (λ n. AllByRecursion (λ (turn : Placed). IsAt (front ++ entry ∷ history) caller turn.0) (turns_from n history caller)) long
    (subst (λ (h : List Entry). AllByRecursion (λ (turn : Placed). IsAt h caller turn.0) (turns_from (length (front ++ entry ∷ [])) history caller)) whole
    (turns_at (front ++ entry ∷ []) history caller)))
  where
    long : length (front ++ entry ∷ []) ≡ length front + 1
    long = length-append front (entry ∷ [])

    whole : (front ++ entry ∷ []) ++ history ≡ front ++ entry ∷ history
    whole = append_assoc front (entry ∷ []) history

    here : (xs : List Entry) → slice_get (xs ++ entry ∷ history) (length xs) ≡ Some entry
    here [] = refl
    here (x ∷ xs) = here xs

    by : (b : Bool) → (entry.caller == caller) ≡ b
        → AllByRecursion (λ (turn : Placed). IsAt (front ++ entry ∷ history) caller turn.0) (turns_from (length front + 1) history caller)
        → AllByRecursion (λ (turn : Placed). IsAt (front ++ entry ∷ history) caller turn.0) (turns_from (length front) (entry ∷ history) caller)
    by true own later = rw own ((entry, (here front, eq_caller entry caller own)), later)
    by false other later = rw other later

firsts_at : (history : List Entry) (caller : ℕ) (lines : List AnsweredLine)
    → AllByRecursion (λ (turn : Placed). IsAt history caller turn.0) (flat_map turns_in lines)
    → AllByRecursion (λ (one : AnsweredLine). IsAt history caller one.first.0) lines
firsts_at history caller [] all = tt
firsts_at history caller (one ∷ more) all =
    (all.0, firsts_at history caller more (all_later (λ (turn : Placed). IsAt history caller turn.0) one.rest (flat_map turns_in more) all.1))

-- a lane's lines stand at turns of its caller
pub lines_at : (history : List Entry) (caller : ℕ) (lines : List AnsweredLine) → flat_map turns_in lines ≡ turns_of history caller
    → AllByRecursion (λ (one : AnsweredLine). IsAt history caller one.first.0) lines
lines_at history caller lines turns =
    firsts_at history caller lines (subst (AllByRecursion (λ (turn : Placed). IsAt history caller turn.0)) (sym turns) (turns_at [] history caller))

pub at_one_caller : (history : List Entry) (one other place : ℕ) → IsAt history one place → IsAt history other place → one ≡ other
at_one_caller history one other place first second =
    let same : first.0 ≡ second.0 = same_entry (sym first.1.0 ∙ second.1.0) in
    sym first.1.1 ∙ ap (λ (entry : Entry). entry.caller) same ∙ second.1.1
  where
    same_entry : Some first.0 ≡ Some second.0 → first.0 ≡ second.0
    same_entry e = cc

-- lines that are answered one by one
pub lines_answered : (dry : List ℕ) (answered : List AnsweredLine)
    → AllByRecursion (λ (one : AnsweredLine). AnswersLine dry one.line (turns_in one)) answered
    → AnswersLines dry (map (λ (one : AnsweredLine). one.line) answered) (flat_map turns_in answered)
lines_answered dry [] all = refl
lines_answered dry (one ∷ more) all = (turns_in one, (flat_map turns_in more, refl, all.0, lines_answered dry more all.1))

-- a pin out of memory is the turn of a line that lacked memory
pub dry_from : (x : ℕ) (lines : List TranscriptLine) → Contains (dry_of lines) x
    → (told : TranscriptLine) × (In told lines × (lacked_memory told.outcome ≡ true) × (told.turn ≡ x))
dry_from x lines is = by (filter lacks lines) (contains_in x (dry_of lines) is) (λ told. from_filter lacks told lines)
  where
    lacks : TranscriptLine → Bool
    lacks told = lacked_memory told.outcome

    by : (some : List TranscriptLine) → In x (map (λ (told : TranscriptLine). told.turn) some)
        → ((told : TranscriptLine) → In told some → In told lines × (lacks told ≡ true))
        → (told : TranscriptLine) × (In told lines × (lacked_memory told.outcome ≡ true) × (told.turn ≡ x))
    by [] none each = absurd none
    by (told ∷ more) (inl same) each = let found = each told (inl refl) in (told, (found.0, found.1, same))
    by (told ∷ more) (inr later) each = by more later (λ other at. each other (inr at))

pub dry_to : (told : TranscriptLine) (lines : List TranscriptLine) → In told lines → lacked_memory told.outcome ≡ true → Contains (dry_of lines) told.turn
dry_to told lines is lacks = in_contains told.turn (dry_of lines) (by (filter test lines) (in_filter test told lines is lacks))
  where
    test : TranscriptLine → Bool
    test other = lacked_memory other.outcome

    by : (some : List TranscriptLine) → In told some → In told.turn (map (λ (other : TranscriptLine). other.turn) some)
    by [] none = absurd none
    by (other ∷ more) (inl same) = inl (ap (λ (l : TranscriptLine). l.turn) same)
    by (other ∷ more) (inr later) = inr (by more later)

-- lines whose turns differ are the same if their turns are
one_of_turn : (lines : List TranscriptLine) (one other : TranscriptLine) → IsDistinct nat_eq (map (λ (told : TranscriptLine). told.turn) lines)
    → In one lines → In other lines → one.turn ≡ other.turn → one ≡ other
unfolding IsDistinct
one_of_turn [] one other apart here there same = absurd here
one_of_turn (told ∷ lines) one other apart (inl first) (inl second) same = sym first ∙ second
one_of_turn (told ∷ lines) one other apart (inl first) (inr second) same =
    absurd (not_later lines apart.0 other second (ap (λ (l : TranscriptLine). l.turn) first ∙ same))
  where
    not_later : (more : List TranscriptLine) → AllByRecursion (λ y. nat_eq told.turn y ≡ false) (map (λ (l : TranscriptLine). l.turn) more)
        → (z : TranscriptLine) → In z more → told.turn ≡ z.turn → ⊥
    not_later [] none z at equal = absurd at
    not_later (x ∷ more) some z (inl at) equal = false≢true (sym some.0 ∙ eq-eqb told.turn x.turn (equal ∙ ap (λ (l : TranscriptLine). l.turn) (sym at)))
    not_later (x ∷ more) some z (inr at) equal = not_later more some.1 z at equal
one_of_turn (told ∷ lines) one other apart (inr first) (inl second) same =
    absurd (not_later lines apart.0 one first (ap (λ (l : TranscriptLine). l.turn) second ∙ sym same))
  where
    not_later : (more : List TranscriptLine) → AllByRecursion (λ y. nat_eq told.turn y ≡ false) (map (λ (l : TranscriptLine). l.turn) more)
        → (z : TranscriptLine) → In z more → told.turn ≡ z.turn → ⊥
    not_later [] none z at equal = absurd at
    not_later (x ∷ more) some z (inl at) equal = false≢true (sym some.0 ∙ eq-eqb told.turn x.turn (equal ∙ ap (λ (l : TranscriptLine). l.turn) (sym at)))
    not_later (x ∷ more) some z (inr at) equal = not_later more some.1 z at equal
one_of_turn (told ∷ lines) one other apart (inr first) (inr second) same = one_of_turn lines one other apart.1 first second same

-- the pins out of memory are those of the lines that lacked memory, and of no other
pub are_dry : (lines : List TranscriptLine) → IsDistinct nat_eq (map (λ (told : TranscriptLine). told.turn) lines) → AreDry (dry_of lines) lines
are_dry lines apart = in_all (λ (told : TranscriptLine). Contains (dry_of lines) told.turn ↔ (lacked_memory told.outcome ≡ true)) lines
    (λ told at. (
      (λ dry. let found = dry_from told.turn lines dry in
          ap (λ (l : TranscriptLine). lacked_memory l.outcome) (sym (one_of_turn lines found.0 told apart found.1.0 at found.1.2)) ∙ found.1.1),
      (λ lacks. dry_to told lines at lacks),
    ))
