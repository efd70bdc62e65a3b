-- The reads of a pin, put together
use Rattle.schedule_laws.proofs.Names.{◌≡◌, ℕ, suc, zero, ◌+◌, ◌*◌, ◌/◌, ◌≤◌, min, ◌⊎◌, inl, inr, List, [], ◌∷◌, ◌++◌, length, map, take, drop, slice_get, refl, sym, ap, ◌∙◌, subst, Some, arith, book, Opening, IsLegal, IsLegalAfter, IsDue, commands_after, live_pin, pin_of, policies_per_read, Answered, answered_at, pinned_due, read_due, live_parts, slice_get-front, take-commands_after, IsLegalAfter-front, PinsHold-legal}
use Rattle.std.specs.List.{AllByRecursion, flat_map, range_with_len, take-map}
use Rattle.std.proofs.lemmas.List.{take_all, drop-drop, length-map}
use Rattle.std.proofs.lemmas.List.FromFn.{length-range_with_len}
use Rattle.std.proofs.lemmas.Option.{slice_get_within}
use Rattle.policy_types.specs.declared.policy.Policy.{Policy}
use Rattle.policy_types.specs.declared.entry.Call.{Call}
use Rattle.policy_types.specs.declared.entry.Call.TheVariants.{Post, Pin, PinAt, Read, Unpin, Trim}
use Rattle.policy_types.specs.declared.entry.Entry.{Entry}
use Rattle.policy_machine.specs.Merge.{reads_of}
use Rattle.schedule_laws.specs.PinnedReads.{book_at, IsPinnedAt, StandsIn, policies_told}

-- the commands up to a position that was reached before a turn
answered_commands : (opening : Opening) (history : List Entry) (entry : Entry) (answered : Answered opening [] history entry) (position : ℕ)
    → position ≤ length (commands_after opening answered.front)
    → take position (commands_after opening history) ≡ take position (commands_after opening answered.front)
answered_commands opening history entry answered position reached =
    ap (λ turns. take position (commands_after opening turns)) answered.split
    ∙ take-commands_after opening answered.front (entry ∷ answered.back) position reached

-- the policies of a pin are those of the book at its position
pub held_number : (opening : Opening) (history : List Entry) (pin position policies : ℕ) → IsLegal opening history
    → IsPinnedAt history pin position policies → policies ≡ length (book_at opening history position)
held_number opening history pin position policies legal pinned =
    let answered = answered_at opening [] history pin pinned.0 legal.due pinned.1 in
    let due = pinned_due opening answered.0.front pinned.0.caller pinned.0.call position policies
    (subst (IsDue opening answered.0.front pinned.0.caller pinned.0.call) pinned.2 answered.0.due) in
    due.1 ∙ ap (λ commands. length (book commands)) (sym (answered_commands opening history pinned.0 answered.0 position due.0))

-- a pin that is live before a turn of the history is the one of its place
live_is_pinned : (history front back : List Entry) (entry : Entry) (pin position policies : ℕ) (held : ℕ × ℕ)
    → history ≡ front ++ entry ∷ back → IsPinnedAt history pin position policies → live_pin front pin ≡ Some held
    → held ≡ (position, policies)
live_is_pinned history front back entry pin position policies held split pinned live =
    let parts = live_parts front pin held live in
    let found : slice_get history pin ≡ Some parts.entry =
    ap (λ turns. slice_get turns pin) split
    ∙ slice_get-front front (entry ∷ back) pin (slice_get_within front pin parts.entry parts.found) ∙ parts.found in
    let same : Some parts.entry ≡ Some pinned.0 = sym found ∙ pinned.1 in
    let the_entry : parts.entry ≡ pinned.0 = grind arith in
    let pin_is : Some held ≡ Some (position, policies) =
    sym parts.pinned ∙ ap (λ e. pin_of e.reply) the_entry ∙ ap pin_of pinned.2 in
    grind arith

-- a read of the pin, wherever it stands
pub read_holds : (opening : Opening) (history : List Entry) (pin position policies first : ℕ) (read : Entry) → IsLegal opening history
    → IsPinnedAt history pin position policies → StandsIn history read → read.call ≡ Read pin first
    → policies_told read.reply ≡ take policies_per_read (drop first (book_at opening history position))
read_holds opening history pin position policies first read legal pinned stands call =
    let answered = (answered_at opening [] history stands.0 read legal.due stands.1).0 in
    let due = read_due opening answered.front read.caller pin first read.reply
    (subst (λ c. IsDue opening answered.front read.caller c read.reply) call answered.due) in
    let same : (due.position, due.policies) ≡ (position, policies) =
    live_is_pinned history answered.front answered.back read pin position policies (due.position, due.policies) answered.split pinned due.live in
    let live : live_pin answered.front pin ≡ Some (position, policies) = due.live ∙ ap Some same in
    let before : IsLegalAfter opening [] answered.front =
    IsLegalAfter-front opening [] answered.front (read ∷ answered.back) (subst (IsLegalAfter opening []) answered.split legal.due) in
    let reached = ((PinsHold-legal opening answered.front before).pins_in pin position policies live).1 in
    ap policies_told due.read
    ∙ ap (λ (held : ℕ × ℕ). take policies_per_read (drop first (book (take held.0 (commands_after opening answered.front))))) same
    ∙ ap (λ commands. take policies_per_read (drop first (book commands))) (sym (answered_commands opening history read answered position reached))

-- what a call reads of a book
abbrev read_of : List Policy → Call → List Policy
read_of policies (Read pin first) = take policies_per_read (drop first policies)
read_of policies (Post command) = []
read_of policies Pin = []
read_of policies (PinAt position) = []
read_of policies (Unpin pin) = []
read_of policies Trim = []

-- the calls are reads of the pin
abbrev AreReads : ℕ → List Call → Type 0
AreReads pin calls = AllByRecursion (λ call. (first : ℕ) × (call ≡ Read pin first)) calls

reads_hold : (opening : Opening) (history : List Entry) (pin position policies : ℕ) (reads : List Entry) → IsLegal opening history
    → IsPinnedAt history pin position policies → AllByRecursion (StandsIn history) reads → AreReads pin (map (λ read. read.call) reads)
    → flat_map (λ read. policies_told read.reply) reads ≡ flat_map (read_of (book_at opening history position)) (map (λ read. read.call) reads)
reads_hold opening history pin position policies [] legal pinned stand are_reads = refl
reads_hold opening history pin position policies (read ∷ reads) legal pinned stand are_reads =
    let call = are_reads.0.1 in
    let book_there = book_at opening history position in
    let here : policies_told read.reply ≡ read_of book_there read.call =
    read_holds opening history pin position policies are_reads.0.0 read legal pinned stand.0 call ∙ ap (read_of book_there) (sym call) in
    ap (λ policies_here. policies_here ++ flat_map (λ r. policies_told r.reply) reads) here
    ∙ ap (λ rest. read_of book_there read.call ++ rest) (reads_hold opening history pin position policies reads legal pinned stand.1 are_reads.1)

are_reads_map : (pin : ℕ) (places : List ℕ) → AreReads pin (map (λ k. Read pin (policies_per_read * k)) places)
are_reads_map pin [] = tt
are_reads_map pin (k ∷ places) = ((policies_per_read * k, refl), are_reads_map pin places)

take_nil : (X : Type 0) (n : ℕ) → take {A = X} n [] ≡ []
take_nil X n = take_all n [] (omega arith)

take_parts : {X : Type 0} (m n : ℕ) (xs : List X) → take m xs ++ take n (drop m xs) ≡ take (m + n) xs
take_parts zero n xs = let same : n ≡ zero + n = omega arith in ap (λ k. take k xs) same
take_parts {X} (suc m) n [] = take_nil X n ∙ sym (take_nil X (suc m + n))
take_parts (suc m) n (x ∷ xs) =
    let more : suc (m + n) ≡ suc m + n = omega arith in
    ap (λ rest. x ∷ rest) (take_parts m n xs) ∙ ap (λ k. take k (x ∷ xs)) more

take_range : (k from len : ℕ) → take k (range_with_len from len) ≡ range_with_len from (min k len)
take_range zero from len = let none : zero ≡ min zero len = omega arith in ap (range_with_len from) none
take_range (suc k) from zero = let none : zero ≡ min (suc k) zero = omega arith in ap (range_with_len from) none
take_range (suc k) from (suc len) =
    let more : suc (min k len) ≡ min (suc k) (suc len) = omega arith in
    ap (λ rest. from ∷ rest) (take_range k (from + 1) len) ∙ ap (range_with_len from) more

-- batch after batch from one on
batches : (pin from len : ℕ) (policies : List Policy)
    → flat_map (read_of policies) (map (λ k. Read pin (policies_per_read * k)) (range_with_len from len))
    ≡ take (policies_per_read * len) (drop (policies_per_read * from) policies)
batches pin from zero policies = refl
batches pin from (suc len) policies =
    let here = drop (policies_per_read * from) policies in
    let next : policies_per_read * (from + 1) ≡ policies_per_read * from + policies_per_read = omega arith in
    let further : drop (policies_per_read * (from + 1)) policies ≡ drop policies_per_read here =
    ap (λ n. drop n policies) next ∙ sym (drop-drop policies_per_read (policies_per_read * from) policies) in
    let more : policies_per_read + policies_per_read * len ≡ policies_per_read * suc len = omega arith in
    ap (λ rest. take policies_per_read here ++ rest)
    (batches pin (from + 1) len policies ∙ ap (take (policies_per_read * len)) further)
    ∙ take_parts policies_per_read (policies_per_read * len) here
    ∙ ap (λ n. take n here) more

-- if the batches end at the last policy, a number of them is cut off nowhere
take_enough : (k policies : ℕ) (xs : List Policy) → policies ≡ length xs
    → take (policies_per_read * min k ((policies + 255) / policies_per_read)) xs ≡ take (policies_per_read * k) xs
take_enough k policies xs number = by_order (grind arith)
  where
    enough : length xs ≤ policies_per_read * ((policies + 255) / policies_per_read)
    enough = omega arith

    by_order : (k ≤ (policies + 255) / policies_per_read) ⊎ ((policies + 255) / policies_per_read ≤ k)
        → take (policies_per_read * min k ((policies + 255) / policies_per_read)) xs ≡ take (policies_per_read * k) xs
    by_order (inl few) =
        let least : min k ((policies + 255) / policies_per_read) ≡ k = omega arith in
        ap (λ n. take (policies_per_read * n) xs) least
    by_order (inr many) =
        let least : min k ((policies + 255) / policies_per_read) ≡ (policies + 255) / policies_per_read = omega arith in
        ap (λ n. take (policies_per_read * n) xs) least
        ∙ take_all (policies_per_read * ((policies + 255) / policies_per_read)) xs enough
        ∙ sym (take_all (policies_per_read * k) xs (omega arith))

pub pinned_reads : (opening : Opening) (history : List Entry) (pin position policies k : ℕ) (reads : List Entry)
    → IsLegal opening history → IsPinnedAt history pin position policies → AllByRecursion (StandsIn history) reads
    → map (λ read. read.call) reads ≡ take k (reads_of pin policies)
    → flat_map (λ read. policies_told read.reply) reads ≡ take (policies_per_read * k) (book_at opening history position)
pinned_reads opening history pin position policies k reads legal pinned stand calls =
    let count = (policies + 255) / policies_per_read in
    let book_there = book_at opening history position in
    let call = λ (j : ℕ). Read pin (policies_per_read * j) in
    let the_calls : map (λ read. read.call) reads ≡ map call (range_with_len 0 (min k count)) =
    calls ∙ take-map call k (range_with_len 0 count) ∙ ap (map call) (take_range k 0 count) in
    reads_hold opening history pin position policies reads legal pinned stand
    (subst (AreReads pin) (sym the_calls) (are_reads_map pin (range_with_len 0 (min k count))))
    ∙ ap (flat_map (read_of book_there)) the_calls
    ∙ batches pin 0 (min k count) book_there
    ∙ take_enough k policies book_there (held_number opening history pin position policies legal pinned)

pub whole_pinned_reads : (opening : Opening) (history : List Entry) (pin position policies : ℕ) (reads : List Entry)
    → IsLegal opening history → IsPinnedAt history pin position policies → AllByRecursion (StandsIn history) reads
    → map (λ read. read.call) reads ≡ reads_of pin policies
    → flat_map (λ read. policies_told read.reply) reads ≡ book_at opening history position
whole_pinned_reads opening history pin position policies reads legal pinned stand calls =
    let count = (policies + 255) / policies_per_read in
    let book_there = book_at opening history position in
    let number = held_number opening history pin position policies legal pinned in
    let all : take count (reads_of pin policies) ≡ reads_of pin policies =
    take_all count (reads_of pin policies) (grind (arith, length-map, length-range_with_len)) in
    pinned_reads opening history pin position policies count reads legal pinned stand (calls ∙ sym all)
    ∙ take_all (policies_per_read * count) book_there (omega arith)
