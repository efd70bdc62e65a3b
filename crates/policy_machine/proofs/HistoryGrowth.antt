-- What one more turn does to the pins and the floor of a history, and what a turn of a legal history was answered
use Rattle.policy_machine.proofs.Names.{◌≡◌, ℕ, suc, zero, ◌+◌, ◌<◌, ◌≤◌, Bool, true, false, ◌||◌, ◌⊎◌, inl, inr, List, [], ◌∷◌, ◌++◌, length, take, drop, slice_get, refl, sym, ap, ◌∙◌, subst, append_assoc, append-nil, None, Some, Option, filter_map, arith, list_any, last_or, cons_option, range_with_len, filter_map-append, Post, Pin, PinAt, Read, Unpin, Trim, Accepted, Refused, Faulted, Pinned, PinRefused, Policies, Unpinned, Floor, Blank, book, Opening, IsDue, IsLegalAfter, accepted_by, accepted_of, commands_after, pin_of, gives_up, live_pin, live_positions, pinned_position, floor_set, floor_of, least_or, policies_per_read}
use Rattle.std.specs.Option.{unwrap_or}
use Rattle.std.proofs.lemmas.Option.{slice_get_within}
use Rattle.std.proofs.lemmas.List.{take-append-le, drop-append-le, take_all, length-append}
use Rattle.std.proofs.lemmas.List.Folds.{list_any-append}
use Rattle.policy_types.specs.declared.entry.Call.{Call}
use Rattle.policy_types.specs.declared.entry.Reply.{Reply}
use Rattle.policy_types.specs.declared.entry.Entry.{Entry}
use Rattle.policy_machine.proofs.LeastLemmas.{least_bounded, least_member, member_of_range}

-- a prefix of legal turns
pub IsLegalAfter-front : (opening : Opening) (before front rest : List Entry) → IsLegalAfter opening before (front ++ rest)
    → IsLegalAfter opening before front
IsLegalAfter-front opening before [] rest legal = tt
IsLegalAfter-front opening before (entry ∷ front) rest legal =
    (legal.0, IsLegalAfter-front opening (before ++ entry ∷ []) front rest legal.1)

-- the turn at a place was answered what was due after the turns before it
pub record Answered (opening : Opening) (before turns : List Entry) (entry : Entry) : Type 0 where
  pub front : List Entry
  pub back : List Entry
  pub split : turns ≡ front ++ entry ∷ back
  pub due : IsDue opening (before ++ front) entry.caller entry.call entry.reply

pub answered_at : (opening : Opening) (before turns : List Entry) (place : ℕ) (entry : Entry) → IsLegalAfter opening before turns
    → slice_get turns place ≡ Some entry → (answered : Answered opening before turns entry) × (length answered.front ≡ place)
answered_at opening before [] place entry legal found = grind arith
answered_at opening before (first ∷ turns) zero entry legal found =
    let same : first ≡ entry = grind arith in (
      record {
        front = [];
        back = turns;
        split = ap (λ e. e ∷ turns) same;
        due = subst (λ e. IsDue opening (before ++ []) e.caller e.call e.reply) same
            (subst (λ turns. IsDue opening turns first.caller first.call first.reply) (sym (append-nil before)) legal.0);
      },
      refl,
    )
answered_at opening before (first ∷ turns) (suc place) entry legal found =
    let rest = answered_at opening (before ++ first ∷ []) turns place entry legal.1 found in (
      record {
        front = first ∷ rest.0.front;
        back = rest.0.back;
        split = ap (λ more. first ∷ more) rest.0.split;
        due = subst (λ turns. IsDue opening turns entry.caller entry.call entry.reply) (append_assoc before (first ∷ []) rest.0.front) rest.0.due;
      },
      ap (λ n. suc n) rest.1,
    )

-- the commands after one more turn
pub commands_after-push : (opening : Opening) (before : List Entry) (entry : Entry)
    → commands_after opening (before ++ entry ∷ []) ≡ commands_after opening before ++ cons_option (accepted_by entry.call entry.reply) []
commands_after-push opening before entry =
    ap (λ more. opening.commands ++ more) (filter_map-append (λ e. accepted_by e.call e.reply) before (entry ∷ []))
    ∙ sym (append_assoc opening.commands (accepted_of before) (cons_option (accepted_by entry.call entry.reply) []))

-- and after several
pub commands_after-append : (opening : Opening) (before rest : List Entry)
    → commands_after opening (before ++ rest) ≡ commands_after opening before ++ accepted_of rest
commands_after-append opening before rest =
    ap (λ more. opening.commands ++ more) (filter_map-append (λ e. accepted_by e.call e.reply) before rest)
    ∙ sym (append_assoc opening.commands (accepted_of before) (accepted_of rest))

-- a position that was reached keeps its commands
pub take-commands_after : (opening : Opening) (before rest : List Entry) (position : ℕ) → position ≤ length (commands_after opening before)
    → take position (commands_after opening (before ++ rest)) ≡ take position (commands_after opening before)
take-commands_after opening before rest position reached =
    ap (take position) (commands_after-append opening before rest)
    ∙ take-append-le position (commands_after opening before) (accepted_of rest) reached

-- what a pin is answered
pub pinned_due : (opening : Opening) (before : List Entry) (caller : ℕ) (call : Call) (position policies : ℕ)
    → IsDue opening before caller call (Pinned position policies)
    → (position ≤ length (commands_after opening before)) × (policies ≡ length (book (take position (commands_after opening before))))
pinned_due opening before caller (Post command) position policies due = absurd due
pinned_due opening before caller Pin position policies due =
    (grind arith, due.2 ∙ ap (λ commands. length (book commands)) (sym (take_all position (commands_after opening before) (grind arith))))
pinned_due opening before caller (PinAt p) position policies due =
    (grind arith, due.4 ∙ ap (λ n. length (book (take n (commands_after opening before)))) (sym due.3))
pinned_due opening before caller (Read pin first) position policies due = absurd due
pinned_due opening before caller (Unpin pin) position policies due = absurd due
pinned_due opening before caller Trim position policies due = absurd due

-- what a read is answered
pub record ReadDue (opening : Opening) (before : List Entry) (pin first : ℕ) (reply : Reply) : Type 0 where
  pub position : ℕ
  pub policies : ℕ
  pub live : live_pin before pin ≡ Some (position, policies)
  pub read : reply ≡ Policies (take policies_per_read (drop first (book (take position (commands_after opening before)))))

pub read_due : (opening : Opening) (before : List Entry) (caller pin first : ℕ) (reply : Reply)
    → IsDue opening before caller (Read pin first) reply → ReadDue opening before pin first reply
read_due opening before caller pin first (Policies policies) due =
    record { position = due.0.0; policies = due.0.1; live = due.1; read = ap Policies due.4 }
read_due opening before caller pin first (Accepted n) due = absurd due
read_due opening before caller pin first (Refused refusal) due = absurd due
read_due opening before caller pin first (Faulted n) due = absurd due
read_due opening before caller pin first (Pinned p n) due = absurd due
read_due opening before caller pin first (PinRefused refusal) due = absurd due
read_due opening before caller pin first Unpinned due = absurd due
read_due opening before caller pin first (Floor n) due = absurd due
read_due opening before caller pin first Blank due = absurd due

-- lookups in a list that goes on
pub slice_get-front : {X : Type 0} (front back : List X) (i : ℕ) → i < length front → slice_get (front ++ back) i ≡ slice_get front i
slice_get-front [] back i within = grind arith
slice_get-front (x ∷ front) back zero within = refl
slice_get-front (x ∷ front) back (suc i) within = slice_get-front front back i (grind arith)

pub slice_get-middle : {X : Type 0} (front back : List X) (x : X) → slice_get (front ++ x ∷ back) (length front) ≡ Some x
slice_get-middle [] back x = refl
slice_get-middle (y ∷ front) back x = slice_get-middle front back x

-- what a live pin is: its turn pinned, and no later turn gave it up
pub record LiveParts (before : List Entry) (pin : ℕ) (held : ℕ × ℕ) : Type 0 where
  pub kept : list_any (λ later. gives_up pin later.call) (drop (pin + 1) before) ≡ false
  pub entry : Entry
  pub found : slice_get before pin ≡ Some entry
  pub pinned : pin_of entry.reply ≡ Some held

live_given_up : (before : List Entry) (pin : ℕ) → list_any (λ later. gives_up pin later.call) (drop (pin + 1) before) ≡ true
    → live_pin before pin ≡ None
live_given_up before pin given_up = rw given_up refl

live_of_none : (before : List Entry) (pin : ℕ) → list_any (λ later. gives_up pin later.call) (drop (pin + 1) before) ≡ false
    → slice_get before pin ≡ None → live_pin before pin ≡ None
live_of_none before pin kept none = rw kept (rw none refl)

pub live_of_some : (before : List Entry) (pin : ℕ) (entry : Entry)
    → list_any (λ later. gives_up pin later.call) (drop (pin + 1) before) ≡ false
    → slice_get before pin ≡ Some entry → live_pin before pin ≡ pin_of entry.reply
live_of_some before pin entry kept found = rw kept (rw found refl)

pub live_parts : (before : List Entry) (pin : ℕ) (held : ℕ × ℕ) → live_pin before pin ≡ Some held → LiveParts before pin held
live_parts before pin held live = by_kept (list_any (λ later. gives_up pin later.call) (drop (pin + 1) before)) refl
  where
    by_found : list_any (λ later. gives_up pin later.call) (drop (pin + 1) before) ≡ false → (o : Option Entry)
        → slice_get before pin ≡ o → LiveParts before pin held
    by_found kept None none = absurd (no_pin (sym (live_of_none before pin kept none) ∙ live))
      where
        no_pin : None ≡ Some held → ⊥
        no_pin e = grind arith
    by_found kept (Some entry) found =
        record { kept = kept; entry = entry; found = found; pinned = sym (live_of_some before pin entry kept found) ∙ live }

    by_kept : (b : Bool) → list_any (λ later. gives_up pin later.call) (drop (pin + 1) before) ≡ b → LiveParts before pin held
    by_kept true given_up = absurd (no_pin (sym (live_given_up before pin given_up) ∙ live))
      where
        no_pin : None ≡ Some held → ⊥
        no_pin e = grind arith
    by_kept false kept = by_found kept (slice_get before pin) refl

-- a pin that is live after one more turn was live before it, or that turn took it
pub live_pin-push : (before : List Entry) (entry : Entry) (pin : ℕ) (held : ℕ × ℕ)
    → live_pin (before ++ entry ∷ []) pin ≡ Some held
    → (live_pin before pin ≡ Some held) ⊎ ((pin ≡ length before) × (pin_of entry.reply ≡ Some held))
live_pin-push before entry pin held live = by_place (grind arith)
  where
    parts : LiveParts (before ++ entry ∷ []) pin held
    parts = live_parts (before ++ entry ∷ []) pin held live

    by_place : (pin < length before) ⊎ (length before ≤ pin)
        → (live_pin before pin ≡ Some held) ⊎ ((pin ≡ length before) × (pin_of entry.reply ≡ Some held))
    by_place (inl earlier) =
        let rest : drop (pin + 1) (before ++ entry ∷ []) ≡ drop (pin + 1) before ++ entry ∷ [] =
        drop-append-le (pin + 1) before (entry ∷ []) (grind arith) in
        let kept : (list_any (λ later. gives_up pin later.call) (drop (pin + 1) before) || list_any (λ later. gives_up pin later.call) (entry ∷ [])) ≡ false =
        sym (list_any-append (λ later. gives_up pin later.call) (drop (pin + 1) before) (entry ∷ []))
        ∙ ap (list_any (λ later. gives_up pin later.call)) (sym rest) ∙ parts.kept in
        inl (live_of_some before pin parts.entry (first_false _ _ kept) (sym (slice_get-front before (entry ∷ []) pin earlier) ∙ parts.found)
        ∙ parts.pinned)
      where
        first_false : (a b : Bool) → (a || b) ≡ false → a ≡ false
        first_false true b e = e
        first_false false b e = refl
    by_place (inr later) =
        let within : pin < length (before ++ entry ∷ []) = slice_get_within (before ++ entry ∷ []) pin parts.entry parts.found in
        let here : pin ≡ length before = grind (arith, length-append) in
        let same : Some parts.entry ≡ Some entry =
        sym parts.found ∙ ap (slice_get (before ++ entry ∷ [])) here ∙ slice_get-middle before [] entry in
        let the_entry : parts.entry ≡ entry = grind arith in
        inr (here, ap (λ e. pin_of e.reply) (sym the_entry) ∙ parts.pinned)

last_of_push : (o : Option ℕ) (ns : List ℕ) (n : ℕ) → last_or o (ns ++ n ∷ []) ≡ Some n
last_of_push o [] n = refl
last_of_push o (m ∷ ns) n = last_of_push (Some m) ns n

floors-push : (before : List Entry) (entry : Entry)
    → floor_of (before ++ entry ∷ []) ≡ unwrap_or (last_or None (filter_map (λ e. floor_set e.reply) before ++ cons_option (floor_set entry.reply) [])) 0
floors-push before entry =
    ap (λ floors. unwrap_or (last_or None floors) 0) (filter_map-append (λ e. floor_set e.reply) before (entry ∷ []))

-- the floor stays, or is the one that the turn set
pub floor_of-kept : (before : List Entry) (entry : Entry) → floor_set entry.reply ≡ None → floor_of (before ++ entry ∷ []) ≡ floor_of before
floor_of-kept before entry none =
    floors-push before entry
    ∙ ap (λ o. unwrap_or (last_or None (filter_map (λ e. floor_set e.reply) before ++ cons_option o [])) 0) none
    ∙ ap (λ floors. unwrap_or (last_or None floors) 0) (append-nil (filter_map (λ e. floor_set e.reply) before))

pub floor_of-set : (before : List Entry) (entry : Entry) (floor : ℕ) → floor_set entry.reply ≡ Some floor
    → floor_of (before ++ entry ∷ []) ≡ floor
floor_of-set before entry floor set =
    floors-push before entry
    ∙ ap (λ o. unwrap_or (last_or None (filter_map (λ e. floor_set e.reply) before ++ cons_option o [])) 0) set
    ∙ ap (λ o. unwrap_or o 0) (last_of_push None (filter_map (λ e. floor_set e.reply) before) floor)

-- the position of a live pin is among those of the live pins
pub least-live : (before : List Entry) (other pin position policies : ℕ) → live_pin before pin ≡ Some (position, policies)
    → least_or other (live_positions before) ≤ position
least-live before other pin position policies live =
    let parts = live_parts before pin (position, policies) live in
    let within : pin < length before = slice_get_within before pin parts.entry parts.found in
    least_member other position (live_positions before)
    (member_of_range (λ n. pinned_position (live_pin before n)) pin position (ap pinned_position live) 0 (length before) (omega arith) (omega arith))

-- the least of positions that are at most a count
pub least-count : (before : List Entry) (count : ℕ)
    → ((pin position policies : ℕ) → live_pin before pin ≡ Some (position, policies) → position ≤ count)
    → least_or count (live_positions before) ≤ count
least-count before count bound =
    least_bounded (λ pin. pinned_position (live_pin before pin)) count
    (λ pin position found. by_pin pin position (live_pin before pin) refl found) (range_with_len 0 (length before))
  where
    by_pin : (pin position : ℕ) (o : Option (ℕ × ℕ)) → live_pin before pin ≡ o → pinned_position o ≡ Some position → position ≤ count
    by_pin pin position None none found = grind arith
    by_pin pin position (Some held) live found =
        let same : held.0 ≡ position = grind arith in
        subst (λ n. n ≤ count) same (bound pin held.0 held.1 live)

-- what holds of the pins of a legal history
pub record PinsHold (opening : Opening) (before : List Entry) : Type 0 where
  pub floor_in : floor_of before ≤ length (commands_after opening before)
  pub pins_in : (pin position policies : ℕ) → live_pin before pin ≡ Some (position, policies)
      → (floor_of before ≤ position) × (position ≤ length (commands_after opening before))
      × (policies ≡ length (book (take position (commands_after opening before))))

-- what a trim is answered
trim_due : (opening : Opening) (before : List Entry) (caller : ℕ) (call : Call) (floor : ℕ) → IsDue opening before caller call (Floor floor)
    → floor ≡ least_or (length (commands_after opening before)) (live_positions before)
trim_due opening before caller (Post command) floor due = absurd due
trim_due opening before caller Pin floor due = absurd due
trim_due opening before caller (PinAt p) floor due = absurd due
trim_due opening before caller (Read pin first) floor due = absurd due
trim_due opening before caller (Unpin pin) floor due = absurd due
trim_due opening before caller Trim floor due = due

-- a pin is taken at the floor or above
pinned_above : (opening : Opening) (before : List Entry) (caller : ℕ) (call : Call) (position policies : ℕ)
    → floor_of before ≤ length (commands_after opening before) → IsDue opening before caller call (Pinned position policies)
    → floor_of before ≤ position
pinned_above opening before caller (Post command) position policies floor_in due = absurd due
pinned_above opening before caller Pin position policies floor_in due = grind arith
pinned_above opening before caller (PinAt p) position policies floor_in due = grind arith
pinned_above opening before caller (Read pin first) position policies floor_in due = absurd due
pinned_above opening before caller (Unpin pin) position policies floor_in due = absurd due
pinned_above opening before caller Trim position policies floor_in due = absurd due

-- where the floor lies after a turn: still at most at the count, and at no live pin's position or below it
pub record FloorMoved (opening : Opening) (before : List Entry) (entry : Entry) : Type 0 where
  pub counted : floor_of (before ++ entry ∷ []) ≤ length (commands_after opening before)
  pub below_pins : (pin position policies : ℕ) → live_pin before pin ≡ Some (position, policies)
      → floor_of (before ++ entry ∷ []) ≤ position
  pub below_new : (position policies : ℕ) → pin_of entry.reply ≡ Some (position, policies)
      → floor_of (before ++ entry ∷ []) ≤ position

floor_stays : (opening : Opening) (before : List Entry) (entry : Entry) → PinsHold opening before
    → IsDue opening before entry.caller entry.call entry.reply → floor_set entry.reply ≡ None → FloorMoved opening before entry
floor_stays opening before entry hold due none =
    let same = floor_of-kept before entry none in
    record {
      counted = subst (λ n. n ≤ length (commands_after opening before)) (sym same) hold.floor_in;
      below_pins = λ pin position policies live. subst (λ n. n ≤ position) (sym same) (hold.pins_in pin position policies live).0;
      below_new = λ position policies pinned. subst (λ n. n ≤ position) (sym same) (new_pin entry.reply due position policies pinned);
    }
  where
    new_pin : (reply : Reply) → IsDue opening before entry.caller entry.call reply → (position policies : ℕ)
        → pin_of reply ≡ Some (position, policies) → floor_of before ≤ position
    new_pin (Pinned p n) reply_due position policies pinned =
        let same : p ≡ position = grind arith in
        subst (λ q. floor_of before ≤ q) same (pinned_above opening before entry.caller entry.call p n hold.floor_in reply_due)
    new_pin (Accepted n) reply_due position policies pinned = grind arith
    new_pin (Refused refusal) reply_due position policies pinned = grind arith
    new_pin (Faulted n) reply_due position policies pinned = grind arith
    new_pin (PinRefused refusal) reply_due position policies pinned = grind arith
    new_pin (Policies policies_read) reply_due position policies pinned = grind arith
    new_pin Unpinned reply_due position policies pinned = grind arith
    new_pin (Floor n) reply_due position policies pinned = grind arith
    new_pin Blank reply_due position policies pinned = grind arith

floor_set_anew : (opening : Opening) (before : List Entry) (entry : Entry) (floor : ℕ) → PinsHold opening before
    → entry.reply ≡ Floor floor → IsDue opening before entry.caller entry.call (Floor floor) → FloorMoved opening before entry
floor_set_anew opening before entry floor hold replied due =
    let count = length (commands_after opening before) in
    let moved : floor_of (before ++ entry ∷ []) ≡ least_or count (live_positions before) =
    floor_of-set before entry floor (ap floor_set replied) ∙ trim_due opening before entry.caller entry.call floor due in
    record {
      counted = subst (λ n. n ≤ count) (sym moved) (least-count before count (λ pin position policies live. (hold.pins_in pin position policies live).1));
      below_pins = λ pin position policies live. subst (λ n. n ≤ position) (sym moved) (least-live before count pin position policies live);
      below_new = λ position policies pinned. absurd (no_pin position policies (sym (ap pin_of replied) ∙ pinned));
    }
  where
    no_pin : (position policies : ℕ) → ◌≡◌ {A = Option (ℕ × ℕ)} None (Some (position, policies)) → ⊥
    no_pin position policies e = grind arith

floor_moved : (opening : Opening) (before : List Entry) (entry : Entry) → PinsHold opening before
    → IsDue opening before entry.caller entry.call entry.reply → FloorMoved opening before entry
floor_moved opening before entry hold due = by_reply entry.reply refl
  where
    by_reply : (reply : Reply) → entry.reply ≡ reply → FloorMoved opening before entry
    by_reply (Floor n) replied =
        floor_set_anew opening before entry n hold replied (subst (IsDue opening before entry.caller entry.call) replied due)
    by_reply (Accepted n) replied = floor_stays opening before entry hold due (ap floor_set replied)
    by_reply (Refused refusal) replied = floor_stays opening before entry hold due (ap floor_set replied)
    by_reply (Faulted n) replied = floor_stays opening before entry hold due (ap floor_set replied)
    by_reply (Pinned p n) replied = floor_stays opening before entry hold due (ap floor_set replied)
    by_reply (PinRefused refusal) replied = floor_stays opening before entry hold due (ap floor_set replied)
    by_reply (Policies policies) replied = floor_stays opening before entry hold due (ap floor_set replied)
    by_reply Unpinned replied = floor_stays opening before entry hold due (ap floor_set replied)
    by_reply Blank replied = floor_stays opening before entry hold due (ap floor_set replied)

pub PinsHold-push : (opening : Opening) (before : List Entry) (entry : Entry) → PinsHold opening before
    → IsDue opening before entry.caller entry.call entry.reply → PinsHold opening (before ++ entry ∷ [])
PinsHold-push opening before entry hold due =
    record {
      floor_in = grows _ moved.counted;
      pins_in = λ pin position policies live. by_pin pin position policies (live_pin-push before entry pin (position, policies) live);
    }
  where
    moved : FloorMoved opening before entry
    moved = floor_moved opening before entry hold due

    grows : (n : ℕ) → n ≤ length (commands_after opening before) → n ≤ length (commands_after opening (before ++ entry ∷ []))
    grows n few =
        let longer = ap (λ commands. length commands) (commands_after-append opening before (entry ∷ [])) in
        grind (arith, length-append)

    held : (position policies : ℕ) → position ≤ length (commands_after opening before)
        → policies ≡ length (book (take position (commands_after opening before)))
        → policies ≡ length (book (take position (commands_after opening (before ++ entry ∷ []))))
    held position policies reached is_count =
        is_count ∙ ap (λ commands. length (book commands)) (sym (take-commands_after opening before (entry ∷ []) position reached))

    by_pin : (pin position policies : ℕ)
        → (live_pin before pin ≡ Some (position, policies)) ⊎ ((pin ≡ length before) × (pin_of entry.reply ≡ Some (position, policies)))
        → (floor_of (before ++ entry ∷ []) ≤ position) × (position ≤ length (commands_after opening (before ++ entry ∷ [])))
        × (policies ≡ length (book (take position (commands_after opening (before ++ entry ∷ [])))))
    by_pin pin position policies (inl live) =
        let was = hold.pins_in pin position policies live in
        (moved.below_pins pin position policies live, grows position was.1, held position policies was.1 was.2)
    by_pin pin position policies (inr taken) =
        let now = taken_due entry.reply due position policies taken.1 in
        (moved.below_new position policies taken.1, grows position now.0, held position policies now.0 now.1)
      where
        taken_due : (reply : Reply) → IsDue opening before entry.caller entry.call reply → (position policies : ℕ)
            → pin_of reply ≡ Some (position, policies)
            → (position ≤ length (commands_after opening before)) × (policies ≡ length (book (take position (commands_after opening before))))
        taken_due (Pinned p n) reply_due position policies pinned =
            let place : p ≡ position = grind arith in
            let number : n ≡ policies = grind arith in
            subst (λ m. (position ≤ length (commands_after opening before)) × (m ≡ length (book (take position (commands_after opening before))))) number
            (subst (λ q. (q ≤ length (commands_after opening before)) × (n ≡ length (book (take q (commands_after opening before))))) place
            (pinned_due opening before entry.caller entry.call p n reply_due))
        taken_due (Accepted n) reply_due position policies pinned = grind arith
        taken_due (Refused refusal) reply_due position policies pinned = grind arith
        taken_due (Faulted n) reply_due position policies pinned = grind arith
        taken_due (PinRefused refusal) reply_due position policies pinned = grind arith
        taken_due (Policies policies_read) reply_due position policies pinned = grind arith
        taken_due Unpinned reply_due position policies pinned = grind arith
        taken_due (Floor n) reply_due position policies pinned = grind arith
        taken_due Blank reply_due position policies pinned = grind arith

PinsHold-after : (opening : Opening) (before rest : List Entry) → PinsHold opening before → IsLegalAfter opening before rest
    → PinsHold opening (before ++ rest)
PinsHold-after opening before [] hold legal = subst (PinsHold opening) (sym (append-nil before)) hold
PinsHold-after opening before (entry ∷ rest) hold legal =
    subst (PinsHold opening) (append_assoc before (entry ∷ []) rest)
    (PinsHold-after opening (before ++ entry ∷ []) rest (PinsHold-push opening before entry hold legal.0) legal.1)

PinsHold-nil : (opening : Opening) → PinsHold opening []
PinsHold-nil opening = record { floor_in = omega arith; pins_in = λ pin position policies live. absurd (no_pin pin position policies live) }
  where
    no_pin : (pin position policies : ℕ) → live_pin [] pin ≡ Some (position, policies) → ⊥
    no_pin pin position policies live =
        let parts = live_parts [] pin (position, policies) live in no_turn parts.entry parts.found
      where
        no_turn : (entry : Entry) → None ≡ Some entry → ⊥
        no_turn entry e = grind arith

-- in a legal history the position of each live pin is from the floor up to the count
pub PinsHold-legal : (opening : Opening) (history : List Entry) → IsLegalAfter opening [] history → PinsHold opening history
PinsHold-legal opening history legal = PinsHold-after opening [] history (PinsHold-nil opening) legal
