-- A pass's pin is live in each history that the pass can be at
use Rattle.shared_office.proofs.Names.{◌≡◌, ℕ, suc, ◌+◌, ◌<◌, ◌≤◌, ◌==◌, Bool, true, false, ◌||◌, List, [], ◌∷◌, ◌++◌, length, drop, filter, slice_get, refl, sym, ap, ◌∙◌, subst, append_assoc, append-nil, Some, Ok, Err, Result, IfOk, arith, Ghosts, Post, Pin, PinAt, Read, Unpin, Trim, Entry, WatcherGhosts, opening_of, pins_of}
use Rattle.std.proofs.lemmas.Bool.Decides.{nat_tests}
use Rattle.std.specs.List.{Contains, list_any}
use Rattle.std.proofs.lemmas.Option.{same_Some, slice_get_within}
use Rattle.std.proofs.lemmas.List.{length-append}
use Rattle.std.proofs.lemmas.List.Folds.{list_any-append}
use Rattle.std.proofs.lemmas.List.Elements.{filter-append}
use Rattle.policy_types.specs.declared.entry.Call.{Call}
use Rattle.policy_types.specs.declared.entry.Reply.{Reply}
use Rattle.policy_types.specs.declared.entry.Reply.TheVariants.{Accepted, Refused, Faulted, Pinned, PinRefused, Slice as Policies, Unpinned, Floor, Blank}
use Rattle.policy_types.specs.declared.entry.PinRefusal.{PinRefusal}
use Rattle.policy_machine.specs.History.{Opening, IsDue, IsLegal, IsLegalAfter, IsOwnPin, gives_up, live_pin}
use Rattle.policy_machine.proofs.HistoryGrowth.{Answered, answered_at, live_of_some, slice_get-front, slice_get-middle}
use Rattle.office_state.specs.declared.held.Held.{Held}
use Rattle.office_state.specs.declared.held.PinInfo.{PinInfo}
use Rattle.office_state.specs.declared.state.OfficeState.{OfficeState}
use Rattle.office_state.specs.Pins.{IsHeldBy, MayRead}
use Rattle.office_state.specs.Standing.{StandsFor}
use Rattle.office_state.specs.Turning.{pin_reply}
use Rattle.office_state.proofs.PinSteps.{live_among}
use Rattle.turn_lock.specs.History.{StartsWith, entries_of}
use Rattle.turn_lock.specs.Passes.{Holding, PassFacts, TakesTurn}
use Rattle.shared_office.specs.Offices.{IsOfficeHistory, OfficeOpening}
use Rattle.shared_office.specs.Pins.{AsksForPin, HasMadePin, HoldsPin, IsNotGivenUp, KeepsOtherPins, KeepsPins, pinned_reply}
use Rattle.shared_office.specs.inside.Pinning.{pin_told}

abbrev gives : ℕ → Entry → Bool
gives pin entry = gives_up pin entry.call

both_false : (a b : Bool) → a ≡ false → b ≡ false → (a || b) ≡ false
both_false a b one other = rw (one, other) refl

first_false : (a b : Bool) → (a || b) ≡ false → a ≡ false
first_false true b none = none
first_false false b none = refl

second_false : (a b : Bool) → (a || b) ≡ false → b ≡ false
second_false true b none = absurd (never none)
  where
    never : true ≡ false → ⊥
    never e = grind arith
second_false false b none = none

-- an unpinning's pin is its caller's
unpin_due : (opening : Opening) (before : List Entry) (caller pin : ℕ) (reply : Reply)
    → IsDue opening before caller (Unpin pin) reply → IsOwnPin before caller pin
unpin_due opening before caller pin Unpinned due = due.2
unpin_due opening before caller pin (PinRefused refusal) due = absurd due
unpin_due opening before caller pin (Pinned position policies) due = absurd due
unpin_due opening before caller pin (Accepted n) due = absurd due
unpin_due opening before caller pin (Refused refusal) due = absurd due
unpin_due opening before caller pin (Faulted n) due = absurd due
unpin_due opening before caller pin (Policies policies) due = absurd due
unpin_due opening before caller pin (Floor n) due = absurd due
unpin_due opening before caller pin Blank due = absurd due

-- a turn that gives a pin up is its caller's
given_by_owner : (opening : Opening) (before : List Entry) (caller pin : ℕ) (call : Call) (reply : Reply)
    → IsDue opening before caller call reply → gives_up pin call ≡ true → IsOwnPin before caller pin
given_by_owner opening before caller pin (Unpin n) reply due gives =
    let same : n ≡ pin = grind (arith, nat_tests) in
    subst (IsOwnPin before caller) same (unpin_due opening before caller n reply due)
given_by_owner opening before caller pin (Post command) reply due gives = grind arith
given_by_owner opening before caller pin Pin reply due gives = grind arith
given_by_owner opening before caller pin (PinAt p) reply due gives = grind arith
given_by_owner opening before caller pin (Read n first) reply due gives = grind arith
given_by_owner opening before caller pin Trim reply due gives = grind arith

not_true : (b : Bool) → (b ≡ true → ⊥) → b ≡ false
not_true true never = absurd (never refl)
not_true false never = refl

-- no turn gives up a pin that is taken later
unpins_earlier : (opening : Opening) (before rest : List Entry) (pin : ℕ) → length before + length rest ≤ pin
    → IsLegalAfter opening before rest → list_any (gives pin) rest ≡ false
unpins_earlier opening before [] pin late legal = refl
unpins_earlier opening before (entry ∷ rest) pin late legal =
    both_false (gives pin entry) (list_any (gives pin) rest)
    (not_true (gives pin entry) (λ given.
    let own = given_by_owner opening before entry.caller pin entry.call entry.reply legal.0 given in
    let low = slice_get_within before pin own.0 own.1 in
    absurd (omega (arith, low, late))))
    (unpins_earlier opening (before ++ entry ∷ []) rest pin (omega (arith, late, length-append before (entry ∷ []))) legal.1)

-- what no entry of a list does, none of a part of it does
none_of_part : {X : Type 0} (p q : X → Bool) (xs : List X) → list_any p xs ≡ false → list_any p (filter q xs) ≡ false
none_of_part p q [] none = refl
none_of_part {X} p q (x ∷ xs) none =
    by (q x) refl (first_false (p x) (list_any p xs) none) (none_of_part p q xs (second_false (p x) (list_any p xs) none))
  where
    by : (b : Bool) → q x ≡ b → p x ≡ false → list_any p (filter q xs) ≡ false → list_any p (filter q (x ∷ xs)) ≡ false
    by true is here rest = rw is (both_false (p x) (list_any p (filter q xs)) here rest)
    by false is here rest = rw is rest

legal_back : (opening : Opening) (before front rest : List Entry) → IsLegalAfter opening before (front ++ rest)
    → IsLegalAfter opening (before ++ front) rest
legal_back opening before [] rest legal = subst (λ turns. IsLegalAfter opening turns rest) (sym (append-nil before)) legal
legal_back opening before (entry ∷ front) rest legal =
    subst (λ turns. IsLegalAfter opening turns rest) (append_assoc before (entry ∷ []) front)
    (legal_back opening (before ++ entry ∷ []) front rest legal.1)

-- a caller's pin is given up by this caller alone
kept_by_owner : (opening : Opening) (before rest : List Entry) (caller pin : ℕ) (entry : Entry)
    → slice_get before pin ≡ Some entry → entry.caller ≡ caller → IsLegalAfter opening before rest
    → list_any (gives pin) (entries_of rest caller) ≡ false → list_any (gives pin) rest ≡ false
kept_by_owner opening before [] caller pin entry found own legal kept = refl
kept_by_owner opening before (turn ∷ rest) caller pin entry found own legal kept =
    by (turn.caller == caller) refl
    (λ more. kept_by_owner opening (before ++ turn ∷ []) rest caller pin entry
    (slice_get-front before (turn ∷ []) pin (slice_get_within before pin entry found) ∙ found) own legal.1 more)
  where
    by : (b : Bool) → (turn.caller == caller) ≡ b
        → (list_any (gives pin) (entries_of rest caller) ≡ false → list_any (gives pin) rest ≡ false)
        → list_any (gives pin) (turn ∷ rest) ≡ false
    by true is more =
        let both : (gives pin turn || list_any (gives pin) (entries_of rest caller)) ≡ false =
        subst (λ xs. list_any (gives pin) xs ≡ false) (kept_first is) kept in
        both_false (gives pin turn) (list_any (gives pin) rest)
        (first_false (gives pin turn) (list_any (gives pin) (entries_of rest caller)) both)
        (more (second_false (gives pin turn) (list_any (gives pin) (entries_of rest caller)) both))
      where
        kept_first : (turn.caller == caller) ≡ true → entries_of (turn ∷ rest) caller ≡ turn ∷ entries_of rest caller
        kept_first is = rw is refl
    by false is more =
        let dropped : entries_of (turn ∷ rest) caller ≡ entries_of rest caller = rw is refl in
        both_false (gives pin turn) (list_any (gives pin) rest)
        (not_true (gives pin turn) (λ given. not_own (given_by_owner opening before turn.caller pin turn.call turn.reply legal.0 given)))
        (more (subst (λ xs. list_any (gives pin) xs ≡ false) dropped kept))
      where
        not_own : IsOwnPin before turn.caller pin → ⊥
        not_own mine =
            let same : entry ≡ mine.0 = same_Some entry mine.0 (sym found ∙ mine.1) in
            let caller_is : turn.caller ≡ caller = sym mine.2 ∙ sym (ap (λ (e : Entry). e.caller) same) ∙ own in
            grind (arith, nat_tests)

drop_past : {X : Type 0} (front back : List X) (x : X) → drop (length front + 1) (front ++ x ∷ back) ≡ back
drop_past [] back x = refl
drop_past (y ∷ front) back x =
    let n : length (y ∷ front) + 1 ≡ suc (length front + 1) = omega arith in
    ap (λ k. drop k (y ∷ front ++ x ∷ back)) n ∙ drop_past front back x

-- the pin is live
pub live : (opening : Opening) (history seen made : List Entry) (caller : ℕ) (pin : Held) → IsLegal opening history
    → StartsWith history seen → entries_of history caller ≡ made → HasMadePin pin caller seen made
    → (entry : Entry) × (slice_get history pin.number ≡ Some entry) × (entry.caller ≡ caller)
    × (live_pin history pin.number ≡ Some (pin.position, pin.policies))
live opening history seen made caller pin legal begins own holds =
    (turn, found, refl, live_of_some history pin.number turn kept found)
  where
    turn : Entry
    turn = record { caller = caller; call = holds.call; reply = Pinned pin.position pin.policies }

    found : slice_get history pin.number ≡ Some turn
    found =
        ap (λ (h : List Entry). slice_get h pin.number) begins.1
        ∙ slice_get-front seen begins.0 pin.number (slice_get_within seen pin.number turn holds.took) ∙ holds.took

    at : (answered : Answered opening [] history turn) × (length answered.front ≡ pin.number)
    at = answered_at opening [] history pin.number turn legal.due found

    split : history ≡ (at.0.front ++ turn ∷ []) ++ at.0.back
    split = at.0.split ∙ sym (append_assoc at.0.front (turn ∷ []) at.0.back)

    here : slice_get (at.0.front ++ turn ∷ []) pin.number ≡ Some turn
    here = subst (λ n. slice_get (at.0.front ++ turn ∷ []) n ≡ Some turn) at.1 (slice_get-middle at.0.front [] turn)

    later_legal : IsLegalAfter opening (at.0.front ++ turn ∷ []) at.0.back
    later_legal = legal_back opening [] (at.0.front ++ turn ∷ []) at.0.back (subst (IsLegalAfter opening []) split legal.due)

    parts : made ≡ entries_of (at.0.front ++ turn ∷ []) caller ++ entries_of at.0.back caller
    parts =
        sym own ∙ ap (λ h. entries_of h caller) split
        ∙ filter-append (λ (e : Entry). e.caller == caller) (at.0.front ++ turn ∷ []) at.0.back

    own_kept : list_any (gives pin.number) (entries_of at.0.back caller) ≡ false
    own_kept =
        second_false (list_any (gives pin.number) (entries_of (at.0.front ++ turn ∷ []) caller)) (list_any (gives pin.number) (entries_of at.0.back caller))
        (sym (list_any-append (gives pin.number) (entries_of (at.0.front ++ turn ∷ []) caller) (entries_of at.0.back caller))
        ∙ ap (list_any (gives pin.number)) (sym parts) ∙ holds.kept)

    later : drop (pin.number + 1) history ≡ at.0.back
    later =
        ap (λ n. drop (n + 1) history) (sym at.1) ∙ ap (drop (length at.0.front + 1)) at.0.split
        ∙ drop_past at.0.front at.0.back turn

    kept : list_any (gives pin.number) (drop (pin.number + 1) history) ≡ false
    kept =
        ap (list_any (gives pin.number)) later
        ∙ kept_by_owner opening (at.0.front ++ turn ∷ []) at.0.back caller pin.number turn here refl later_legal own_kept

module _ {D W : Type 0} {g : Ghosts D} {w : WatcherGhosts W} (state : OfficeState D W g w) (history seen made : List Entry) (caller : ℕ) (pin : Held)
    (stood : StandsFor state history) (begins : StartsWith history seen) (own : entries_of history caller ≡ made)
    (holds : HasMadePin pin caller seen made) where
  -- the state knows it as the caller's
  abbrev pub held_by : IsHeldBy (pins_of state) caller pin.number
  held_by =
      let is = live (opening_of state) history seen made caller pin stood.history.legal begins own holds in
      record {
        held = record { number = pin.number; caller = is.0.caller; position = pin.position; policies = pin.policies };
        among = subst (λ pins. Contains pins (record { number = pin.number; caller = is.0.caller; position = pin.position; policies = pin.policies }))
            (sym stood.pins) (live_among history pin.number is.0 pin.position pin.policies is.1 is.3);
        number = refl;
        holder = is.2;
      }

  pub may_read : (first : ℕ) → first ≤ pin.policies → MayRead (pins_of state) caller pin.number first
  may_read first low =
      let own = held_by in
      record { held = own.held; among = own.among; number = own.number; holder = own.holder; within = low }

module _ {O : Type 0} (turn : ℕ) (entry : Entry) (old new : Holding O) (takes : TakesTurn turn entry old new) where
  -- a pin that the turn doesn't give up
  pub still_holds : (pin : Held) → gives_up pin.number entry.call ≡ false → HoldsPin old pin → HoldsPin new pin
  still_holds pin other holds =
      subst (λ (pass : Holding O). HoldsPin pass pin) (sym takes.new_is) (record {
        call = holds.call;
        asked = holds.asked;
        holder = holds.holder;
        took =
            let low = slice_get_within old.seen pin.number _ holds.took in
            ap (λ xs. slice_get xs pin.number) (append_assoc old.seen takes.between (entry ∷ []))
            ∙ slice_get-front old.seen (takes.between ++ entry ∷ []) pin.number low ∙ holds.took;
        kept =
            list_any-append (gives pin.number) old.made (entry ∷ [])
            ∙ both_false (list_any (gives pin.number) old.made) (list_any (gives pin.number) (entry ∷ [])) holds.kept
            (both_false (gives pin.number entry) false other refl);
      })

  -- a pin that was held before is none that the turn took
  pub earlier : (pin : Held) → HoldsPin old pin → pin.number < turn
  earlier pin holds =
      omega (arith, slice_get_within old.seen pin.number _ holds.took, takes.place, length-append old.seen takes.between)

  pub keeps_pins : ((pin : ℕ) → gives_up pin entry.call ≡ false) → KeepsPins old new
  keeps_pins none pin holds = still_holds pin (none pin.number) holds

  pub keeps_others : (pin : ℕ) → entry.call ≡ Unpin pin → KeepsOtherPins pin old new
  keeps_others pin is other apart holds =
      still_holds other (rw is (different (pin == other.number) refl)) holds
    where
      different : (b : Bool) → (pin == other.number) ≡ b → (pin == other.number) ≡ false
      different true same = absurd (apart (grind (arith, nat_tests)))
      different false none = none

-- the reply that the caller sees is the state's
told_alike : (turn caller : ℕ) (told : Result PinInfo PinRefusal) → pin_reply told ≡ pinned_reply (pin_told turn caller told)
told_alike turn caller (Ok info) = refl
told_alike turn caller (Err refusal) = refl

asks_only : (call : Call) (pin : ℕ) → AsksForPin call → gives_up pin call ≡ false
asks_only Pin pin asks = refl
asks_only (PinAt p) pin asks = refl
asks_only (Post command) pin asks = absurd asks
asks_only (Read n first) pin asks = absurd asks
asks_only (Unpin n) pin asks = absurd asks
asks_only Trim pin asks = absurd asks

module _ {D W : Type 0} (turn : ℕ) (call : Call) (old new : Holding (OfficeOpening D W)) (asks : AsksForPin call)
    (facts : PassFacts IsOfficeHistory old) where
  -- the turn of a pin that was taken
  abbrev taking : (info : PinInfo) → Entry
  taking info = record { caller = old.caller; call = call; reply = Pinned info.position info.policies }

  abbrev the_pin : (info : PinInfo) → Held
  the_pin info = record { number = turn; caller = old.caller; position = info.position; policies = info.policies }

  kept_new : (info : PinInfo) → length old.seen ≤ turn → IsNotGivenUp turn (old.made ++ taking info ∷ [])
  kept_new info late =
      let before : list_any (gives turn) old.made ≡ false =
      ap (list_any (gives turn)) (sym facts.paged.0)
      ∙ none_of_part (gives turn) (λ (e : Entry). e.caller == old.caller) old.seen
      (unpins_earlier facts.lawful.0.opening [] old.seen turn (omega (arith, late)) facts.lawful.2.legal.due) in
      list_any-append (gives turn) old.made (taking info ∷ [])
      ∙ both_false (list_any (gives turn) old.made) (list_any (gives turn) (taking info ∷ [])) before
      (both_false (gives turn (taking info)) false (asks_only call turn asks) refl)

  took : (info : PinInfo) → TakesTurn turn (taking info) old new → HoldsPin new (the_pin info)
  took info takes =
      subst (λ (pass : Holding (OfficeOpening D W)). HoldsPin pass (the_pin info)) (sym takes.new_is) (record {
        call = call;
        asked = asks;
        holder = refl;
        took =
            ap (slice_get ((old.seen ++ takes.between) ++ taking info ∷ [])) takes.place
            ∙ slice_get-middle (old.seen ++ takes.between) [] (taking info);
        kept = kept_new info (omega (arith, takes.place, length-append old.seen takes.between));
      })

  -- a turn that took a pin gives it into the caller's hands
  in_hands : (told : Result PinInfo PinRefusal)
      → TakesTurn turn (record { caller = old.caller; call = call; reply = pin_reply told }) old new
      → IfOk (pin_told turn old.caller told) (λ pin. (pin.number ≡ turn) × HoldsPin new pin)
  in_hands (Ok info) takes = (refl, took info takes)
  in_hands (Err refusal) takes = tt

  pub given : (told : Result PinInfo PinRefusal) (place caller : ℕ) (answer : Result Held PinRefusal) → place ≡ turn
      → caller ≡ old.caller → answer ≡ pin_told turn caller told
      → TakesTurn turn (record { caller = old.caller; call = call; reply = pin_reply told }) old new
      → IfOk answer (λ pin. (pin.number ≡ place) × HoldsPin new pin)
  given told place caller answer same own is takes =
      subst (λ (n : ℕ). IfOk answer (λ pin. (pin.number ≡ n) × HoldsPin new pin)) (sym same)
      (subst (λ (a : Result Held PinRefusal). IfOk a (λ pin. (pin.number ≡ turn) × HoldsPin new pin))
      (sym (is ∙ ap (λ n. pin_told turn n told) own)) (in_hands told takes))
