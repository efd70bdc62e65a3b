-- The reads of a pin and what is made of its policies, put together
use Rattle.snapshot_value.proofs.Names.{◌≡◌, ◌≢◌, false, true, Result, Ok, Err, IfOk, IsErr, ℕ, ◌+◌, ◌*◌, ◌≤◌, ◌<◌, List, [], ◌∷◌, ◌++◌, length, take, drop, refl, sym, ap, ◌∙◌, subst, append-nil, append_assoc, length-append, lit<, arith, AllByRecursion, length-map, length-take, map-append, take_all, take-append-le, most_commands, Policy, Entry, accepted_of, commands_after, policies_per_read, FollowsPin, Placed, pin_call, reads_of, IsSound, Holding, PassFacts, TakesTurn, IsOfficeHistory, OfficeOpening, HoldsPin, KeepsOtherPins, KeepsPins, pinning_turn, Grows, FollowsReads, HasMadeOfPin, HasMadeOfReads, HasReadEach, HasReadFirst, HasReadPart, HasReadSome, calls_of, policies_at, reads_needed}
use Rattle.memory_requests.specs.Evidence.{a_refusal}
use Rattle.std.proofs.lemmas.Option.{slice_get_within}
use Rattle.policy_types.specs.declared.entry.At.{At}
use Rattle.policy_types.specs.declared.entry.At.TheVariants.{Now, Position}
use Rattle.policy_types.specs.declared.entry.Call.{Call}
use Rattle.policy_types.specs.declared.entry.Call.TheVariants.{Unpin}
use Rattle.policy_types.specs.declared.entry.PinRefusal.{PinRefusal}
use Rattle.policy_types.specs.declared.entry.Reply.TheVariants.{Pinned}
use Rattle.memory_requests.specs.declared.evidence.NoMemory.{NoMemory as Refusal}
use Rattle.policy_machine.specs.Book.{book}
use Rattle.policy_machine.proofs.HistoryGrowth.{commands_after-append}
use Rattle.office_state.specs.Turning.{unpin_turn}
use Rattle.office_state.specs.declared.held.Held.{Held}
use Rattle.snapshot_value.specs.Reading.{AnswersPinned, HasMadeOfBook, dry_pins}
use Rattle.snapshot_value.specs.declared.valuation.ValueFault.{ValueFault}
use Rattle.snapshot_value.specs.declared.valuation.ValueFault.TheVariants.{Pin, NoMemory}
use Rattle.snapshot_value.proofs.Growth.{grows_more, grows_none, grows_one}
use Rattle.snapshot_value.proofs.PartSteps.{all_part, length-reads_of, next_part, next_read}
use Rattle.snapshot_value.proofs.PinSteps.{IsKnown, known, policies_by}

module _ {D W : Type 0} (pin : Held) where
  -- some reads, or none
  pub some_none : (pass : Holding (OfficeOpening D W)) → HasReadSome pin pass pass
  some_none pass = record { reads = []; grows = grows_none pass; many = 0; calls = refl }

  pub first_none : (Has : List Policy → Type 0) (pass : Holding (OfficeOpening D W)) → Has [] → HasReadFirst Has pin 0 pass pass
  first_none Has pass has = record { reads = []; grows = grows_none pass; calls = refl; stays = refl; has = has }

  -- those that were read are no more than there may be policies
  pub first_few : (k : ℕ) (old : Holding (OfficeOpening D W)) → IsKnown old pin
      → length (take (policies_per_read * k) (policies_at old pin.position)) ≤ most_commands
  first_few k old is =
      omega (arith, length-take (policies_per_read * k) (policies_at old pin.position), is.counted, is.few)

  module _ (Has : List Policy → Type 0) (k : ℕ) (old mid : Holding (OfficeOpening D W)) (is : IsKnown old pin)
      (so_far : HasReadFirst Has pin k old mid) where
    -- turns are left for the next
    pub first_left : k < reads_needed pin.policies → 15999 ≤ old.left → 1 ≤ mid.left
    first_left low left =
        let reads : length (calls_of so_far.reads) ≡ length so_far.reads = length-map so_far.reads (λ (turn : Placed). turn.1.call) in
        let calls : length (calls_of so_far.reads) ≡ length (take k (reads_of pin.number pin.policies)) = ap length so_far.calls in
        omega (arith, reads, calls, length-take k (reads_of pin.number pin.policies), so_far.grows.left, low, is.few, left)

    -- the next is read
    module _ (part : List Policy) (new : Holding (OfficeOpening D W)) (one : HasReadPart pin k part mid new) where
      part_is : part ≡ take policies_per_read (drop (policies_per_read * k) (policies_at old pin.position))
      part_is = one.filled ∙ ap (λ policies. take policies_per_read (drop (policies_per_read * k) policies)) so_far.stays

      pub part_sound : AllByRecursion IsSound part
      part_sound =
          subst (AllByRecursion IsSound) (sym part_is)
          (all_part IsSound (policies_per_read * k) policies_per_read (policies_at old pin.position) is.sound)

      pub part_few : length (take (policies_per_read * k) (policies_at old pin.position)) + length part ≤ most_commands
      part_few =
          let policies = policies_at old pin.position in
          let both : length (take (policies_per_read * (k + 1)) policies) ≡ length (take (policies_per_read * k) policies) + length part =
          ap length (next_part k policies ∙ ap (λ p. take (policies_per_read * k) policies ++ p) (sym part_is))
          ∙ length-append (take (policies_per_read * k) policies) part in
          omega (arith, both, first_few (k + 1) old is)

      module _ (low : k < reads_needed pin.policies) where
        grew : Grows old new (so_far.reads ++ one.read ∷ [])
        grew = grows_more old mid new so_far.reads (one.read ∷ []) so_far.grows one.grows

        called : calls_of (so_far.reads ++ one.read ∷ []) ≡ take (k + 1) (reads_of pin.number pin.policies)
        called =
            map-append (λ (turn : Placed). turn.1.call) so_far.reads (one.read ∷ [])
            ∙ ap (λ (calls : List Call). calls ++ one.read.1.call ∷ []) so_far.calls
            ∙ ap (λ call. take k (reads_of pin.number pin.policies) ++ call ∷ []) one.call
            ∙ sym (next_read pin.number pin.policies k low)

        pub some_more : HasReadSome pin old new
        some_more = record { reads = so_far.reads ++ one.read ∷ []; grows = grew; many = k + 1; calls = called }

        pub first_more : (Next : List Policy → Type 0) → Next (take (policies_per_read * k) (policies_at old pin.position) ++ part)
            → HasReadFirst Next pin (k + 1) old new
        first_more Next has = record {
          reads = so_far.reads ++ one.read ∷ [];
          grows = grew;
          calls = called;
          stays = one.stays ∙ so_far.stays;
          has =
              subst Next
              (ap (λ p. take (policies_per_read * k) (policies_at old pin.position) ++ p) part_is
              ∙ sym (next_part k (policies_at old pin.position))) has;
        }

    -- that was all
    module _ (enough : reads_needed pin.policies ≤ k) where
      pub first_all : HasReadEach pin old mid
      first_all = record {
        reads = so_far.reads;
        grows = so_far.grows;
        calls =
            so_far.calls
            ∙ take_all k (reads_of pin.number pin.policies) (omega (arith, enough, length-reads_of pin.number pin.policies));
      }

      pub has_all : Has (policies_at old pin.position)
      has_all = subst Has (take_all (policies_per_read * k) (policies_at old pin.position) (omega (arith, enough, is.counted))) so_far.has

  -- all reads are some
  abbrev some_each : (old mid : Holding (OfficeOpening D W)) → HasReadEach pin old mid → HasReadSome pin old mid
  some_each old mid read = record {
    reads = read.reads;
    grows = read.grows;
    many = reads_needed pin.policies;
    calls =
        read.calls
        ∙ sym (take_all (reads_needed pin.policies) (reads_of pin.number pin.policies) (omega (arith, length-reads_of pin.number pin.policies)));
  }

  -- the reads of a pin are so few
  some_few : (old mid : Holding (OfficeOpening D W)) → IsKnown old pin → (read : HasReadSome pin old mid) → length read.reads ≤ 15625
  some_few old mid is read =
      let calls : length (calls_of read.reads) ≡ length read.reads = length-map read.reads (λ (turn : Placed). turn.1.call) in
      let same : length (calls_of read.reads) ≡ length (take read.many (reads_of pin.number pin.policies)) = ap length read.calls in
      omega (
        arith,
        calls,
        same,
        length-take read.many (reads_of pin.number pin.policies),
        length-reads_of pin.number pin.policies,
        is.few,
      )

  -- so a turn is left to give it up
  some_left : (old mid : Holding (OfficeOpening D W)) → IsKnown old pin → HasReadSome pin old mid → 15999 ≤ old.left → 1 ≤ mid.left
  some_left old mid is read left = omega (arith, some_few old mid is read, read.grows.left, left)

  module _ {Made : Type 0} (IsOf : ℕ → List Policy → Made → Type 0) where
    -- something was made of all policies, or memory was refused for it
    pub made_of_reads : (old new : Holding (OfficeOpening D W)) (result : Result Made Refusal) → HasReadEach pin old new
        → IfOk result (IsOf pin.position (policies_at old pin.position)) → HasMadeOfReads IsOf pin old new result
    made_of_reads old new (Ok made) read is = (read, is)
    made_of_reads old new (Err lack) read is = some_each old new read

    -- memory was refused
    pub lacking : (old new : Holding (OfficeOpening D W)) (result : Result Made Refusal) → HasReadSome pin old new → IsErr result
        → HasMadeOfReads IsOf pin old new result
    lacking old new (Ok made) some failed = let no : false ≡ true = failed in absurd (cc)
    lacking old new (Err lack) some failed = some

    pub left_to_unpin : (old mid : Holding (OfficeOpening D W)) (read : Result Made Refusal) → PassFacts IsOfficeHistory old → HoldsPin old pin
        → HasMadeOfReads IsOf pin old mid read → 15999 ≤ old.left → 1 ≤ mid.left
    left_to_unpin old mid (Ok made) facts holds read left = some_left old mid (known old pin facts holds) (some_each old mid read.0) left
    left_to_unpin old mid (Err lack) facts holds read left = some_left old mid (known old pin facts holds) read left

    module _ (turn : ℕ) (old mid new : Holding (OfficeOpening D W)) (facts : PassFacts IsOfficeHistory old) (holds : HoldsPin old pin)
        (left : 15999 ≤ old.left) (takes : TakesTurn turn (unpin_turn mid.caller pin.number) mid new) where
      abbrev last : Placed
      last = (turn, unpin_turn mid.caller pin.number)

      some_then : (some : HasReadSome pin old mid) → Grows old new (some.reads ++ last ∷ [])
      some_then some =
          grows_more old mid new some.reads (last ∷ []) some.grows
          (grows_one turn last.1 mid new (some_left old mid (known old pin facts holds) some left) takes)

      few_then : (some : HasReadSome pin old mid) → length (some.reads ++ last ∷ []) < 16000
      few_then some = omega (arith, some_few old mid (known old pin facts holds) some, length-append some.reads (last ∷ []))

      -- the pin is given up after all reads
      pub made_then : (made : Made) → HasMadeOfReads IsOf pin old mid (Ok made) → HasMadeOfPin IsOf pin old new (Ok made)
      made_then made read = record {
        later = read.0.reads ++ last ∷ [];
        grows = some_then (some_each old mid read.0);
        few = few_then (some_each old mid read.0);
        follows = (
          map-append (λ (placed : Placed). placed.1.call) read.0.reads (last ∷ [])
              ∙ ap (λ (calls : List Call). calls ++ Unpin pin.number ∷ []) read.0.calls,
          read.1,
        );
      }

      -- or after some
      pub lacking_then : HasReadSome pin old mid → HasMadeOfPin IsOf pin old new (Err (NoMemory a_refusal))
      lacking_then read = record {
        later = read.reads ++ last ∷ [];
        grows = some_then read;
        few = few_then read;
        follows = (
          read.many,
          map-append (λ (placed : Placed). placed.1.call) read.reads (last ∷ [])
              ∙ ap (λ (calls : List Call). calls ++ Unpin pin.number ∷ []) read.calls,
        );
      }

-- a pin posts nothing
nothing_posted : (caller : ℕ) (at : At) (answer : Result Held PinRefusal) → accepted_of (pinning_turn caller (pin_call at) answer ∷ []) ≡ []
nothing_posted caller Now (Ok pin) = refl
nothing_posted caller Now (Err refusal) = refl
nothing_posted caller (Position p) (Ok pin) = refl
nothing_posted caller (Position p) (Err refusal) = refl

take_front : {X : Type 0} (n : ℕ) (front back : List X) → n ≡ length front → take n (front ++ back) ≡ front
take_front n front back is = take-append-le n front back (omega (arith, is)) ∙ take_all n front (omega (arith, is))

module _ {D W Made : Type 0} (IsOf : ℕ → List Policy → Made → Type 0) (at : At) (turn : ℕ) (old : Holding (OfficeOpening D W)) where
  -- the position couldn't be pinned
  pub pin_refused : (new : Holding (OfficeOpening D W)) (refusal : PinRefusal) → 1 ≤ old.left
      → TakesTurn turn (pinning_turn old.caller (pin_call at) (Err refusal)) old new → PassFacts IsOfficeHistory new
      → HasMadeOfBook IsOf at old new turn (Err (Pin refusal))
  pin_refused new refusal left takes facts = record {
    pin = (turn, pinning_turn old.caller (pin_call at) (Err refusal));
    later = [];
    grows = grows_one turn (pinning_turn old.caller (pin_call at) (Err refusal)) old new left takes;
    few = omega arith;
    place = refl;
    asked = refl;
    follows = refl;
    opened = facts.lawful.0;
    opening = facts.lawful.1;
    answered = refl;
  }

  module _ (mid new : Holding (OfficeOpening D W)) (pin : Held) (left : 1 ≤ old.left)
      (takes : TakesTurn turn (pinning_turn old.caller (pin_call at) (Ok pin)) old mid) (number : pin.number ≡ turn) where
    abbrev entry : Entry
    entry = pinning_turn old.caller (pin_call at) (Ok pin)

    -- the reads follow, and the pin is given up
    reads_follow : (calls : List Call) (answer : Result Made ValueFault) → FollowsReads IsOf pin mid calls answer
        → FollowsPin (dry_pins turn answer) turn (Pinned pin.position pin.policies) calls
    reads_follow calls (Ok made) follows =
        let all : take (reads_needed pin.policies) (reads_of turn pin.policies) ≡ reads_of turn pin.policies =
        take_all (reads_needed pin.policies) (reads_of turn pin.policies) (omega (arith, length-reads_of turn pin.policies)) in (
          reads_needed pin.policies,
          follows.0 ∙ ap (λ n. reads_of n pin.policies ++ Unpin n ∷ []) number
              ∙ ap (λ (reads : List Call). reads ++ Unpin turn ∷ []) (sym all),
          λ _. all,
        )
    reads_follow calls (Err (NoMemory lack)) follows = (
      follows.0,
      follows.1 ∙ ap (λ n. take follows.0 (reads_of n pin.policies) ++ Unpin n ∷ []) number,
      λ wet. absurd (wet (0, lit< tt, refl)),
    )
    reads_follow calls (Err (Pin refusal)) follows = absurd follows

    module _ (grows : (later : List Placed) × Grows mid new later) (is : IsKnown mid pin) where
      seen_after : new.seen ≡ (old.seen ++ takes.between) ++ (entry ∷ grows.1.begins.0)
      seen_after =
          grows.1.begins.1
          ∙ ap (λ (p : Holding (OfficeOpening D W)). p.seen ++ grows.1.begins.0) takes.new_is
          ∙ append_assoc (old.seen ++ takes.between) (entry ∷ []) grows.1.begins.0

      seen_before : take turn new.seen ≡ old.seen ++ takes.between
      seen_before =
          ap (take turn) seen_after
          ∙ take_front turn (old.seen ++ takes.between) (entry ∷ grows.1.begins.0) takes.place

      -- the commands before the pin's turn are those after it
      commands_same : commands_after is.opened.opening mid.seen ≡ commands_after is.opened.opening (take turn new.seen)
      commands_same =
          ap (λ (p : Holding (OfficeOpening D W)). commands_after is.opened.opening p.seen) takes.new_is
          ∙ commands_after-append is.opened.opening (old.seen ++ takes.between) (entry ∷ [])
          ∙ ap (λ more. commands_after is.opened.opening (old.seen ++ takes.between) ++ more) (nothing_posted old.caller at (Ok pin))
          ∙ append-nil (commands_after is.opened.opening (old.seen ++ takes.between))
          ∙ ap (commands_after is.opened.opening) (sym seen_before)

      policies_same : policies_at mid pin.position ≡ book (take pin.position (commands_after is.opened.opening (take turn new.seen)))
      policies_same =
          policies_by mid is.opened pin.position is.opening
          ∙ ap (λ commands. book (take pin.position commands)) commands_same

      answers_pinned : (calls : List Call) (answer : Result Made ValueFault) → FollowsReads IsOf pin mid calls answer
          → AnswersPinned IsOf (commands_after is.opened.opening (take turn new.seen)) (Pinned pin.position pin.policies) answer
      answers_pinned calls (Ok made) follows = subst (λ policies. IsOf pin.position policies made) policies_same follows.1
      answers_pinned calls (Err (NoMemory lack)) follows = tt
      answers_pinned calls (Err (Pin refusal)) follows = absurd follows

    -- the position was pinned
    pub made_of_pin : (answer : Result Made ValueFault) → PassFacts IsOfficeHistory mid → HoldsPin mid pin
        → HasMadeOfPin IsOf pin mid new answer → HasMadeOfBook IsOf at old new turn answer
    made_of_pin answer facts holds made =
        let is = known mid pin facts holds in record {
          pin = (turn, entry);
          later = made.later;
          grows = grows_more old mid new ((turn, entry) ∷ []) made.later (grows_one turn entry old mid left takes) made.grows;
          few = omega (arith, made.few);
          place = refl;
          asked = refl;
          follows = reads_follow (calls_of made.later) answer made.follows;
          opened = is.opened;
          opening = made.grows.opening ∙ is.opening;
          answered = answers_pinned (made.later, made.grows) is (calls_of made.later) answer made.follows;
        }

    -- the pin is none of those that the pass held before
    pub others_kept : (new : Holding (OfficeOpening D W)) → KeepsPins old mid → KeepsOtherPins pin.number mid new → KeepsPins old new
    others_kept new kept others other holds = others other apart (kept other holds)
      where
        apart : other.number ≢ pin.number
        apart same =
            absurd (omega (
              arith,
              same,
              number,
              slice_get_within old.seen other.number _ holds.took,
              takes.place,
              length-append old.seen takes.between,
            ))
