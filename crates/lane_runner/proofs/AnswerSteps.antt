-- The answered lines of one pass, put together
use Rattle.lane_runner.proofs.Names.{◌≡◌, ℕ, zero, suc, ◌+◌, ◌≤◌, ◌<◌, ℤ, List, [], ◌∷◌, ◌++◌, length, map, take, get_or, Some, Result, Ok, Err, refl, ap, sym, ◌∙◌, subst, append-nil, length-append, arith, AllByRecursion, AllZip, Contains, filter, flat_map, map-append, flat_map-append, Dated, Entry, Line, Post, Value, Trim, Opening, commands_after, AnswersLine, FollowsPin, Placed, turns_of, Holding, PassFacts, TakesTurn, IsOfficeHistory, OfficeOpening, TranscriptLine, AnsweredLine, turns_in, IsOutcome, IsTold, dry_of, lacked_memory, HasAnswered, IsBoxed, in_box, outcome_of, turns_for, turns_needed}
use Rattle.memory_requests.specs.Evidence.{a_refusal}
use Rattle.std.specs.Prelude.{Box}
use Rattle.std.specs.Global.{Global}
use Rattle.std.proofs.lemmas.List.Elements.{Contains-append_left, Contains-append_right, filter-append}
use Rattle.std.proofs.Math.Seq.{take-suc}
use Rattle.policy_types.specs.declared.command.Command.{Command}
use Rattle.policy_types.specs.declared.entry.At.{At}
use Rattle.policy_types.specs.declared.entry.Call.{Call}
use Rattle.policy_types.specs.declared.entry.Reply.{Reply}
use Rattle.policy_types.specs.declared.entry.Reply.TheVariants.{Accepted, Refused, Faulted, Pinned, PinRefused, Slice, Unpinned, Floor, Blank}
use Rattle.office_state.specs.declared.answer.Answer.{Answer}
use Rattle.office_state.specs.Posting.{turn_of}
use Rattle.office_state.specs.Turning.{trim_turn}
use Rattle.policy_value.specs.declared.worth.Measure.TheVariants.{Terminal}
use Rattle.snapshot_value.specs.Growing.{Grows}
use Rattle.snapshot_value.specs.Valuing.{HasValued, AnswersPin, dry_pins}
use Rattle.snapshot_value.specs.declared.valuation.Valuation.{Valuation}
use Rattle.snapshot_value.specs.declared.valuation.ValueFault.{ValueFault}
use Rattle.snapshot_value.specs.declared.valuation.ValueFault.TheVariants.{Pin, NoMemory}
use Rattle.snapshot_value.proofs.Growth.{grows_more, grows_none, grows_one}
use Rattle.lane_runner.specs.declared.transcript.Outcome.TheVariants.{Posted, Trimmed}
use Rattle.lane_runner.proofs.Places.{turns_inside}

pub all_append : {A : Type 0} (P : A → Type 0) (xs ys : List A) → AllByRecursion P xs → AllByRecursion P ys → AllByRecursion P (xs ++ ys)
all_append P [] ys none all = all
all_append P (x ∷ xs) ys some all = (some.0, all_append P xs ys some.1 all)

pub all_later : {A : Type 0} (P : A → Type 0) (xs ys : List A) → AllByRecursion P (xs ++ ys) → AllByRecursion P ys
all_later P [] ys all = all
all_later P (x ∷ xs) ys all = all_later P xs ys all.1

pub all_weaker : {A : Type 0} (P Q : A → Type 0) → ((x : A) → P x → Q x) → (xs : List A) → AllByRecursion P xs → AllByRecursion Q xs
all_weaker P Q weaker [] all = tt
all_weaker P Q weaker (x ∷ xs) all = (weaker x all.0, all_weaker P Q weaker xs all.1)

pub zip_append : {A B : Type 0} (R : A → B → Type 0) (es fs : List A) (bs ds : List B) → AllZip R es bs → AllZip R fs ds
    → AllZip R (es ++ fs) (bs ++ ds)
zip_append R [] fs [] ds none all = all
zip_append R [] fs (b ∷ bs) ds none all = absurd none
zip_append R (a ∷ es) fs [] ds none all = absurd none
zip_append R (a ∷ es) fs (b ∷ bs) ds some all = (some.0, zip_append R es fs bs ds some.1 all)

-- a relation that stays true if elements of the first list have a property
pub zip_moved : {A B : Type 0} (P : A → Type 0) (R S : A → B → Type 0) → ((a : A) (b : B) → P a → R a b → S a b)
    → (es : List A) (bs : List B) → AllByRecursion P es → AllZip R es bs → AllZip S es bs
zip_moved P R S moves [] [] have all = tt
zip_moved P R S moves [] (b ∷ bs) have all = absurd all
zip_moved P R S moves (a ∷ es) [] have all = absurd all
zip_moved P R S moves (a ∷ es) (b ∷ bs) have all = (moves a b have.0 all.0, zip_moved P R S moves es bs have.1 all.1)

pub dry_append : (xs ys : List TranscriptLine) → dry_of (xs ++ ys) ≡ dry_of xs ++ dry_of ys
dry_append xs ys =
    ap (map (λ (told : TranscriptLine). told.turn)) (filter-append (λ (told : TranscriptLine). lacked_memory told.outcome) xs ys)
    ∙ map-append (λ (told : TranscriptLine). told.turn) (filter (λ (told : TranscriptLine). lacked_memory told.outcome) xs)
    (filter (λ (told : TranscriptLine). lacked_memory told.outcome) ys)

follows_drier : (dry more : List ℕ) → ((x : ℕ) → Contains dry x → Contains more x) → (pin : ℕ) (reply : Reply) (calls : List Call)
    → FollowsPin dry pin reply calls → FollowsPin more pin reply calls
follows_drier dry more within pin (PinRefused refusal) calls h = h
follows_drier dry more within pin (Pinned position policies) calls h =
    (h.0, h.1, λ not_dry. h.2 (λ is_dry. not_dry (within pin is_dry)))
follows_drier dry more within pin (Accepted n) calls h = absurd h
follows_drier dry more within pin (Refused refusal) calls h = absurd h
follows_drier dry more within pin (Faulted n) calls h = absurd h
follows_drier dry more within pin (Slice policies) calls h = absurd h
follows_drier dry more within pin Unpinned calls h = absurd h
follows_drier dry more within pin (Floor n) calls h = absurd h
follows_drier dry more within pin Blank calls h = absurd h

-- the answer of a line stays an answer if more pins are out of memory
pub answers_drier : (dry more : List ℕ) → ((x : ℕ) → Contains dry x → Contains more x) → (line : Line) (turns : List Placed)
    → AnswersLine dry line turns → AnswersLine more line turns
answers_drier dry more within (Post command) [] h = absurd h
answers_drier dry more within (Post command) (turn ∷ []) h = h
answers_drier dry more within (Post command) (turn ∷ next ∷ rest) h = absurd h
answers_drier dry more within Trim [] h = absurd h
answers_drier dry more within Trim (turn ∷ []) h = h
answers_drier dry more within Trim (turn ∷ next ∷ rest) h = absurd h
answers_drier dry more within (Value on at workers) [] h = absurd h
answers_drier dry more within (Value on at workers) (turn ∷ rest) h =
    (h.0, follows_drier dry more within turn.0 turn.1.reply (map (λ (later : Placed). later.1.call) rest) h.1)

pub needed_append : (xs ys : List Line) → turns_needed (xs ++ ys) ≡ turns_needed xs + turns_needed ys
needed_append [] ys = omega arith
needed_append (x ∷ xs) ys = omega (arith, needed_append xs ys)

-- what the next line needs is there
pub needed_next : (xs : List Line) (i : ℕ) (d : Line) → i < length xs → turns_needed (take i xs) + turns_for (get_or xs i d) ≤ turns_needed xs
needed_next [] i d below = absurd (omega arith)
needed_next (x ∷ xs) zero d below = omega arith
needed_next (x ∷ xs) (suc i) d below = omega (arith, needed_next xs i d (omega arith))

take_within : (n : ℕ) (xs ys : List Entry) → n ≤ length xs → take n (xs ++ ys) ≡ take n xs
take_within zero xs ys short = refl
take_within (suc n) [] ys short = absurd (omega arith)
take_within (suc n) (x ∷ xs) ys short = ap (λ rest. x ∷ rest) (take_within n xs ys (omega arith))

-- what is reported of a line stays, however the history goes on
pub told_later : (opening : Opening) (history more : List Entry) (basis : List Dated) (one : AnsweredLine) (told : TranscriptLine)
    → one.first.0 < length history → IsTold opening history basis one told → IsTold opening (history ++ more) basis one told
told_later opening history more basis one told below is = record {
  lane = is.lane;
  line = is.line;
  turn = is.turn;
  outcome = subst (λ (before : List Entry). IsOutcome (commands_after opening before) basis one.line one.first.1.reply told.outcome)
      (sym (take_within one.first.0 history more (omega arith))) is.outcome;
}

pub same_opened : {O : Type 0} (a b : O) → Some a ≡ Some b → a ≡ b
same_opened a b e = cc

-- the next line has its turns
pub next_left : (asked : List Line) (i : ℕ) (d : Line) (left spent old : ℕ) → i < length asked → turns_needed asked ≤ old → left + spent ≡ old
    → spent ≤ turns_needed (take i asked) → turns_for (get_or asked i d) ≤ left
next_left asked i d left spent old below enough is few = omega (arith, needed_next asked i d below, enough, is, few)

outcomes : (basis : List Dated) (commands : List Command) (on : ℤ) (at : At) (workers : ℕ) (reply : Reply) (answer : Result (Box Valuation Global) ValueFault)
    → AnswersPin commands basis on Terminal reply (in_box answer) → IsOutcome commands basis (Value on at workers) reply (outcome_of answer)
outcomes basis commands on at workers (PinRefused refusal) (Err (Pin why)) h = ap PinRefused (sym h)
outcomes basis commands on at workers (PinRefused refusal) (Err (NoMemory lack)) h = absurd h
outcomes basis commands on at workers (PinRefused refusal) (Ok valuation) h = absurd h
outcomes basis commands on at workers (Pinned position policies) (Ok valuation) h = (position, (policies, refl, h))
outcomes basis commands on at workers (Pinned position policies) (Err (NoMemory lack)) h = (position, (policies, refl))
outcomes basis commands on at workers (Pinned position policies) (Err (Pin why)) h = absurd h
outcomes basis commands on at workers (Accepted n) answer h = absurd h
outcomes basis commands on at workers (Refused refusal) answer h = absurd h
outcomes basis commands on at workers (Faulted n) answer h = absurd h
outcomes basis commands on at workers (Slice policies) answer h = absurd h
outcomes basis commands on at workers Unpinned answer h = absurd h
outcomes basis commands on at workers (Floor n) answer h = absurd h
outcomes basis commands on at workers Blank answer h = absurd h

abbrev pub valued_line : ℕ → ℤ → At → ℕ → ℕ → Result (Box Valuation Global) ValueFault → TranscriptLine
valued_line number on at workers turn answer = record { lane = number; turn = turn; line = Value on at workers; outcome = outcome_of answer }

dry_same : (number : ℕ) (on : ℤ) (at : At) (workers turn : ℕ) (answer : Result (Box Valuation Global) ValueFault)
    → dry_of (valued_line number on at workers turn answer ∷ []) ≡ dry_pins turn (in_box answer)
dry_same number on at workers turn (Ok valuation) = refl
dry_same number on at workers turn (Err (Pin why)) = refl
dry_same number on at workers turn (Err (NoMemory lack)) = refl

-- a pin that is answered by a valuation may be answered by a refusal of memory
pinned_dry : (basis : List Dated) (commands : List Command) (on : ℤ) (reply : Reply) (valuation : Valuation)
    → AnswersPin commands basis on Terminal reply (Ok valuation) → AnswersPin commands basis on Terminal reply (Err (NoMemory a_refusal))
pinned_dry basis commands on (Pinned position policies) valuation h = tt
pinned_dry basis commands on (PinRefused refusal) valuation h = absurd h
pinned_dry basis commands on (Accepted n) valuation h = absurd h
pinned_dry basis commands on (Refused refusal) valuation h = absurd h
pinned_dry basis commands on (Faulted n) valuation h = absurd h
pinned_dry basis commands on (Slice policies) valuation h = absurd h
pinned_dry basis commands on Unpinned valuation h = absurd h
pinned_dry basis commands on (Floor n) valuation h = absurd h
pinned_dry basis commands on Blank valuation h = absurd h

-- what is in a box is an answer too
pub valued_boxed : {D W : Type 0} (basis : List Dated) (on : ℤ) (at : At) (workers turn : ℕ) (answer : Result Valuation ValueFault)
    (kept : Result (Box Valuation Global) ValueFault) (old new : Holding (OfficeOpening D W)) → IsBoxed answer kept
    → HasValued basis on Terminal at workers old new turn answer → HasValued basis on Terminal at workers old new turn (in_box kept)
valued_boxed basis on at workers turn (Err fault) kept old new is v =
    subst (λ (answer : Result (Box Valuation Global) ValueFault). HasValued basis on Terminal at workers old new turn (in_box answer)) (sym is) v
valued_boxed basis on at workers turn (Ok valuation) (Ok kept) old new is v =
    subst (λ (valued : Valuation). HasValued basis on Terminal at workers old new turn (Ok valued)) (sym is) v
valued_boxed basis on at workers turn (Ok valuation) (Err fault) old new is v =
    subst (λ (why : ValueFault). HasValued basis on Terminal at workers old new turn (Err why)) (sym is) (record {
      pin = v.pin;
      later = v.later;
      grows = v.grows;
      few = v.few;
      place = v.place;
      answers = answers_drier [] (turn ∷ []) (λ x is. absurd (omega (arith, is.1))) (Value on at workers) (v.pin ∷ v.later) v.answers;
      opened = v.opened;
      opening = v.opening;
      answered = pinned_dry basis (commands_after v.opened.opening (take turn new.seen)) on v.pin.1.reply valuation v.answered;
    })

module _ {D W : Type 0} (basis : List Dated) (number : ℕ) where
  -- no lines
  pub answered_none : (pass : Holding (OfficeOpening D W)) → PassFacts IsOfficeHistory pass → HasAnswered basis number [] pass pass []
  answered_none pass facts = record {
    answered = [];
    theirs = tt;
    asked = refl;
    grows = grows_none pass;
    few = omega arith;
    answers = tt;
    reached = tt;
    opened = facts.lawful.0;
    opening = facts.lawful.1;
    tells = tt;
  }

  -- some, and then some
  pub answered_more : (lines next : List Line) (old mid new : Holding (OfficeOpening D W)) (tolds more : List TranscriptLine)
      → HasAnswered basis number lines old mid tolds → HasAnswered basis number next mid new more
      → HasAnswered basis number (lines ++ next) old new (tolds ++ more)
  answered_more lines next old mid new tolds more first then = record {
    answered = first.answered ++ then.answered;
    theirs = all_append (λ (one : AnsweredLine). one.clerk ≡ number) first.answered then.answered first.theirs then.theirs;
    asked =
        map-append (λ (one : AnsweredLine). one.line) first.answered then.answered
        ∙ ap (λ (front : List Line). front ++ map (λ (one : AnsweredLine). one.line) then.answered) first.asked
        ∙ ap (λ (back : List Line). lines ++ back) then.asked;
    grows = subst (Grows old new) (sym turns) (grows_more old mid new (flat_map turns_in first.answered) (flat_map turns_in then.answered) first.grows then.grows);
    few =
        let both : length (flat_map turns_in (first.answered ++ then.answered)) ≡ length (flat_map turns_in first.answered) + length (flat_map turns_in then.answered)
        = ap length turns ∙ length-append (flat_map turns_in first.answered) (flat_map turns_in then.answered) in
        omega (arith, both, first.few, then.few, needed_append lines next);
    answers = all_append (λ (one : AnsweredLine). AnswersLine (dry_of (tolds ++ more)) one.line (turns_in one)) first.answered then.answered
        (all_weaker (λ (one : AnsweredLine). AnswersLine (dry_of tolds) one.line (turns_in one))
        (λ (one : AnsweredLine). AnswersLine (dry_of (tolds ++ more)) one.line (turns_in one))
        (λ one. answers_drier (dry_of tolds) (dry_of (tolds ++ more)) in_front one.line (turns_in one)) first.answered first.answers)
        (all_weaker (λ (one : AnsweredLine). AnswersLine (dry_of more) one.line (turns_in one))
        (λ (one : AnsweredLine). AnswersLine (dry_of (tolds ++ more)) one.line (turns_in one))
        (λ one. answers_drier (dry_of more) (dry_of (tolds ++ more)) in_back one.line (turns_in one)) then.answered then.answers);
    reached = all_append (λ (one : AnsweredLine). one.first.0 < length new.seen) first.answered then.answered
        (all_weaker (λ (one : AnsweredLine). one.first.0 < length mid.seen) (λ (one : AnsweredLine). one.first.0 < length new.seen)
        (λ one below. omega (arith, below, longer)) first.answered first.reached)
        then.reached;
    opened = then.opened;
    opening = then.opening;
    tells = zip_append (IsTold then.opened.opening new.seen basis) first.answered then.answered tolds more
        (zip_moved (λ (one : AnsweredLine). one.first.0 < length mid.seen) (IsTold first.opened.opening mid.seen basis)
        (IsTold then.opened.opening new.seen basis) moves first.answered tolds first.reached first.tells)
        then.tells;
  }
    where
      turns : flat_map turns_in (first.answered ++ then.answered) ≡ flat_map turns_in first.answered ++ flat_map turns_in then.answered
      turns = flat_map-append turns_in first.answered then.answered

      in_front : (x : ℕ) → Contains (dry_of tolds) x → Contains (dry_of (tolds ++ more)) x
      in_front x is = subst (λ (dry : List ℕ). Contains dry x) (sym (dry_append tolds more)) (Contains-append_left (dry_of tolds) (dry_of more) x is)

      in_back : (x : ℕ) → Contains (dry_of more) x → Contains (dry_of (tolds ++ more)) x
      in_back x is = subst (λ (dry : List ℕ). Contains dry x) (sym (dry_append tolds more)) (Contains-append_right (dry_of tolds) (dry_of more) x is)

      longer : length mid.seen ≤ length new.seen
      longer = let long : length new.seen ≡ length mid.seen + length then.grows.begins.0 = ap length then.grows.begins.1 ∙ length-append mid.seen then.grows.begins.0 in omega (arith, long)

      same : first.opened ≡ then.opened
      same = same_opened first.opened then.opened (sym first.opening ∙ sym then.grows.opening ∙ then.opening)

      moves : (one : AnsweredLine) (told : TranscriptLine) → one.first.0 < length mid.seen → IsTold first.opened.opening mid.seen basis one told
          → IsTold then.opened.opening new.seen basis one told
      moves one told below is =
          subst (λ (seen : List Entry). IsTold then.opened.opening seen basis one told) (sym then.grows.begins.1)
          (told_later then.opened.opening mid.seen then.grows.begins.0 basis one told below
          (subst (λ (opened : OfficeOpening D W). IsTold opened.opening mid.seen basis one told) same is))

  -- one more line
  pub answered_next : (asked : List Line) (i : ℕ) (d : Line) (old mid new : Holding (OfficeOpening D W)) (tolds more : List TranscriptLine) (told : TranscriptLine)
      → i < length asked → more ≡ tolds ++ told ∷ []
      → HasAnswered basis number (take i asked) old mid tolds → HasAnswered basis number (get_or asked i d ∷ []) mid new (told ∷ [])
      → HasAnswered basis number (take (i + 1) asked) old new more
  answered_next asked i d old mid new tolds more told below one_more so_far next =
      let place : i + 1 ≡ suc i = omega arith in
      let taken : take (i + 1) asked ≡ take i asked ++ get_or asked i d ∷ [] = ap (λ n. take n asked) place ∙ take-suc asked i d below in
      subst (λ (lines : List Line). HasAnswered basis number lines old new more) (sym taken)
      (subst (HasAnswered basis number (take i asked ++ get_or asked i d ∷ []) old new) (sym one_more)
      (answered_more (take i asked) (get_or asked i d ∷ []) old mid new tolds (told ∷ []) so_far next))

  turn_reached : (turn : ℕ) (entry : Entry) (old new : Holding (OfficeOpening D W)) → TakesTurn turn entry old new → turn < length new.seen
  turn_reached turn entry old new takes =
      let long : length new.seen ≡ length (old.seen ++ takes.between) + 1 =
      ap (λ (p : Holding (OfficeOpening D W)). length p.seen) takes.new_is ∙ length-append (old.seen ++ takes.between) (entry ∷ []) in
      omega (arith, long, takes.place)

  pub answered_post : (command : Command) (turn : ℕ) (answer : Answer) (old new : Holding (OfficeOpening D W)) → 1 ≤ old.left
      → TakesTurn turn (turn_of old.caller command answer) old new → PassFacts IsOfficeHistory new
      → HasAnswered basis number (Post command ∷ []) old new
      (record { lane = number; turn = turn; line = Post command; outcome = Posted answer } ∷ [])
  answered_post command turn answer old new some takes facts = record {
    answered = record { clerk = number; line = Post command; first = (turn, turn_of old.caller command answer); rest = [] } ∷ [];
    theirs = (refl, tt);
    asked = refl;
    grows = grows_one turn (turn_of old.caller command answer) old new some takes;
    few = omega arith;
    answers = (refl, tt);
    reached = (turn_reached turn (turn_of old.caller command answer) old new takes, tt);
    opened = facts.lawful.0;
    opening = facts.lawful.1;
    tells = (record { lane = refl; line = refl; turn = refl; outcome = refl }, tt);
  }

  pub answered_trim : (turn floor : ℕ) (old new : Holding (OfficeOpening D W)) → 1 ≤ old.left
      → TakesTurn turn (trim_turn old.caller floor) old new → PassFacts IsOfficeHistory new
      → HasAnswered basis number (Trim ∷ []) old new (record { lane = number; turn = turn; line = Trim; outcome = Trimmed floor } ∷ [])
  answered_trim turn floor old new some takes facts = record {
    answered = record { clerk = number; line = Trim; first = (turn, trim_turn old.caller floor); rest = [] } ∷ [];
    theirs = (refl, tt);
    asked = refl;
    grows = grows_one turn (trim_turn old.caller floor) old new some takes;
    few = omega arith;
    answers = (refl, tt);
    reached = (turn_reached turn (trim_turn old.caller floor) old new takes, tt);
    opened = facts.lawful.0;
    opening = facts.lawful.1;
    tells = (record { lane = refl; line = refl; turn = refl; outcome = refl }, tt);
  }

  pub answered_value : (on : ℤ) (at : At) (workers turn : ℕ) (answer : Result (Box Valuation Global) ValueFault) (old new : Holding (OfficeOpening D W))
      → HasValued basis on Terminal at workers old new turn (in_box answer)
      → HasAnswered basis number (Value on at workers ∷ []) old new (valued_line number on at workers turn answer ∷ [])
  answered_value on at workers turn answer old new v = record {
    answered = record { clerk = number; line = Value on at workers; first = v.pin; rest = v.later } ∷ [];
    theirs = (refl, tt);
    asked = refl;
    grows = subst (Grows old new) (sym (append-nil (v.pin ∷ v.later))) v.grows;
    few =
        let same : length ((v.pin ∷ v.later) ++ []) ≡ length (v.pin ∷ v.later) = ap length (append-nil (v.pin ∷ v.later)) in
        omega (arith, same, v.few);
    answers = (subst (λ (dry : List ℕ). AnswersLine dry (Value on at workers) (v.pin ∷ v.later)) (sym (dry_same number on at workers turn answer)) v.answers, tt);
    reached = (
      (all_later (λ (turn : Placed). turn.0 < length new.seen) (turns_of old.seen old.caller) (v.pin ∷ v.later)
          (subst (AllByRecursion (λ (turn : Placed). turn.0 < length new.seen)) v.grows.turns (turns_inside new.seen old.caller))).0,
      tt,
    );
    opened = v.opened;
    opening = v.opening;
    tells = (
      record {
        lane = refl;
        line = refl;
        turn = sym v.place;
        outcome = subst (λ n. IsOutcome (commands_after v.opened.opening (take n new.seen)) basis (Value on at workers) v.pin.1.reply (outcome_of answer)) (sym v.place)
            (outcomes basis (commands_after v.opened.opening (take turn new.seen)) on at workers v.pin.1.reply answer v.answered);
      },
      tt,
    );
  }
