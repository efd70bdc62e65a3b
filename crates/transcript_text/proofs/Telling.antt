-- What is reported of the lanes that were run, against the history of their office
use Rattle.transcript_text.proofs.Names.{◌≡◌, ◌⊎◌, ℕ, ◌+◌, ◌-◌, ◌==◌, Bool, true, false, List, [], ◌∷◌, ◌++◌, length, map, take, Some, refl, ap, sym, ◌∙◌, subst, inl, inr, arith, slice_get, AllByRecursion, AllZip, Contains, enumerate_from, eq-eqb, Dated, Command, Call, PostCall, Entry, Reply, Faulted, Line, AreRising, IsDue, accepted_of, commands_after, AnsweredLine, turns_in, HasAnsweredLanes, IsOutcome, IsToldOf, dry_of, lacked_memory, TranscriptLine, Has, all_has, any_none, any_some, contains_of_has, has_at, has_enumerate, has_filter, has_map, has_of_contains, of_all, of_enumerate, of_filter, of_map, parted, zip_left, zip_right, same_opened, IsLineText, accepted_lines, any_faulted, any_lacked, has_faulted, lacks_memory, tells_accepted, told_text}
use Rattle.policy_types.specs.declared.script.Line.TheVariants.{Post}
use Rattle.policy_types.specs.declared.script.Lane.{Lane}
use Rattle.policy_machine.specs.Merge.{AnswersLine, IsMerge, Placed}
use Rattle.shared_office.specs.Offices.{IsOfficeHistory, OfficeOpening}
use Rattle.turn_lock.specs.History.{entries_of}
use Rattle.turn_lock.specs.Passes.{Holding, IsFirst, OwnsAll, Page, PassFacts, callers as numbers_of}
use Rattle.lane_runner.specs.declared.transcript.Transcript.{Transcript}
use Rattle.program_endings.specs.Replies.{ArePins, HaveAFault}
use Rattle.program_endings.proofs.ReplyNames.{HasBlank, IsAnswered, IsPinned, IsUnfaulted}
use Rattle.program_endings.proofs.TurnSteps.{due_at, posted_first, posts, quiet_reply, unfaulted_if_answered}
use Rattle.transcript_text.specs.Lanes.{AreScriptLanes}
use Rattle.transcript_text.proofs.AcceptedSteps.{accepted_in_all, accepted_told, accepted_upto, accepted_turns, accepts, enumerated, has_turns, is_acceptance, posting_told, posts_accepted}
use Rattle.transcript_text.proofs.PlaceSteps.{has_places, of_places, places}
use Rattle.transcript_text.proofs.TextSteps.{texts_of}
use Rattle.transcript_text.proofs.ToldSteps.{line_turn, turn_line, page_numbers, lacked_pin, told_fault, told_unfaulted, told_answered, lacked_which, not_lacked, told_blank, post_call}

-- what is known of lanes that were run, once their office is closed
pub record Telling {D W : Type 0} (basis : List Dated) (lanes : List Lane) (closing : Holding (OfficeOpening D W)) (transcript : Transcript)
    (opened : OfficeOpening D W) (shown : List AnsweredLine) : Type 0 where
  pub opening : closing.opening ≡ Some opened
  pub history : IsOfficeHistory opened closing.seen
  pub merge : IsMerge closing.seen lanes transcript.callers (dry_of transcript.lines)
  pub told : AllZip (IsToldOf opened.opening closing.seen basis) shown transcript.lines
  pub tells : AllZip (IsLineText opened.opening closing.seen basis (dry_of transcript.lines)) shown (map told_text transcript.lines)
  pub pins : ArePins closing.seen (dry_of transcript.lines)
  pub none_dry : any_lacked transcript.lines ≡ false → dry_of transcript.lines ≡ []
  pub some_lacked : any_lacked transcript.lines ≡ true → HasBlank closing.seen ⊎ ((pin : ℕ) × Contains (dry_of transcript.lines) pin)
  pub in_order : (before after : List TranscriptLine) (line : TranscriptLine) → transcript.lines ≡ before ++ line ∷ after
      → accepted_of (take (line.turn + 1) closing.seen) ≡ take (accepted_lines (before ++ line ∷ [])) (accepted_of closing.seen)
  pub all_accepted : accepted_lines transcript.lines ≡ length (accepted_of closing.seen)
  pub fault : any_faulted transcript.lines ≡ true → HaveAFault closing.seen
  pub unfaulted : any_faulted transcript.lines ≡ false → AllByRecursion (λ (entry : Entry). IsUnfaulted entry.reply) closing.seen
  pub answered : any_faulted transcript.lines ≡ false → any_lacked transcript.lines ≡ false
      → AllByRecursion (λ (entry : Entry). IsAnswered entry.reply) closing.seen

module _ {D W : Type 0} (basis : List Dated) (lanes : List Lane) (first closing : Holding (OfficeOpening D W)) (transcript : Transcript)
    (opened : OfficeOpening D W) (ran : HasAnsweredLanes basis lanes first closing transcript) (is_first : IsFirst opened first)
    (facts : PassFacts IsOfficeHistory closing) (whole : OwnsAll closing) (script : AreScriptLanes lanes) where
  abbrev history : List Entry
  history = closing.seen

  abbrev dry : List ℕ
  dry = dry_of transcript.lines

  closing_opened : closing.opening ≡ Some opened
  closing_opened = ran.pass.opening ∙ is_first.opened

  is_history : IsOfficeHistory opened closing.seen
  is_history =
      let lawful = facts.lawful in
      let same : lawful.0 ≡ opened = same_opened lawful.0 opened (sym lawful.1 ∙ closing_opened) in
      subst (λ (o : OfficeOpening D W). IsOfficeHistory o closing.seen) same lawful.2

  told : AllZip (IsToldOf opened.opening closing.seen basis) ran.answered transcript.lines
  told =
      let same : ran.opened ≡ opened = same_opened ran.opened opened (sym ran.opening ∙ closing_opened) in
      subst (λ (o : OfficeOpening D W). AllZip (IsToldOf o.opening closing.seen basis) ran.answered transcript.lines) same ran.told

  all_callers : numbers_of closing ≡ 0 ∷ transcript.callers
  all_callers =
      let number : closing.caller ≡ 0 = ran.pass.caller ∙ is_first.caller in
      let ended : closing.ended ≡ map (λ n. (n, entries_of closing.seen n)) transcript.callers =
      ran.pass.ended ∙ ap (λ (ps : List Page). ps ++ map (λ n. (n, entries_of closing.seen n)) transcript.callers) is_first.ended in
      let numbers : map (λ (page : Page). page.0) closing.ended ≡ transcript.callers =
      ap (map (λ (page : Page). page.0)) ended ∙ page_numbers closing.seen transcript.callers in
      λ i. number i ∷ numbers i

  none_own : entries_of closing.seen 0 ≡ []
  none_own =
      subst (λ n. entries_of closing.seen n ≡ []) is_first.caller
      (ran.pass.own ∙ ap (λ (es : List Entry). entries_of es first.caller) is_first.seen)

  theirs : (entry : Entry) → Has closing.seen entry → Has transcript.callers entry.caller
  theirs entry has = by among
    where
      among : Has (0 ∷ transcript.callers) entry.caller
      among = has_of_contains (0 ∷ transcript.callers) entry.caller
          (subst (λ (ns : List ℕ). Contains ns entry.caller) all_callers (of_all (λ (e : Entry). Contains (numbers_of closing) e.caller) closing.seen entry whole has))

      by : Has (0 ∷ transcript.callers) entry.caller → Has transcript.callers entry.caller
      by (inl same) = absurd (subst (λ (es : List Entry). Has es entry) none_own
          (has_filter (λ (e : Entry). e.caller == 0) closing.seen entry (eq-eqb entry.caller 0 (sym same)) has))
      by (inr later) = later

  merge : IsMerge closing.seen lanes transcript.callers dry
  merge = record {
    distinct = ran.pass.distinct;
    theirs = all_has (λ (entry : Entry). Contains transcript.callers entry.caller) closing.seen
        (λ entry has. contains_of_has transcript.callers entry.caller (theirs entry has));
    answers = ran.answers;
  }

  clerk_of : (one : AnsweredLine) → Has ran.answered one → Has (map (λ (lane : Lane). lane.number) lanes) one.clerk
  clerk_of one has = has_of_contains (map (λ (lane : Lane). lane.number) lanes) one.clerk
      (of_all (λ (one : AnsweredLine). Contains (map (λ (lane : Lane). lane.number) lanes) one.clerk) ran.answered one ran.lines.clerks has)

  placed : (one : AnsweredLine) → Has ran.answered one → slice_get closing.seen one.first.0 ≡ Some one.first.1
  placed one has =
      let by_caller = line_turn ran.answered closing.seen lanes transcript.callers one one.first ran.lines.each (clerk_of one has) has (inl refl) in
      let kept = of_filter (λ (turn : Placed). turn.1.caller == by_caller.0) (enumerate_from 0 closing.seen) one.first by_caller.1 in
      let there = of_enumerate 0 closing.seen one.first.0 one.first.1 kept.0 in
      let none : one.first.0 - 0 ≡ one.first.0 = omega arith in
      subst (λ k. slice_get closing.seen k ≡ Some one.first.1) none there.1

  answers : (one : AnsweredLine) → Has ran.answered one → AnswersLine dry one.line (one.first ∷ one.rest)
  answers one has = of_all (λ (one : AnsweredLine). AnswersLine dry one.line (turns_in one)) ran.answered one ran.lines.turns has

  due : (k : ℕ) (entry : Entry) → slice_get closing.seen k ≡ Some entry → IsDue opened.opening (take k closing.seen) entry.caller entry.call entry.reply
  due k entry there = due_at opened.opening [] closing.seen k entry is_history.legal.due there

  tells : AllZip (IsLineText opened.opening closing.seen basis dry) ran.answered (map told_text transcript.lines)
  tells = texts_of opened.opening closing.seen basis dry ran.answered transcript.lines told ran.dry

  pins : ArePins closing.seen dry
  pins = all_has (λ (n : ℕ). (entry : Entry) × (slice_get closing.seen n ≡ Some entry) × IsPinned entry.reply) dry one_pin
    where
      one_pin : (n : ℕ) → Has dry n → (entry : Entry) × (slice_get closing.seen n ≡ Some entry) × IsPinned entry.reply
      one_pin n has =
          let from = of_map (λ (line : TranscriptLine). line.turn) _ n has in
          let kept = of_filter (λ (line : TranscriptLine). lacked_memory line.outcome) transcript.lines from.0 from.1 in
          let pair = zip_right (IsToldOf opened.opening closing.seen basis) ran.answered transcript.lines from.0 told kept.0 in
          let one = pair.0 in
          let place : one.first.0 ≡ n = sym pair.2.turn ∙ from.2 in (
            one.first.1,
            subst (λ k. slice_get closing.seen k ≡ Some one.first.1) place (placed one pair.1),
            lacked_pin one.line one.first.1.reply from.0.outcome (commands_after opened.opening (take one.first.0 closing.seen)) basis pair.2.outcome kept.1,
          )

  -- the endings
  none_dry : any_lacked transcript.lines ≡ false → dry ≡ []
  none_dry none = by transcript.lines (any_none (λ (line : TranscriptLine). lacks_memory line.outcome) transcript.lines none)
    where
      by : (lines : List TranscriptLine) → AllByRecursion (λ (line : TranscriptLine). lacks_memory line.outcome ≡ false) lines → dry_of lines ≡ []
      by [] none = refl
      by (line ∷ lines) none = rw (not_lacked line.outcome none.0) (by lines none.1)

  some_lacked : any_lacked transcript.lines ≡ true → HasBlank closing.seen ⊎ ((pin : ℕ) × Contains dry pin)
  some_lacked some =
      let line = any_some (λ (line : TranscriptLine). lacks_memory line.outcome) transcript.lines some in
      let pair = zip_right (IsToldOf opened.opening closing.seen basis) ran.answered transcript.lines line.0 told line.1 in
      let one = pair.0 in
      elim (lacked_which line.0.outcome line.2) [
        | inl posted ↦ inl (
          one.first.0,
          (
            one.first.1,
            placed one pair.1,
            told_blank one.line one.first.1.reply (commands_after opened.opening (take one.first.0 closing.seen)) basis
                (subst (IsOutcome (commands_after opened.opening (take one.first.0 closing.seen)) basis one.line one.first.1.reply) posted pair.2.outcome),
          ),
        )
        | inr valued ↦
            let kept = has_filter (λ (line : TranscriptLine). lacked_memory line.outcome) transcript.lines line.0 valued line.1 in
            inr (line.0.turn, contains_of_has dry line.0.turn (has_map (λ (line : TranscriptLine). line.turn) _ line.0 kept))
      ]

  a_fault : any_faulted transcript.lines ≡ true → HaveAFault closing.seen
  a_fault some =
      let line = any_some (λ (line : TranscriptLine). has_faulted line.outcome) transcript.lines some in
      let pair = zip_right (IsToldOf opened.opening closing.seen basis) ran.answered transcript.lines line.0 told line.1 in
      let one = pair.0 in
      let fault = told_fault one.line one.first.1.reply line.0.outcome (commands_after opened.opening (take one.first.0 closing.seen)) basis pair.2.outcome line.2 in
      let there = placed one pair.1 in
      let parts = parted closing.seen one.first.0 one.first.1 there in
      let call = post_call dry one.line one.first one.rest fault.0 (answers one pair.1) fault.1.1 in
      let entry : one.first.1 ≡ record { caller = one.first.1.caller; call = PostCall fault.0; reply = Faulted fault.1.0 } =
      ap (λ (c : Call). let made : Entry = record { caller = one.first.1.caller; call = c; reply = one.first.1.reply } in made) call
      ∙ ap (λ (r : Reply). let made : Entry = record { caller = one.first.1.caller; call = PostCall fault.0; reply = r } in made) fault.1.2 in (
        accepted_of (take one.first.0 closing.seen),
        (
          fault.0,
          record {
            before = take one.first.0 closing.seen;
            caller = one.first.1.caller;
            count = fault.1.0;
            after = parts.0;
            turns = parts.1 ∙ ap (λ (e : Entry). take one.first.0 closing.seen ++ e ∷ parts.0) entry;
            then = refl;
          },
        ),
      )

  -- what holds of every reply to another call, and of what is reported of every posting, holds of all replies
  each_reply : (P : Reply → Type 0) → ((reply : Reply) → IsAnswered reply → P reply)
      → ((command : Command) (reply : Reply) (line : TranscriptLine) (commands : List Command) → Has transcript.lines line
      → IsOutcome commands basis (Post command) reply line.outcome → P reply)
      → AllByRecursion (λ (entry : Entry). P entry.reply) closing.seen
  each_reply P others postings = all_has (λ (entry : Entry). P entry.reply) closing.seen (λ entry has. one entry has (posts entry.call) refl)
    where
      one : (entry : Entry) → Has closing.seen entry → (b : Bool) → posts entry.call ≡ b → P entry.reply
      one entry has false quiet =
          let place = has_enumerate 0 closing.seen entry has in
          let there = of_enumerate 0 closing.seen place.0 entry place.1 in
          others entry.reply
          (quiet_reply opened.opening (take (place.0 - 0) closing.seen) entry.caller entry.call entry.reply (due (place.0 - 0) entry there.1) quiet)
      one entry has true posted =
          let place = has_enumerate 0 closing.seen entry has in
          let of_line = turn_line ran.answered closing.seen lanes transcript.callers place.0 entry ran.lines.each (theirs entry has) place.1 in
          let line = of_line.0 in
          let is_first_turn = posted_first dry line.line line.first line.rest (place.0, entry) (answers line of_line.1) of_line.2 posted in
          let same : line.first.1 ≡ entry = ap (λ (t : Placed). t.1) is_first_turn.0 in
          let pair = zip_left (IsToldOf opened.opening closing.seen basis) ran.answered transcript.lines line told of_line.1 in
          let commands = commands_after opened.opening (take line.first.0 closing.seen) in
          let outcome = subst (λ (l : Line). IsOutcome commands basis l line.first.1.reply pair.0.outcome) is_first_turn.1.1 pair.2.outcome in
          let here = subst (λ (e : Entry). IsOutcome commands basis (Post is_first_turn.1.0) e.reply pair.0.outcome) same outcome in
          postings is_first_turn.1.0 entry.reply pair.0 commands pair.1 here

  unfaulted : any_faulted transcript.lines ≡ false → AllByRecursion (λ (entry : Entry). IsUnfaulted entry.reply) closing.seen
  unfaulted whole =
      let none = any_none (λ (l : TranscriptLine). has_faulted l.outcome) transcript.lines whole in
      each_reply IsUnfaulted unfaulted_if_answered
      (λ command reply line commands has is. told_unfaulted command reply line.outcome commands basis is
      (of_all (λ (l : TranscriptLine). has_faulted l.outcome ≡ false) transcript.lines line none has))

  answered : any_faulted transcript.lines ≡ false → any_lacked transcript.lines ≡ false
      → AllByRecursion (λ (entry : Entry). IsAnswered entry.reply) closing.seen
  answered whole found =
      let none = any_none (λ (l : TranscriptLine). has_faulted l.outcome) transcript.lines whole in
      let none_lacked = any_none (λ (l : TranscriptLine). lacks_memory l.outcome) transcript.lines found in
      each_reply IsAnswered (λ reply is. is)
      (λ command reply line commands has is. told_answered command reply line.outcome commands basis is
      (of_all (λ (l : TranscriptLine). has_faulted l.outcome ≡ false) transcript.lines line none has)
      (of_all (λ (l : TranscriptLine). lacks_memory l.outcome ≡ false) transcript.lines line none_lacked has))

  -- the turn of a line that is said to be accepted was an accepted posting
  told_place : (line : TranscriptLine) → Has transcript.lines line → tells_accepted line.outcome ≡ true → Has (places accepts 0 closing.seen) line.turn
  told_place line has is =
      let pair = zip_right (IsToldOf opened.opening closing.seen basis) ran.answered transcript.lines line told has in
      let one = pair.0 in
      let commands = commands_after opened.opening (take one.first.0 closing.seen) in
      let posting = posting_told one.line one.first.1.reply line.outcome commands basis pair.2.outcome is in
      let call = post_call dry one.line one.first one.rest posting.0 (answers one pair.1) posting.1 in
      let outcome = subst (λ (l : Line). IsOutcome commands basis l one.first.1.reply line.outcome) posting.1 pair.2.outcome in
      let accepted : accepts one.first.1 ≡ true =
      ap (λ (c : Call). is_acceptance c one.first.1.reply) call ∙ accepted_told posting.0 one.first.1.reply line.outcome commands basis outcome ∙ is in
      let place : 0 + one.first.0 ≡ line.turn = (let turn = pair.2.turn in omega (arith, turn)) in
      subst (λ (n : ℕ). Has (places accepts 0 closing.seen) n) place
      (has_places accepts 0 closing.seen one.first.0 one.first.1 (placed one pair.1) accepted)

  -- and each of these is reported
  place_told : (n : ℕ) → Has (places accepts 0 closing.seen) n → Has (accepted_turns transcript.lines) n
  place_told n has =
      let found = of_places accepts 0 closing.seen n has in
      let entry = found.2.0 in
      let command = posts_accepted entry.call entry.reply found.2.2 in
      let posted : posts entry.call ≡ true = ap posts command.1 in
      let place : 0 + found.0 ≡ n = sym found.1 in
      let among = subst (λ (k : ℕ). Has (enumerate_from 0 closing.seen) (k, entry)) place (enumerated 0 closing.seen found.0 entry found.2.1) in
      let of_line = turn_line ran.answered closing.seen lanes transcript.callers n entry ran.lines.each (theirs entry (has_at closing.seen found.0 entry found.2.1)) among in
      let line = of_line.0 in
      let first = posted_first dry line.line line.first line.rest (n, entry) (answers line of_line.1) of_line.2 posted in
      let pair = zip_left (IsToldOf opened.opening closing.seen basis) ran.answered transcript.lines line told of_line.1 in
      let commands = commands_after opened.opening (take line.first.0 closing.seen) in
      let same : line.first.1 ≡ entry = ap (λ (t : Placed). t.1) first.0 in
      let outcome = subst (λ (l : Line). IsOutcome commands basis l line.first.1.reply pair.0.outcome) first.1.1 pair.2.outcome in
      let here = subst (λ (e : Entry). IsOutcome commands basis (Post first.1.0) e.reply pair.0.outcome) same outcome in
      let accepted : tells_accepted pair.0.outcome ≡ true =
      sym (accepted_told first.1.0 entry.reply pair.0.outcome commands basis here)
      ∙ ap (λ (c : Call). is_acceptance c entry.reply) (sym (sym (ap (λ (e : Entry). e.call) same) ∙ post_call dry line.line line.first line.rest first.1.0 (answers line of_line.1) first.1.1))
      ∙ found.2.2 in
      subst (λ (k : ℕ). Has (accepted_turns transcript.lines) k) (pair.2.turn ∙ ap (λ (t : Placed). t.0) first.0)
      (has_turns transcript.lines pair.0 pair.1 accepted)

  -- the lines' turns are those of the answered lines
  same_turns : (ones : List AnsweredLine) (lines : List TranscriptLine) → AllZip (IsToldOf opened.opening closing.seen basis) ones lines
      → map (λ (one : AnsweredLine). one.first.0) ones ≡ map (λ (line : TranscriptLine). line.turn) lines
  same_turns [] [] all = refl
  same_turns [] (line ∷ lines) all = absurd all
  same_turns (one ∷ ones) [] all = absurd all
  same_turns (one ∷ ones) (line ∷ lines) all = let rest = same_turns ones lines all.1 in let first = sym all.0.turn in λ i. first i ∷ rest i

  rising : AreRising (map (λ (line : TranscriptLine). line.turn) transcript.lines)
  rising = subst AreRising (same_turns ran.answered transcript.lines told) ran.lines.rising

  pub telling : Telling basis lanes closing transcript opened ran.answered
  telling = record {
    in_order = accepted_upto closing.seen transcript.lines rising told_place place_told;
    all_accepted = accepted_in_all closing.seen transcript.lines rising told_place place_told;
    opening = closing_opened;
    history = is_history;
    merge = merge;
    told = told;
    tells = tells;
    pins = pins;
    none_dry = none_dry;
    some_lacked = some_lacked;
    fault = a_fault;
    unfaulted = unfaulted;
    answered = answered;
  }
