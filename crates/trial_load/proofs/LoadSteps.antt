-- How a load ends, by what its parts did
use Rattle.trial_load.proofs.Names.{◌≡◌, ℕ, Bool, true, false, cond, List, [], ◌∷◌, ◌++◌, length, map, take, Some, Result, Ok, Err, refl, ap, sym, ◌∙◌, subst, inl, inr, arith, append-nil, append_assoc, Option, slice_get, if◌then◌else◌, AllByRecursion, AllZip, Contains, filter_map-append, sum_by-append, Dated, Command, PostCall, PinCall, Entry, Faulted, Line, Lane, Opening, IsDue, IsLegal, IsLegalAfter, accepted_by, accepted_of, commands_after, opened_on, AnswersLine, Terminal, HasValued, IsValueAnswer, IsValuedRow, dry_pins, Valuation, AnsweredLine, turns_in, lines_in, HasAnsweredLanes, IsOutcome, IsTold, dry_of, lacked_memory, TranscriptLine, IsValidPosting, Ending, Done, BadJournal, WriteFault, DiskFault, NoMemory, Stream, WroteAll, Has, all_and, all_has, has_of_contains, of_all, zip_right, same_opened, none_accepted, unfaulted_if_answered, EndsLoading, HasLine, IsLoadOf, is_refusal, load_day, load_text, refused_in, AreLoadLanes, EndsLine, EndsLoaded, IsLoadAnswer, WrotePart, AreLinesOf}
use Rattle.watcher_set.specs.Evidence.{a_lack}
use Rattle.memory_requests.specs.Evidence.{a_refusal}
use Rattle.outside_io.specs.Faults.{Rose}
use Rattle.outside_io.specs.declared.disks.Disk.{Ghosts}
use Rattle.policy_types.specs.Accounts.{Booking}
use Rattle.policy_types.specs.declared.entry.At.TheVariants.{Now}
use Rattle.policy_types.specs.declared.watcher.Report.{Report}
use Rattle.policy_machine.specs.Book.{book}
use Rattle.policy_value.specs.declared.worth.Row.{Row}
use Rattle.watcher_set.specs.declared.watching.Watching.{Ghosts as WatcherGhosts}
use Rattle.office_state.specs.declared.faults.StartCause.{StartCause}
use Rattle.office_state.specs.declared.faults.StartCause.TheVariants.{DiskFault as FaultyDisk, NotAJournal, BadRecord, NoMemory as NoRoom}
use Rattle.office_state.specs.Images.{IsLeftBy}
use Rattle.office_state.specs.Opening.{HasNotOpened}
use Rattle.shared_office.specs.Offices.{IsOfficeHistory, OfficeOpening}
use Rattle.office_state.specs.States.{MomentRing}
use Rattle.shared_office.specs.Starting.{HasClosed, HasStartedOffice}
use Rattle.snapshot_value.specs.declared.valuation.ValueFault.{ValueFault}
use Rattle.snapshot_value.specs.declared.valuation.ValueFault.TheVariants.{Pin as NoPin, NoMemory as NoValues}
use Rattle.turn_lock.specs.History.{entries_of}
use Rattle.turn_lock.specs.Passes.{Holding, Page, PassFacts, callers as numbers_of}
use Rattle.lane_runner.specs.declared.transcript.Transcript.{Transcript}
use Rattle.program_endings.specs.Replies.{AreAnswered, ArePins, HaveAFault, LackMemory}
use Rattle.program_endings.proofs.ReplyNames.{HasBlank, IsAnswered, IsUnfaulted}
use Rattle.program_endings.specs.Refusals.{SaysUnopened}
use Rattle.program_endings.proofs.FaultSteps.{rose_in}
use Rattle.program_endings.proofs.ReadOnlySteps.{no_office}
use Rattle.lane_runner.specs.Tallies.{accepted_lines, any_faulted, any_lacked, refused_lines}
use Rattle.transcript_text.proofs.Telling.{Telling, telling}
use Rattle.transcript_text.proofs.ToldSteps.{page_numbers}
use Rattle.trial_load.proofs.LoadCounts.{accepted_is, only_turn, refused_is}
use Rattle.trial_load.proofs.LoadPins.{entries_post, not_full}
use Rattle.trial_load.proofs.LoadTurns.{IsBehind, is_behind, same_line}
use Rattle.trial_load.proofs.LoadAnswers.{legal_back, legal_front, line_in, answered_turns, none_refused, in_front, pinned_if_dry, refused_pin, AreLastRows, last_rows, posting_found, none_dry_of}

-- An office ran lanes, valued its policies then, and was closed.
module _ {D W : Type 0} (g : Ghosts D) (w : WatcherGhosts W) (old disk : D) (lanes : List Lane) (workers turn : ℕ) (basis : List Dated) (watchers : W)
    (first mid closing : Holding (OfficeOpening D W)) (balances : Booking) (reports : List Report) (transcript : Transcript)
    (answer : Result Valuation ValueFault) (started : HasStartedOffice g old watchers first) (ran : HasAnsweredLanes basis lanes first mid transcript)
    (before : PassFacts IsOfficeHistory mid) (valued : HasValued basis load_day Terminal Now workers mid closing turn answer)
    (facts : PassFacts IsOfficeHistory closing) {outlet : Option MomentRing} (closed : HasClosed g w closing disk balances reports outlet) (right : AreLoadLanes lanes) where
  abbrev opened : OfficeOpening D W
  opened = record { opening = started.opening; begun = old; held = started.held; watchers = watchers; outlet = started.outlet }

  mid_opened : mid.opening ≡ Some opened
  mid_opened = ran.pass.opening ∙ started.first.opened

  own : mid.caller ≡ 0
  own = ran.pass.caller ∙ started.first.caller

  numbers : numbers_of mid ≡ 0 ∷ transcript.callers
  numbers =
      let ended : mid.ended ≡ map (λ n. (n, entries_of mid.seen n)) transcript.callers =
      ran.pass.ended ∙ ap (λ (ps : List Page). ps ++ map (λ n. (n, entries_of mid.seen n)) transcript.callers) started.first.ended in
      let callers : map (λ (page : Page). page.0) mid.ended ≡ transcript.callers =
      ap (map (λ (page : Page). page.0)) ended ∙ page_numbers mid.seen transcript.callers in
      λ i. own i ∷ callers i

  unturned : entries_of mid.seen 0 ≡ []
  unturned =
      subst (λ n. entries_of mid.seen n ≡ []) started.first.caller
      (ran.pass.own ∙ ap (λ (es : List Entry). entries_of es first.caller) started.first.seen)

  behind : IsBehind basis workers turn mid closing answer transcript.callers opened
  behind = is_behind basis workers turn mid closing answer transcript.callers opened valued mid_opened own numbers before facts closed.whole unturned

  all_told : Telling basis lanes mid transcript opened ran.answered
  all_told = telling basis lanes first mid transcript opened ran started.first before behind.whole right.script

  abbrev opening : Opening
  opening = opened_on started.opening.commands (g.faults old)

  left : IsLeftBy g old disk opening closing.seen
  left =
      let same : closed.opening ≡ opened = same_opened closed.opening opened (sym closed.opened ∙ behind.opening) in
      let whole : IsLeftBy g old disk started.opening closing.seen =
      subst (λ (o : OfficeOpening D W). IsLeftBy g o.begun disk o.opening closing.seen) same closed.disk in
      subst (λ (n : ℕ). IsLeftBy g old disk (opened_on started.opening.commands n) closing.seen) started.faults whole

  legal : IsLegal opening closing.seen
  legal = subst (λ (n : ℕ). IsLegal (opened_on started.opening.commands n) closing.seen) started.faults behind.history.legal

  -- the valuation accepts and refuses nothing
  same_accepted : accepted_of closing.seen ≡ accepted_of mid.seen
  same_accepted =
      ap accepted_of behind.seen ∙ filter_map-append (λ (entry : Entry). accepted_by entry.call entry.reply) mid.seen behind.rest
      ∙ ap (λ more. accepted_of mid.seen ++ more) (none_accepted behind.rest behind.postless) ∙ append-nil (accepted_of mid.seen)

  same_refused : refused_in closing.seen ≡ refused_in mid.seen
  same_refused =
      let size : Entry → ℕ = λ (entry : Entry). cond (is_refusal entry.call entry.reply) 1 0 in
      let parts = ap refused_in behind.seen ∙ sum_by-append size mid.seen behind.rest in
      let none = none_refused behind.rest behind.postless in
      omega (arith, parts, none)

  theirs : (entry : Entry) → Has mid.seen entry → Has transcript.callers entry.caller
  theirs entry has = has_of_contains transcript.callers entry.caller
      (of_all (λ (e : Entry). Contains transcript.callers e.caller) mid.seen entry all_told.merge.theirs has)

  postings : (one : AnsweredLine) → Has ran.answered one → IsValidPosting one.line
  postings one has =
      of_all IsValidPosting (lines_in lanes) one.line right.postings
      (line_in ran.answered mid.seen lanes transcript.callers one ran.lines.each
      (has_of_contains (map (λ (lane : Lane). lane.number) lanes) one.clerk
      (of_all (λ (one : AnsweredLine). Contains (map (λ (lane : Lane). lane.number) lanes) one.clerk) ran.answered one ran.lines.clerks has)) has)

  text_is : (rows : List Row) → load_text (accepted_lines transcript.lines) (refused_lines transcript.lines) rows
      ≡ load_text (length (accepted_of closing.seen)) (refused_in closing.seen) rows
  text_is rows =
      let accepted = accepted_is ran.opened.opening mid.seen basis lanes transcript.callers (dry_of transcript.lines) ran.answered transcript.lines ran.lines ran.told
      right.script.right.rising ran.pass.distinct theirs postings in
      let refused = refused_is ran.opened.opening mid.seen basis lanes transcript.callers (dry_of transcript.lines) ran.answered transcript.lines ran.lines ran.told
      right.script.right.rising ran.pass.distinct theirs postings in
      let all_accepted : accepted_lines transcript.lines ≡ length (accepted_of closing.seen) = sym accepted ∙ sym (ap (λ (cs : List Command). length cs) same_accepted) in
      let all_refused : refused_lines transcript.lines ≡ refused_in closing.seen = sym refused ∙ sym same_refused in
      ap (λ n. load_text n (refused_lines transcript.lines) rows) all_accepted ∙ ap (λ n. load_text (length (accepted_of closing.seen)) n rows) all_refused

  pins : ArePins closing.seen (dry_pins turn answer)
  pins = by answer behind.answered
    where
      by : (given : Result Valuation ValueFault) → IsValueAnswer (commands_after opened.opening mid.seen) basis load_day Terminal behind.pin.reply given
          → ArePins closing.seen (dry_pins turn given)
      by (Ok valuation) is = tt
      by (Err (NoPin refusal)) is = tt
      by (Err (NoValues lack)) is =
          ((behind.pin, behind.pin_there, pinned_if_dry (commands_after opened.opening mid.seen) basis behind.pin.reply is), tt)

  answered : AreLinesOf ran.answered mid.seen lanes transcript.callers (dry_pins turn answer)
  answered = record {
    rising = ran.lines.rising;
    clerks = ran.lines.clerks;
    turns = all_has (λ (one : AnsweredLine). AnswersLine (dry_pins turn answer) one.line (turns_in one)) ran.answered
        (λ one has. same_line (dry_of transcript.lines) (dry_pins turn answer) one.line (turns_in one) (postings one has)
        (of_all (λ (one : AnsweredLine). AnswersLine (dry_of transcript.lines) one.line (turns_in one)) ran.answered one ran.lines.turns has));
    each = ran.lines.each;
  }

  load_of : (Tells : Opening → List Entry → List ℕ → Type 0) → Tells opening closing.seen (dry_pins turn answer)
      → IsLoadOf g old disk lanes workers Tells
  load_of Tells tells = record {
    commands = started.opening.commands;
    callers = transcript.callers;
    valuer = 0;
    dry = dry_pins turn answer;
    postings = mid.seen;
    valuation = behind.rest;
    opened = left.opened;
    lines = ran.answered;
    distinct = behind.distinct;
    theirs = all_told.merge.theirs;
    answered = answered;
    behind = behind.own;
    values = behind.values;
    legal = subst (IsLegal opening) behind.seen legal;
    pins = subst (λ (h : List Entry). ArePins h (dry_pins turn answer)) behind.seen pins;
    tells = subst (λ (h : List Entry). Tells opening h (dry_pins turn answer)) behind.seen tells;
    disk = subst (IsLeftBy g old disk opening) behind.seen left;
  }

  -- replies of all turns, by those of the lanes
  whole_from : (P : Entry → Type 0) → AllByRecursion P mid.seen → AllByRecursion P behind.rest → AllByRecursion P closing.seen
  whole_from P front back = subst (AllByRecursion P) (sym behind.seen) (all_and P mid.seen behind.rest front back)

  rest_answered : AllByRecursion (λ (entry : Entry). IsAnswered entry.reply) behind.rest
  rest_answered =
      answered_turns started.opening mid.seen behind.rest
      (legal_back started.opening [] mid.seen behind.rest (subst (IsLegalAfter started.opening []) behind.seen behind.history.legal.due)) behind.postless

  all_answered : any_faulted transcript.lines ≡ false → any_lacked transcript.lines ≡ false
      → AllByRecursion (λ (entry : Entry). IsAnswered entry.reply) closing.seen
  all_answered whole found = whole_from (λ (entry : Entry). IsAnswered entry.reply) (all_told.answered whole found) rest_answered

  all_unfaulted : any_faulted transcript.lines ≡ false → AllByRecursion (λ (entry : Entry). IsUnfaulted entry.reply) closing.seen
  all_unfaulted whole =
      whole_from (λ (entry : Entry). IsUnfaulted entry.reply) (all_told.unfaulted whole)
      (all_has (λ (entry : Entry). IsUnfaulted entry.reply) behind.rest (λ entry has. unfaulted_if_answered entry.reply
      (of_all (λ (e : Entry). IsAnswered e.reply) behind.rest entry rest_answered has)))

  a_fault : any_faulted transcript.lines ≡ true → HaveAFault closing.seen
  a_fault some =
      let fault = all_told.fault some in
      let there = fault.1.1 in
      let entry : Entry = record { caller = there.caller; call = PostCall fault.1.0; reply = Faulted there.count } in (
        fault.0,
        (
          fault.1.0,
          record {
            before = there.before;
            caller = there.caller;
            count = there.count;
            after = there.after ++ behind.rest;
            turns = behind.seen ∙ ap (λ (h : List Entry). h ++ behind.rest) there.turns ∙ append_assoc there.before (entry ∷ there.after) behind.rest;
            then = there.then;
          },
        ),
      )

  -- the lanes have no valuations
  no_dry : dry_of transcript.lines ≡ []
  no_dry = none_dry_of transcript.lines (all_has (λ (line : TranscriptLine). lacked_memory line.outcome ≡ false) transcript.lines one)
    where
      one : (line : TranscriptLine) → Has transcript.lines line → lacked_memory line.outcome ≡ false
      one line has =
          let pair = zip_right (IsTold ran.opened.opening mid.seen basis) ran.answered transcript.lines line ran.told has in
          let this = pair.0 in
          let commands : List Command = commands_after ran.opened.opening (take this.first.0 mid.seen) in
          let answers = of_all (λ (answered : AnsweredLine). AnswersLine (dry_of transcript.lines) answered.line (turns_in answered)) ran.answered this ran.lines.turns pair.1 in
          let turn = only_turn (dry_of transcript.lines) this.line this.first this.rest (postings this pair.1) answers in
          posting_found turn.1.0 this.first.1.reply line.outcome commands basis
          (subst (λ (l : Line). IsOutcome commands basis l this.first.1.reply line.outcome) turn.1.1 pair.2.outcome)

  a_blank : any_lacked transcript.lines ≡ true → HasBlank closing.seen
  a_blank some = elim (all_told.some_lacked some) [
    | inl blank ↦ (
      blank.0,
      (
        blank.1.0,
        subst (λ (h : List Entry). slice_get h blank.0 ≡ Some blank.1.0) (sym behind.seen) (in_front mid.seen behind.rest blank.0 blank.1.0 blank.1.1),
        blank.1.2,
      ),
    )
    | inr dry ↦ absurd (none_in (dry.0) (subst (λ (ns : List ℕ). Contains ns dry.0) no_dry dry.1))
  ]
    where
      none_in : (n : ℕ) → Contains [] n → ⊥
      none_in n within = let below = within.1 in omega (arith, below)

  -- the valuation found memory
  module _ (valuation : Valuation) (found : answer ≡ Ok valuation) where
    last : AreLastRows (commands_after opened.opening mid.seen) basis valuation
    last = last_rows opened.opening mid.seen behind.pin.caller basis behind.pin.reply valuation behind.due
        (subst (IsValueAnswer (commands_after opened.opening mid.seen) basis load_day Terminal behind.pin.reply) found behind.answered)

    line_of : (Wrote : List ℕ → Type 0) (Replies : List Entry → List ℕ → Type 0)
        → Wrote (load_text (accepted_lines transcript.lines) (refused_lines transcript.lines) valuation.rows)
        → Replies closing.seen (dry_pins turn answer) → IsLoadOf g old disk lanes workers (HasLine basis Wrote Replies)
    line_of Wrote Replies wrote replies = load_of (HasLine basis Wrote Replies) (record {
      rows = valuation.rows;
      each = subst (λ (cs : List Command). AllZip (IsValuedRow basis load_day Terminal) (book (started.opening.commands ++ cs)) valuation.rows) (sym same_accepted) last.each;
      wrote = subst Wrote (text_is valuation.rows) wrote;
      found = ap (dry_pins turn) found;
      replies = replies;
    })

    ends_line : (output : Stream) (ending : Ending) → EndsLine transcript.lines valuation.rows output ending
        → EndsLoading g old disk lanes workers basis output ending
    ends_line output Done ends = line_of (WroteAll output) AreAnswered ends.2 (all_answered ends.0 ends.1, ap (dry_pins turn) found)
    ends_line output WriteFault ends = line_of (WrotePart output) (λ history dry. Unit {0}) ends tt
    ends_line output DiskFault ends =
        let fault = a_fault ends.0 in
        let rose = rose_in opening closing.seen fault.0 fault.1.0 legal.due fault.1.1 in
        inr (subst (Rose (g.faults old)) (sym left.faults) rose, line_of (WroteAll output) (λ history dry. HaveAFault history) ends.1 fault)
    ends_line output (NoMemory lack) (inl unwritten) = inr (inl (load_of (λ opening history dry. WroteAll output []) unwritten))
    ends_line output (NoMemory lack) (inr short) =
        inr (inr (line_of (WroteAll output) LackMemory short.2 (all_unfaulted short.0, inl (a_blank short.1))))
    ends_line output _ ends = absurd ends

  mid_legal : IsLegalAfter started.opening [] mid.seen
  mid_legal = legal_front started.opening [] mid.seen behind.rest (subst (IsLegalAfter started.opening []) behind.seen behind.history.legal.due)

  pub load_answer : IsLoadAnswer answer
  load_answer = by answer refl
    where
      by : (given : Result Valuation ValueFault) → answer ≡ given → IsLoadAnswer given
      by (Ok valuation) is = (last valuation is).writable
      by (Err (NoValues lack)) is = tt
      by (Err (NoPin refusal)) is =
          let said = subst (IsValueAnswer (commands_after opened.opening mid.seen) basis load_day Terminal behind.pin.reply) is behind.answered in
          let refused = refused_pin (commands_after opened.opening mid.seen) basis behind.pin.reply refusal said in
          not_full started.opening mid.seen behind.pin.caller refused.0 mid_legal
          (λ entry has. entries_post (dry_of transcript.lines) mid.seen lanes transcript.callers right.postings ran.answers entry has (theirs entry has))
          (subst (IsDue started.opening mid.seen behind.pin.caller PinCall) refused.1 behind.due)

  pub ends_loaded : (output : Stream) (ending : Ending) → EndsLoaded transcript.lines answer output ending
      → EndsLoading g old disk lanes workers basis output ending
  ends_loaded output ending ends = by answer refl ending ends
    where
      by : (given : Result Valuation ValueFault) → answer ≡ given → (ending : Ending) → EndsLoaded transcript.lines given output ending
          → EndsLoading g old disk lanes workers basis output ending
      by (Ok valuation) is ending ends = ends_line valuation is output ending ends
      by (Err (NoValues lack)) is (NoMemory other_lack) ends = inr (inl (load_of (λ opening history dry. WroteAll output []) ends))
      by (Err (NoValues lack)) is _ ends = absurd ends
      by (Err (NoPin refusal)) is ending ends = absurd ends

-- if there was no memory to run the lanes, nothing was turned
pub ends_unrun : {D W : Type 0} (g : Ghosts D) (w : WatcherGhosts W) (old disk : D) (lanes : List Lane) (workers : ℕ) (basis : List Dated) (watchers : W)
    (first closing : Holding (OfficeOpening D W)) (balances : Booking) (reports : List Report) (output : Stream)
    → HasStartedOffice g old watchers first → {outlet : Option MomentRing} → HasClosed g w closing disk balances reports outlet → closing ≡ first
    → SaysUnopened (NoRoom a_refusal) output (NoMemory a_lack) → EndsLoading g old disk lanes workers basis output (NoMemory a_lack)
ends_unrun {D = D} {W = W} g w old disk lanes workers basis watchers first closing balances reports output started closed same said =
    let opened : OfficeOpening D W = record { opening = started.opening; begun = old; held = started.held; watchers = watchers; outlet = started.outlet } in
    let is : closing.opening ≡ Some opened = ap (λ (p : Holding (OfficeOpening D W)). p.opening) same ∙ started.first.opened in
    let none : closing.seen ≡ [] = ap (λ (p : Holding (OfficeOpening D W)). p.seen) same ∙ started.first.seen in
    let one : closed.opening ≡ opened = same_opened closed.opening opened (sym closed.opened ∙ is) in
    let whole : IsLeftBy g old disk started.opening closing.seen =
    subst (λ (o : OfficeOpening D W). IsLeftBy g o.begun disk o.opening closing.seen) one closed.disk in
    let left : IsLeftBy g old disk (opened_on started.opening.commands (g.faults old)) [] =
    subst (IsLeftBy g old disk (opened_on started.opening.commands (g.faults old))) none
    (subst (λ (n : ℕ). IsLeftBy g old disk (opened_on started.opening.commands n) closing.seen) started.faults whole) in
    inl ((said, left.faults), left.alone tt)

-- and where no office was opened
pub ends_unbegun : {D : Type 0} (g : Ghosts D) (old new : D) (lanes : List Lane) (workers : ℕ) (basis : List Dated)
    (output : Stream) (cause : StartCause) (ending : Ending) → HasNotOpened g old new cause → SaysUnopened cause output ending
    → EndsLoading g old new lanes workers basis output ending
ends_unbegun g old new lanes workers basis output (FaultyDisk count) DiskFault not said = inl (no_office g old new output (FaultyDisk count) DiskFault not said)
ends_unbegun g old new lanes workers basis output NotAJournal BadJournal not said = no_office g old new output NotAJournal BadJournal not said
ends_unbegun g old new lanes workers basis output (BadRecord n) BadJournal not said = no_office g old new output (BadRecord n) BadJournal not said
ends_unbegun g old new lanes workers basis output (BadRecord n) (NoMemory lack) not said = inl (no_office g old new output (BadRecord n) (NoMemory lack) not said)
ends_unbegun g old new lanes workers basis output (NoRoom lack) (NoMemory other_lack) not said =
    inl (no_office g old new output (NoRoom lack) (NoMemory other_lack) not said)
ends_unbegun g old new lanes workers basis output _ _ not said = absurd said

-- a line that is written whole ends a load by what is reported of its lines
by_lines : (lines : List TranscriptLine) (rows : List Row) (output : Stream) (faulted lacked : Bool) → any_faulted lines ≡ faulted → any_lacked lines ≡ lacked
    → WroteAll output (load_text (accepted_lines lines) (refused_lines lines) rows)
    → EndsLine lines rows output (if faulted then DiskFault else if lacked then (NoMemory a_lack) else Done)
by_lines lines rows output true lacked failed short wrote = (failed, wrote)
by_lines lines rows output false true whole short wrote = inr (whole, short, wrote)
by_lines lines rows output false false whole found wrote = (whole, found, wrote)

pub ends_as_told : (lines : List TranscriptLine) (rows : List Row) (output : Stream) (ending : Ending)
    → ending ≡ (if any_faulted lines then DiskFault else if any_lacked lines then (NoMemory a_lack) else Done)
    → WroteAll output (load_text (accepted_lines lines) (refused_lines lines) rows) → EndsLine lines rows output ending
ends_as_told lines rows output ending is wrote =
    subst (EndsLine lines rows output) (sym is) (by_lines lines rows output (any_faulted lines) (any_lacked lines) refl refl wrote)
