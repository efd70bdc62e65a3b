-- The promise refuses what wrong programs would leave of the worked run.
use Rattle.life_app.proofs.Names.{le-leb, puts, untorn, file_reads, writes_within, spelling_of, IsJournal, ◌≡◌, ◌≢◌, ◌<◌, ℕ, ℤ, Option, Bool, true, List, [], ◌∷◌, ◌++◌, length, take, get_or, refl, ap, ap₂, sym, ◌∙◌, subst, inl, inr, lit≤, lit<, arith, append-nil, codes, Some, None, digits, AllByRecursion, AllZip, ◌==◌, Command, Entry, Reply, Accepted, Faulted, Refused, Blank, accepted_of, fault_of, opened_on, reports_of, run_wording, posting_text, IsToldText, IsToldLine, IsPromised, IsEnclosingRow, Row, WasFaulted, table_reserves, Opens, opens_to_one, shown_opens_to_none, hand_issue, hand_premium, NotAJournal, BadRecord, Rose, Ending, Done, NoMemory, BadJournal, DiskFault, WriteFault, BadBasis, BadScript, ReadFault, status_of, EndsUnread, EndsNoBasis, EndsNoOffice, WroteAll, WroteAsEnded, Stream, TakenPiece, called, CalledDisk, cut_disk, cut_file, last_disk, looked_disk, both_commands, given_script, premium_lanes, premium_script, premium_text, output_of, shelf_that_told, two_auditors}
use Rattle.std.specs.Prelude.{◌||◌, nat_le}
use Rattle.std.specs.List.{Contains, concat}
use Rattle.basis_shelf.specs.FirstBad.{IsFirstBadFile}
use Rattle.basis_shelf.specs.declared.fault.BadBasis.{BadBasis as ABadBasis}
use Rattle.basis_shelf.specs.declared.fault.BasisWord.TheVariants.{Absent}
use Rattle.basis_shelf.proofs.OneBasis.{one_first_bad}
use Rattle.lane_runner.specs.AnsweredLines.{AnsweredLine}
use Rattle.office_state.specs.Journals.{IsShown}
use Rattle.office_state.specs.declared.faults.StartCause.{StartCause}
use Rattle.outside_io.specs.Shelves.{Files}
use Rattle.policy_machine.specs.History.{IsDue, IsLegalAfter}
use Rattle.policy_machine.specs.Merge.{Placed}
use Rattle.policy_types.specs.declared.entry.Call.{Call}
use Rattle.policy_types.specs.declared.entry.Call.TheVariants.{Post}
use Rattle.policy_types.specs.declared.policy.Policy.{Policy}
use Rattle.policy_types.specs.declared.script.Line.{Line}
use Rattle.policy_types.specs.declared.script.Line.TheVariants.{Post as PostLine}
use Rattle.program_endings.specs.Refusals.{SaysWhy}
use Rattle.program_endings.specs.Replies.{AreAnswered}
use Rattle.program_endings.specs.Writing.{GaveAll}
use Rattle.script_run.specs.Script.{IsRefused}
use Rattle.script_run.specs.Shown.{AreSafeWhenShown}
use Rattle.script_run.proofs.ScriptStatus.{never_long, never_readable}
use Rattle.life_app.specs.WorkedRun.Refused.{Admits, CausesByHand, ForgedByHand, TruthByHand, answered_by, longer_text, output_at, premium_turn_by, remade_disk, unanswered_text, unmaking}
use Rattle.life_app.proofs.WorkedRun.Due.{none_failed}
use Rattle.life_app.proofs.WorkedRun.Calls.{both_true, looks_allowed, posted_within, reads}
use Rattle.life_app.proofs.WorkedRun.First.{cut, honest_last, journal_of_issue, premium_size}
use Rattle.life_app.proofs.WorkedRun.OneLine.{IsOneLine, IsOneTurn, answered_once, one_turn}
use Rattle.life_app.proofs.WorkedRun.Promise.{no_unrun, not_both, one_alone, reads_premium, staged_file, still_staged}
use Rattle.life_app.proofs.WorkedRun.Row.{honest_looked, legal_second}

-- ---- what may stand in the place of a transcript

gave : GaveAll given_script premium_script
gave = record { given = refl; ended = tt; left = tt; end = tt }

never_refused : (output : Stream) → IsRefused given_script output → ⊥
never_refused output (inl long) = never_long given_script premium_script premium_lanes gave (lit≤ tt, reads_premium) long.0
never_refused output (inr bad) =
    never_readable given_script premium_script bad.0 premium_lanes gave (lit≤ tt, reads_premium) (inr (bad.1.given, bad.1.ended))
    (inr (bad.3.0, (bad.3.1.0, bad.3.1.1)))

-- if all files are absent, so is the basis; if all are empty, no file is absent
no_file : List ℕ → ABadBasis
no_file name = record { name = name; place = 0; word = Absent }

all_empty : List ℕ → Option (List ℕ)
all_empty name = Some []

not_absent : (name : List ℕ) → IsFirstBadFile all_empty name (no_file name) → ⊥
unfolding no_file all_empty
not_absent name (inl book) = let never = book.1.0 in cc
not_absent name (inr (rows, named, row)) = let never = row.wrong.0 in cc

never_bad : (name : List ℕ) (bad : ABadBasis) → ((files : Files) → IsFirstBadFile files name bad) → ⊥
unfolding no_file
never_bad name bad each =
    let none : Files = λ other. None in
    let same : bad ≡ no_file name = one_first_bad none name bad (no_file name) (each none) (inl (refl, (refl, refl))) in
    not_absent name (subst (λ (b : ABadBasis). IsFirstBadFile all_empty name b) same (each all_empty))

-- the cut file opens
pub opens_cut : Opens cut_file (hand_issue ∷ [])
opens_cut = inl (journal_of_issue cut_file cut)

never_shown : (cause : StartCause) (output : Stream) → SaysWhy cause output → IsShown cut_file cause → ⊥
never_shown NotAJournal output says shown = shown_opens_to_none cut_file NotAJournal tt shown (hand_issue ∷ []) opens_cut
never_shown (BadRecord n) output says shown = shown_opens_to_none cut_file (BadRecord n) tt shown (hand_issue ∷ []) opens_cut
never_shown _ output says shown = says

module _ (new : CalledDisk) (output : Stream) where
  -- what the endings ask for that this run may have at all
  abbrev Asks : Ending → Type 0
  Asks Done = Unit {0}
  Asks BadJournal = called.honest new → ⊥
  Asks WriteFault = Rose output.faults_before output.faults_after
  Asks DiskFault = Rose 0 (called.faults new)
  Asks (NoMemory lack) = Unit {0}
  Asks _ = ⊥

  unread_asks : (ending : Ending) → EndsUnread given_script output ending → Asks ending
  unread_asks BadScript says = never_refused output says
  unread_asks ReadFault says = none_failed says.0
  unread_asks (NoMemory lack) says = tt
  unread_asks _ says = absurd says

  unbased_asks : (ending : Ending) → EndsNoBasis (codes "basis.csv") (shelf_that_told []) output ending → Asks ending
  unbased_asks BadBasis says = never_bad (codes "basis.csv") says.0 (λ files. says.1 files tt)
  unbased_asks ReadFault says = none_failed says.0
  unbased_asks (NoMemory lack) says = tt
  unbased_asks _ says = absurd says

  unopened_asks : (ending : Ending) → EndsNoOffice called cut_disk new output ending → Asks ending
  unopened_asks BadJournal says = λ honest. never_shown says.0 output says.1 (says.2 honest)
  unopened_asks DiskFault says = says.1
  unopened_asks (NoMemory lack) says = tt
  unopened_asks _ says = absurd says

  wrote_asks : (history : List Entry) (dry : List ℕ) (texts : List (List ℕ)) (reports : List ℕ) (ending : Ending)
      → WroteAsEnded called cut_disk new history dry texts reports output ending → Asks ending
  wrote_asks history dry texts reports Done wrote = tt
  wrote_asks history dry texts reports DiskFault wrote = wrote.2
  wrote_asks history dry texts reports WriteFault wrote = wrote.0
  wrote_asks history dry texts reports (NoMemory lack) wrote = tt
  wrote_asks history dry texts reports _ wrote = absurd wrote

  asks : (status : ℕ) → Admits new output status → (ending : Ending) × (status ≡ status_of ending) × Asks ending
  asks status (inl is) = (is.ending, is.exits, wrote_asks is.history is.dry is.texts _ is.ending is.wrote)
  asks status (inr is) = (
    is.ending,
    is.exits,
    elim is.says [
      | inl says ↦ unread_asks is.ending says
      | inr (inl says) ↦ unbased_asks is.ending says
      | inr (inr says) ↦ unopened_asks is.ending says
    ],
  )

  -- none of the others has one of these statuses
  abbrev is_other : ℕ → Bool
  is_other status = (status == 2) || (status == 3) || (status == 4) || (status == 6) || (status == 10)

  at_other : (ending : Ending) → Asks ending → is_other (status_of ending) ≡ true → ⊥
  at_other Done is other = cc
  at_other BadJournal is other = cc
  at_other WriteFault is other = cc
  at_other DiskFault is other = cc
  at_other (NoMemory lack) is other = cc
  at_other _ is other = is

  never_ends : (status : ℕ) → is_other status ≡ true → Admits new output status → ⊥
  never_ends status other admits =
      let found = asks status admits in
      at_other found.0 found.2 (subst (λ (s : ℕ). is_other s ≡ true) found.1 other)

  at_five : (ending : Ending) → Asks ending → 5 ≡ status_of ending → called.honest new → ⊥
  at_five Done is same = cc
  at_five BadJournal is same = is
  at_five WriteFault is same = cc
  at_five DiskFault is same = cc
  at_five (NoMemory lack) is same = cc
  at_five _ is same = absurd is

  at_seven : (ending : Ending) → Asks ending → 7 ≡ status_of ending → Rose output.faults_before output.faults_after
  at_seven Done is same = cc
  at_seven BadJournal is same = cc
  at_seven WriteFault is same = is
  at_seven DiskFault is same = cc
  at_seven (NoMemory lack) is same = cc
  at_seven _ is same = absurd is

  at_eight : (ending : Ending) → Asks ending → 8 ≡ status_of ending → Rose 0 (called.faults new)
  at_eight Done is same = cc
  at_eight BadJournal is same = cc
  at_eight WriteFault is same = cc
  at_eight DiskFault is same = is
  at_eight (NoMemory lack) is same = cc
  at_eight _ is same = absurd is

  no_bad_journal : called.honest new → Admits new output 5 → ⊥
  no_bad_journal honest admits = let found = asks 5 admits in at_five found.0 found.2 found.1 honest

  output_rose : Admits new output 7 → Rose output.faults_before output.faults_after
  output_rose admits = let found = asks 7 admits in at_seven found.0 found.2 found.1

  disk_rose : Admits new output 8 → Rose 0 (called.faults new)
  disk_rose admits = let found = asks 8 admits in at_eight found.0 found.2 found.1

pub causes_by_hand : CausesByHand
causes_by_hand = (
  λ new output. never_ends new output 2 refl,
  λ new output. never_ends new output 3 refl,
  λ new output. never_ends new output 4 refl,
  λ new output. never_ends new output 6 refl,
  λ new output. never_ends new output 10 refl,
  no_bad_journal,
  λ new bytes admits. none_failed (output_rose new (output_of bytes) admits),
  λ output admits. none_failed (disk_rose looked_disk output admits),
  λ output admits. none_failed (disk_rose last_disk output admits),
)

-- ---- its answer

-- the premium is due, so a posting that is answered is accepted
accepted : (caller : ℕ) (reply : Reply) → IsDue (opened_on (hand_issue ∷ []) 0) [] caller (Post hand_premium) reply
    → fault_of reply ≡ None → reply ≢ Blank → reply ≡ Accepted 2
accepted caller (Refused refusal) due unfailed filled = let no = sym legal_second.due.0.0 ∙ due in cc
accepted caller (Accepted position) due unfailed filled = ap (λ (n : ℕ). Accepted n) due.1
accepted caller (Faulted count) due unfailed filled = cc
accepted caller Blank due unfailed filled = absurd (filled refl)
accepted caller _ due unfailed filled = absurd due

abbrev turn_by : ℕ → Call → Reply → Entry
turn_by caller call reply = record { caller = caller; call = call; reply = reply }

abbrev placed_by : ℕ → Call → Reply → Placed
placed_by caller call reply = (0, turn_by caller call reply)

abbrev line_with : ℕ → Line → Placed → List Placed → AnsweredLine
line_with clerk line first rest = record { clerk = clerk; line = line; first = first; rest = rest }

made : (clerk other : ℕ) (line another : Line) (first placed : Placed) (rest more : List Placed) → clerk ≡ other → line ≡ another
    → first ≡ placed → rest ≡ more → line_with clerk line first rest ≡ line_with other another placed more
made clerk other line another first placed rest more a b c d = cc

told_so : (IsRow : ℤ → Policy → Row → Type 0) (clerk : ℕ) (line : Line) (reply : Reply) (commands : List Command) (IsDry : Type 0) (text : List ℕ)
    → IsToldText run_wording IsRow clerk line reply commands IsDry text → clerk ≡ 1 → line ≡ PostLine hand_premium → reply ≡ Accepted 2
    → text ≡ posting_text 1 hand_premium (Accepted 2)
told_so IsRow clerk line reply commands IsDry text is one posts so =
    subst (λ (l : Line). IsToldText run_wording IsRow clerk l reply commands IsDry text) posts is
    ∙ ap₂ (λ (c : ℕ) (r : Reply). posting_text c hand_premium r) one so

one_text : (IsRow : ℤ → Policy → Row → Type 0) (commands : List Command) (history : List Entry) (dry : List ℕ) (line : AnsweredLine)
    (texts : List (List ℕ)) → AllZip (IsToldLine run_wording IsRow commands history dry) (line ∷ []) texts → line.clerk ≡ 1
    → line.line ≡ PostLine hand_premium → line.first.1.reply ≡ Accepted 2 → texts ≡ posting_text 1 hand_premium (Accepted 2) ∷ []
one_text IsRow commands history dry line [] told one posts so = absurd told
one_text IsRow commands history dry line (text ∷ []) told one posts so =
    ap (λ (t : List ℕ). t ∷ []) (told_so IsRow line.clerk line.line line.first.1.reply (commands ++ accepted_of (take line.first.0 history))
    (Contains dry line.first.0) text told.0 one posts so)
one_text IsRow commands history dry line (text ∷ other ∷ texts) told one posts so = absurd told.1

written : concat (posting_text 1 hand_premium (Accepted 2) ∷ []) ++ run_wording.reports (reports_of two_auditors (hand_premium ∷ [])) ≡ premium_text
unfolding digits
written = refl

spelled : posting_text 1 hand_premium (Accepted 2) ≡ codes "1,premium,7001,accepted,2" ++ 10 ∷ []
unfolding digits
spelled = refl

-- with 0 all is written and answered
pub all_written : (new : CalledDisk) (history : List Entry) (dry : List ℕ) (texts : List (List ℕ)) (reports : List ℕ) (output : Stream)
    (ending : Ending) → 0 ≡ status_of ending → WroteAsEnded called cut_disk new history dry texts reports output ending
    → WroteAll output (concat texts ++ reports) × AreAnswered history dry
all_written new history dry texts reports output Done same wrote = wrote
all_written new history dry texts reports output DiskFault same wrote = cc
all_written new history dry texts reports output WriteFault same wrote = cc
all_written new history dry texts reports output (NoMemory lack) same wrote = cc
all_written new history dry texts reports output _ same wrote = absurd wrote

module _ (new : CalledDisk) (output : Stream)
    (is : IsPromised called Opens run_wording table_reserves cut_disk new premium_lanes [] two_auditors output 0) (honest : called.honest new) where
  commands_are : is.commands ≡ hand_issue ∷ []
  commands_are = opens_to_one cut_file is.commands (hand_issue ∷ []) (is.opened honest) opens_cut

  one : IsOneLine (PostLine hand_premium) is.dry is.lines is.history
  one = answered_once (PostLine hand_premium) is.dry is.history is.lines is.callers is.answered is.theirs

  turn : IsOneTurn hand_premium one.line.first one.line.rest is.history
  turn = one_turn hand_premium is.dry one.line.first one.line.rest is.history one.answers one.turns

  wrote : WroteAll output (concat is.texts ++ run_wording.reports (reports_of two_auditors (accepted_of is.history))) × AreAnswered is.history is.dry
  wrote = all_written new is.history is.dry is.texts (run_wording.reports (reports_of two_auditors (accepted_of is.history))) output is.ending is.exits is.wrote

  reply_is : turn.entry.reply ≡ Accepted 2
  reply_is =
      let due = subst (λ (h : List Entry). IsLegalAfter (opened_on is.commands 0) [] h) turn.only is.legal.due in
      let posted = subst (λ (c : Call). IsDue (opened_on is.commands 0) [] turn.entry.caller c turn.entry.reply) turn.call due.0 in
      let opened = subst (λ (cs : List Command). IsDue (opened_on cs 0) [] turn.entry.caller (Post hand_premium) turn.entry.reply) commands_are posted in
      let answered = subst (λ (h : List Entry). AllByRecursion (λ (entry : Entry). (fault_of entry.reply ≡ None) × (entry.reply ≢ Blank)) h) turn.only wrote.1.0 in
      accepted turn.entry.caller turn.entry.reply opened answered.0.0 answered.0.1

  history_is : is.history ≡ turn_by turn.entry.caller (Post hand_premium) (Accepted 2) ∷ []
  history_is = turn.only ∙ ap₂ (λ (c : Call) (r : Reply). turn_by turn.entry.caller c r ∷ []) turn.call reply_is

  accepted_is : accepted_of is.history ≡ hand_premium ∷ []
  accepted_is = ap (λ (h : List Entry). accepted_of h) history_is

  first_reply : one.line.first.1.reply ≡ Accepted 2
  first_reply = ap (λ (placed : Placed). placed.1.reply) turn.first ∙ reply_is

  texts_are : is.texts ≡ posting_text 1 hand_premium (Accepted 2) ∷ []
  texts_are = one_text (IsEnclosingRow table_reserves []) is.commands is.history is.dry one.line is.texts
      (subst (λ (ls : List AnsweredLine). AllZip (IsToldLine run_wording (IsEnclosingRow table_reserves []) is.commands is.history is.dry) ls is.texts) one.only is.told)
      one.clerk one.asks first_reply

  wrote_transcript : WroteAll output premium_text
  wrote_transcript = subst (λ (bytes : List ℕ). WroteAll output bytes)
      (ap₂ (λ (ts : List (List ℕ)) (cs : List Command). concat ts ++ run_wording.reports (reports_of two_auditors cs)) texts_are accepted_is ∙ written)
      wrote.0

  never_faulted : (held : List Command) (command : Command) → WasFaulted is.history held command → ⊥
  never_faulted held command was =
      let same = ap (λ (entry : Entry). entry.reply) (one_alone _ _ was.before was.after (sym history_is ∙ was.turns)) in
      cc

  holds_both : (image : List ℕ) → called.may_leave new image → Opens image both_commands
  holds_both image left = elim (is.now honest image left) [
    | inl opens ↦ subst (λ (cs : List Command). Opens image cs) (ap₂ (λ (a b : List Command). a ++ b) commands_are accepted_is) opens
    | inr (command, was, opens) ↦ absurd (never_faulted (accepted_of is.history) command was)
  ]

  caller : ℕ
  caller = turn.entry.caller

  line_is : one.line ≡ answered_by caller
  unfolding caller
  line_is = made one.line.clerk 1 one.line.line (PostLine hand_premium) one.line.first (placed_by caller (Post hand_premium) (Accepted 2))
      one.line.rest [] one.clerk one.asks (turn.first ∙ ap₂ (λ (c : Call) (r : Reply). placed_by caller c r) turn.call reply_is) turn.alone

  -- the pieces that were handed on, and that they were so once both are safe
  handed_on : (run : List TakenPiece) × (output.pieces_after ≡ run ++ output.pieces_before)
      × AreSafeWhenShown called Opens new (hand_issue ∷ []) (premium_turn_by caller ∷ []) (answered_by caller ∷ [])
      ((codes "1,premium,7001,accepted,2" ++ 10 ∷ []) ∷ []) run
  unfolding caller
  handed_on =
      let shown = is.shown honest in
      let opened = subst (λ (cs : List Command). AreSafeWhenShown called Opens new cs is.history is.lines is.texts shown.0) commands_are shown.2 in
      let answered = subst (λ (h : List Entry). AreSafeWhenShown called Opens new (hand_issue ∷ []) h is.lines is.texts shown.0) history_is opened in
      let asked = subst (λ (ls : List AnsweredLine). AreSafeWhenShown called Opens new (hand_issue ∷ []) (premium_turn_by caller ∷ []) ls is.texts shown.0)
      (one.only ∙ ap (λ (l : AnsweredLine). l ∷ []) line_is) answered in
      let told = subst (λ (ts : List (List ℕ)). AreSafeWhenShown called Opens new (hand_issue ∷ []) (premium_turn_by caller ∷ []) (answered_by caller ∷ []) ts shown.0)
      (texts_are ∙ ap (λ (t : List ℕ). t ∷ []) spelled) asked in
      (shown.0, shown.1, told)

pub truth_by_hand : TruthByHand
truth_by_hand = λ new output is honest.
    (wrote_transcript new output is honest, holds_both new output is honest, (caller new output is honest, handed_on new output is honest))

-- ---- so with 0 no other is admitted

promised : (new : CalledDisk) (output : Stream) → Admits new output 0
    → IsPromised called Opens run_wording table_reserves cut_disk new premium_lanes [] two_auditors output 0
promised new output (inl is) = is
promised new output (inr is) = absurd (no_unrun new output (codes "basis.csv") given_script (shelf_that_told []) is)

unanswered : Admits last_disk (output_of unanswered_text) 0 → ⊥
unanswered admits =
    let same : unanswered_text ≡ premium_text = wrote_transcript last_disk (output_of unanswered_text) (promised last_disk (output_of unanswered_text) admits) honest_last in
    let letter : 110 ≡ 97 = ap (λ (text : List ℕ). get_or text 15 0) same in
    omega (arith, letter)

longer : Admits last_disk (output_of longer_text) 0 → ⊥
longer admits =
    let same : longer_text ≡ premium_text = wrote_transcript last_disk (output_of longer_text) (promised last_disk (output_of longer_text) admits) honest_last in
    let letter : 49 ≡ 0 = ap (λ (text : List ℕ). get_or text 58 0) same in
    omega (arith, letter)

unposted : Admits looked_disk (output_of premium_text) 0 → ⊥
unposted admits =
    let opens = holds_both looked_disk (output_of premium_text) (promised looked_disk (output_of premium_text) admits) honest_looked cut_file refl in
    let same = opens_to_one cut_file (hand_issue ∷ []) both_commands opens_cut opens in
    let long = ap length same in
    omega (arith, long)

accepted_one : hand_premium ∷ [] ≡ [] → ⊥
accepted_one none = let long : length (hand_premium ∷ []) ≡ 0 = ap length none in omega (arith, long)

too_soon : (moment : ℕ) → moment < called.clock last_disk → Admits last_disk (output_at moment) 0 → ⊥
too_soon moment before admits =
    let handed = handed_on last_disk (output_at moment) (promised last_disk (output_at moment) admits) honest_last in
    let by = caller last_disk (output_at moment) (promised last_disk (output_at moment) admits) honest_last in
    let opens = handed.2 [] [] (record { bytes = premium_text; since = moment }) (sym (append-nil handed.0) ∙ sym handed.1) [] [] (answered_by by) refl
    accepted_one (lit< tt) staged_file (still_staged moment before) in
    not_both opens.0 opens.1

-- ---- nor a file that was unmade on the way

unmade_file : List ℕ
unmade_file = file_reads cut_file untorn unmaking

unmade : get_or unmade_file 0 0 ≡ 0
unfolding unmade_file
unmade = refl

never_opens : (command : Command) (more : List Command) → Opens unmade_file (command ∷ more) → ⊥
never_opens command more (inl journal) = let no : 0 ≡ 1 = sym unmade ∙ journal.records.made.finished in omega (arith, no)
never_opens command more (inr unfinished) = let no = unfinished.0 in cc

never_found : called.may_leave cut_disk unmade_file → ⊥
never_found (inl same) = let no : 0 ≡ 1 = sym unmade ∙ ap (λ (file : List ℕ). get_or file 0 0) same ∙ cut.made.finished in omega (arith, no)
never_found (inr none) = none

remade_reads : reads cut_file (puts 0 (1 ∷ []) unmaking) ≡ cut_file
remade_reads = refl

remade_within : writes_within cut_file untorn remade_disk.calls ≡ true
remade_within =
    let journal = subst (λ (file : List ℕ). IsJournal file (spelling_of hand_issue ∷ [])) (sym remade_reads) cut in
    posted_within cut_file (puts 0 (1 ∷ []) unmaking) (spelling_of hand_issue ∷ []) hand_premium (lit< tt) premium_size journal (λ image left. left) refl
    (both_true (nat_le 0 (length (reads cut_file unmaking))) (writes_within cut_file untorn unmaking) (le-leb 0 (length (reads cut_file unmaking)) (omega arith))
    (both_true (nat_le 0 (length cut_file)) true (le-leb 0 (length cut_file) (omega arith)) refl))

honest_remade : called.honest remade_disk
honest_remade = (((((((((looks_allowed 2 cut_file, tt), tt), tt), tt), tt), tt), tt), tt), remade_within)

left_unmade : called.left_since remade_disk 0 unmade_file
unfolding unmade_file
left_unmade = inl (inl (inl (inl (inl (inl (inr (lit≤ tt, refl)))))))

lost : Admits remade_disk (output_at (called.clock remade_disk)) 0 → ⊥
lost admits =
    let is = promised remade_disk (output_at (called.clock remade_disk)) admits in
    let opened = commands_are remade_disk (output_at (called.clock remade_disk)) is honest_remade in
    elim (is.since honest_remade unmade_file left_unmade) [
      | inl found ↦ never_found found
      | inr (held, rest, split, inl opens) ↦
          never_opens hand_issue held (subst (λ (cs : List Command). Opens unmade_file (cs ++ held)) opened opens)
      | inr (held, rest, split, inr (command, was, opens)) ↦
          never_faulted remade_disk (output_at (called.clock remade_disk)) is honest_remade held command was
    ]

pub forged_by_hand : ForgedByHand
forged_by_hand = (unanswered, longer, unposted, too_soon, lost)
