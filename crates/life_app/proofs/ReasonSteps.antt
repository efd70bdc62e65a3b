-- Each ending of a mode has its reason
use Rattle.life_app.proofs.Names.{◌≡◌, ℕ, ℤ, List, refl, sym, subst, inl, inr, Option, None, Some, codes, arith, Rose, Ghosts, At, Now, Position, Lane, Dated, Measure, Auditor, AreWords, Mode, Run, Value, Project, State, Checkpoint, Generate, Load, Ending, Done, Usage, BadScript, BadBasis, BadJournal, ReadFault, WriteFault, DiskFault, NoMemory, EndsReadOnly, EndsNoBasis, Input, Shelving, Stream, EndsScript, EndsLanes, EndsRun, EndsUnread, asks_for_values, policy_account, IsStated, EndsValue, IsAhead, IsValued, EndsProject, IsProjected, EndsLoad, EndsLoading, AreTrusted, Filing, HasDiskFault, Second, With, Without, filing_between, seen_by, Does, EndsBooks, EndsMode, EndsSave, SaysUnasked, AskForRun, AskForValue, WroteAsEnded, EndsNoOffice, reports_text, reports_of, accepted_of, Ahead, books_of, NeedsBasis, ReadsForValues}
use Rattle.std.specs.Prelude.{true}
use Rattle.policy_types.specs.declared.entry.Entry.{Entry}
use Rattle.trial_load.specs.Generating.{EndsGenerate}
use Rattle.life_app.specs.Reasons.{HasReason}
use Rattle.life_app.proofs.BooksSteps as both
use Rattle.life_app.proofs.BooksSteps.{second_between, two_disks}

-- as much is known of the journal's disk if there is a second one
trusted_alone : (disk : Filing) (second : Second) → AreTrusted disk second → disk.Honest
trusted_alone disk Without trusted = trusted
trusted_alone disk (With second) trusted = trusted.0

failed_alone : (disk : Filing) (second : Second) → Rose disk.faults_before disk.faults_after → HasDiskFault Rose disk second
failed_alone disk Without rose = rose
failed_alone disk (With second) rose = inl rose

module _ {D : Type 0} (g : Ghosts D) (old new : D) (words : List (List ℕ)) (input : Input) (output : Stream) (shelf : Shelving) (other : Second) where
  abbrev Reason : Ending → Type 0
  Reason ending = HasReason words input output shelf (filing_between g old new) other ending

  module _ (mode : Mode) (asked : AreWords words mode) where
    unopened : (ending : Ending) → EndsNoOffice g old new output ending → Reason ending
    unopened BadJournal journal = (mode, asked, (journal.0, journal.1, λ trusted. journal.2 (trusted_alone (filing_between g old new) (seen_by mode other) trusted)))
    unopened DiskFault said = (mode, asked, failed_alone (filing_between g old new) (seen_by mode other) said.1)
    unopened (NoMemory lack) said = tt
    unopened _ said = absurd said

    failed : Rose (g.faults old) (g.faults new) → Reason DiskFault
    failed rose = (mode, asked, failed_alone (filing_between g old new) (seen_by mode other) rose)

  -- without the basis of a name
  no_basis : (mode : Mode) → AreWords words mode → (name : List ℕ) (ending : Ending) → NeedsBasis mode (ReadsForValues input) name
      → EndsNoBasis name shelf output ending → Reason ending
  no_basis mode asked name BadBasis need ends = (mode, asked, (name, (ends.0, need, ends.1, ends.2)))
  no_basis mode asked name ReadFault need ends = inr (mode, asked, (name, need, ends.0))
  no_basis mode asked name (NoMemory lack) need ends = tt
  no_basis mode asked name _ need ends = absurd ends

  -- a script's run
  wrote : (mode : Mode) → AreWords words mode → (history : List Entry) (dry : List ℕ) (texts : List (List ℕ)) (reports : List ℕ) (ending : Ending)
      → WroteAsEnded g old new history dry texts reports output ending → Reason ending
  wrote mode asked history dry texts reports Done ends = tt
  wrote mode asked history dry texts reports WriteFault ends = ends.0
  wrote mode asked history dry texts reports DiskFault ends = failed mode asked ends.2
  wrote mode asked history dry texts reports (NoMemory lack) ends = tt
  wrote mode asked history dry texts reports _ ends = absurd ends

  script : (mode : Mode) → AreWords words mode → (lanes : List Lane) (basis : List Dated) (auditors : List Auditor) (ending : Ending)
      → EndsScript g old new lanes basis auditors output ending → Reason ending
  script mode asked lanes basis auditors ending ends = elim ends [
    | inl ran ↦ wrote mode asked ran.history ran.dry ran.texts (reports_text (reports_of auditors (accepted_of ran.history))) ending ran.wrote
    | inr said ↦ unopened mode asked ending said.0
  ]

  unread : (name : List ℕ) (ending : Ending) → AskForRun words name → EndsUnread input output ending → Reason ending
  unread name BadScript asked ends = (name, asked, ends)
  unread name ReadFault asked ends = inl (name, asked, ends.0)
  unread name (NoMemory lack) asked ends = tt
  unread name _ asked ends = absurd ends

  run_lanes : (lanes : List Lane) (name : List ℕ) (auditors : List Auditor) (ShelfStays : Type 0) (ending : Ending) → AskForRun words name
      → (asks_for_values lanes ≡ true → ReadsForValues input)
      → EndsLanes g old new lanes name auditors shelf output ShelfStays ending → Reason ending
  run_lanes lanes name auditors ShelfStays ending asked need ends = elim ends [
    | inl without ↦ script (Run name) asked lanes _ auditors ending without.2
    | inr (asks, inl by) ↦ script (Run name) asked lanes by.basis auditors ending by.ends
    | inr (asks, inr none) ↦ no_basis (Run name) asked name ending (refl, need asks) none.1
  ]

  run_reason : (name : List ℕ) (auditors : List Auditor) (ShelfStays : Type 0) (ending : Ending) → AskForRun words name
      → EndsRun g old new name auditors input output shelf ShelfStays ending → Reason ending
  run_reason name auditors ShelfStays ending asked ends = elim ends [
    | inl read ↦ run_lanes read.lanes name auditors ShelfStays ending asked
        (λ asks. record { bytes = read.bytes; gave = read.gave; lanes = read.lanes; read = read.read; asks = asks })
        read.ends
    | inr none ↦ unread name ending asked none.2
  ]

  -- a mode that only reads
  read_only : (mode : Mode) → AreWords words mode → (Tells : (List ℕ → Type 0) → Type 0) (ending : Ending) → EndsReadOnly g old new Tells output ending → Reason ending
  read_only mode asked Tells Done ends = tt
  read_only mode asked Tells BadJournal ends = unopened mode asked BadJournal ends.0
  read_only mode asked Tells WriteFault ends = ends.0
  read_only mode asked Tells DiskFault ends = failed mode asked ends.0.1
  read_only mode asked Tells (NoMemory lack) ends = tt
  read_only mode asked Tells _ ends = absurd ends.0

  -- 10 comes of a position above the count
  past_the_end : (on : ℤ) (at : At) (name : List ℕ) → AskForValue words on at name → IsAhead g old new at output → Reason Ahead
  past_the_end on Now name asked ahead = absurd (omega (arith, ahead.so.ahead))
  past_the_end on (Position p) name asked ahead =
      (on, (p, asked.0, (name, (asked.1.0, asked.1.1, λ honest. (ahead.commands, ahead.disk.opened honest, ahead.so.ahead)))))

  value_reason : (on : ℤ) (at : At) (workers : ℕ) (name : List ℕ) (measure : Measure) (ending : Ending) → AreWords words (Value on at workers name measure)
      → EndsValue g old new on at measure name shelf output ending → Reason ending
  value_reason on at workers name measure ending asked ends = elim ends [
    | inl by ↦ elim by.ends [
      | inl valued ↦ read_only (Value on at workers name measure) asked (IsValued g old new on at measure by.basis) ending valued
      | inr (same, ahead) ↦ subst (λ (e : Ending). Reason e) (sym same) (past_the_end on at name (workers, (measure, asked)) ahead)
    ]
    | inr none ↦ no_basis (Value on at workers name measure) asked name ending refl none.1
  ]

  project_reason : (on : ℤ) (years workers : ℕ) (name : List ℕ) (ending : Ending) → AreWords words (Project on years workers name)
      → EndsProject g old new on years name shelf output ending → Reason ending
  project_reason on years workers name ending asked ends = elim ends [
    | inl by ↦ read_only (Project on years workers name) asked (IsProjected g old new on years by.basis) ending by.ends
    | inr none ↦ no_basis (Project on years workers name) asked name ending refl none.1
  ]

  generate_reason : (seed count lanes : ℕ) (ending : Ending) → EndsGenerate seed count lanes output ending → Reason ending
  generate_reason seed count lanes Done ends = tt
  generate_reason seed count lanes WriteFault ends = ends.0
  generate_reason seed count lanes (NoMemory lack) ends = tt
  generate_reason seed count lanes _ ends = absurd ends

  loading : (mode : Mode) → AreWords words mode → (lanes : List Lane) (workers : ℕ) (basis : List Dated) (ending : Ending) → EndsLoading g old new lanes workers basis output ending
      → Reason ending
  loading mode asked lanes workers basis Done ends = tt
  loading mode asked lanes workers basis BadJournal ends = unopened mode asked BadJournal ends.0
  loading mode asked lanes workers basis WriteFault ends = ends.tells.wrote.0
  loading mode asked lanes workers basis DiskFault ends = elim ends [
    | inl said ↦ failed mode asked said.0.1
    | inr load ↦ failed mode asked load.0
  ]
  loading mode asked lanes workers basis (NoMemory lack) ends = tt
  loading mode asked lanes workers basis _ ends = absurd ends.0

  load_reason : (seed count lanes workers : ℕ) (ending : Ending) → AreWords words (Load seed count lanes workers)
      → EndsLoad g old new seed count lanes workers shelf output ending → Reason ending
  load_reason seed count lanes workers ending asked ends = elim ends [
    | inl by ↦ loading (Load seed count lanes workers) asked _ workers by.basis ending by.ends
    | inr none ↦ no_basis (Load seed count lanes workers) asked (codes "basis.csv") ending refl none.1
  ]

  says_reason : (ending : Ending) → SaysUnasked words output ending → Reason ending
  says_reason Usage says = inl says.0
  says_reason (NoMemory lack) says = tt
  says_reason _ says = absurd says

module _ {D E : Type 0} (g : Ghosts D) (e : Ghosts E) (old new : D) (words : List (List ℕ)) (input : Input) (output : Stream) (shelf : Shelving) where
  abbrev OverBoth : (second kept : Option E) → Ending → Type 0
  OverBoth second kept ending = HasReason words input output shelf (filing_between g old new) (second_between e second kept) ending

  books_reason : (second kept : Option E) (ending : Ending) → AreWords words (State None) → EndsBooks g e old new second kept output ending
      → OverBoth second kept ending
  books_reason None None ending asked ends = read_only g old new words input output shelf Without (State None) asked (IsStated g old new books_of) ending ends
  books_reason (Some second) (Some kept) ending asked ends =
      both.reason g e (two_disks old new second kept) output words input shelf (State None) asked (λ t. t) (λ f. f) ending
      (both.stated g e (two_disks old new second kept) output ending ends)
  books_reason _ _ ending asked ends = absurd ends

  save_reason : (second kept : Option E) (ending : Ending) → AreWords words Checkpoint → EndsSave g e old new second kept output ending
      → OverBoth second kept ending
  save_reason None None ending asked ends = subst (λ (e : Ending). HasReason words input output shelf (filing_between g old new) Without e) (sym ends.1) (inr (asked, λ no. no))
  save_reason (Some second) (Some kept) ending asked ends =
      both.reason g e (two_disks old new second kept) output words input shelf Checkpoint asked (λ t. t) (λ f. f) ending
      (both.saved g e (two_disks old new second kept) output ending ends)
  save_reason _ _ ending asked ends = absurd ends

  module _ (second kept : Option E) (auditors : List Auditor) (InputStays ShelfStays : Type 0) (ending : Ending) where
    abbrev other : Second
    other = second_between e second kept

    mode_reason : (mode : Mode) → AreWords words mode
        → EndsMode g e old new second kept mode auditors input output shelf InputStays ShelfStays ending → OverBoth second kept ending
    mode_reason (Run name) asked ends = run_reason g old new words input output shelf other name auditors ShelfStays ending asked ends.1
    mode_reason (Value on at workers name measure) asked ends =
        value_reason g old new words input output shelf other on at workers name measure ending asked ends.2
    mode_reason (Project on years workers name) asked ends =
        project_reason g old new words input output shelf other on years workers name ending asked ends.2
    mode_reason (State None) asked ends = books_reason second kept ending asked ends.2
    mode_reason (State (Some id)) asked ends =
        read_only g old new words input output shelf other (State (Some id)) asked (IsStated g old new (policy_account id)) ending ends.3
    mode_reason Checkpoint asked ends = save_reason second kept ending asked ends.2
    mode_reason (Generate seed count lanes) asked ends = generate_reason g old new words input output shelf other seed count lanes ending ends.4
    mode_reason (Load seed count lanes workers) asked ends =
        load_reason g old new words input output shelf other seed count lanes workers ending asked ends.2

    -- whatever the program does
    pub reason : Does g e old new second kept words auditors input output shelf InputStays ShelfStays ending
        → HasReason words input output shelf (filing_between g old new) (second_between e second kept) ending
    reason does = elim does [
      | inl (mode, asked, ends) ↦ mode_reason mode asked ends
      | inr none ↦ says_reason g old new words input output shelf other ending none.4
    ]
