-- If the count of faults of one of the disks rose and the output didn't fail, the ending states it, unless memory is refused
use Rattle.life_app.proofs.Names.{◌≡◌, ◌<◌, ◌⊎◌, ℕ, ℤ, List, [], ◌∷◌, ◌++◌, refl, ap, ◌∙◌, inl, inr, Option, None, Some, arith, AllByRecursion, cons_option, filter_map, last_or, Ghosts, Rose, Command, At, Entry, Lane, fault_of, opened_on, Dated, Measure, Auditor, IsLeftBy, Mode, Run, Value, Project, State, Checkpoint, Generate, Load, Ending, Done, BadJournal, WriteFault, DiskFault, NoMemory, status_of, EndsReadOnly, Input, Shelving, Stream, WroteAll, EndsScript, EndsLanes, EndsRun, policy_account, EndsState, IsStated, EndsValue, IsValued, EndsProject, IsProjected, EndsLoad, EndsLoading, HasNewFault, filing_between, Does, EndsBooks, EndsMode, EndsSave, WroteAsEnded, EndsNoOffice, reports_text, reports_of, accepted_of, books_of}
use Rattle.std.specs.Option.{unwrap_or}
use Rattle.program_endings.proofs.ReplyNames.{IsAnswered}
use Rattle.life_app.proofs.BooksSteps as both
use Rattle.life_app.proofs.BooksSteps.{second_between, two_disks}

-- the numbers of the faults that were answered
abbrev faults_met : List Entry → List ℕ
faults_met history = filter_map (λ (entry : Entry). fault_of entry.reply) history

none_met : (history : List Entry) → AllByRecursion (λ (entry : Entry). IsAnswered entry.reply) history → faults_met history ≡ []
none_met [] answered = refl
none_met (entry ∷ history) answered =
    ap (λ first. cons_option first (faults_met history)) answered.0.0 ∙ none_met history answered.1

abbrev IsTold : Ending → Type 0
IsTold ending = (status_of ending ≡ 8) ⊎ (status_of ending ≡ 9)

-- for the journal's disk alone
module _ {D : Type 0} (g : Ghosts D) (old new : D) (output : Stream) (held : Rose output.faults_before output.faults_after → ⊥)
    (rose : g.faults old < g.faults new) where
  stood : g.faults new ≡ g.faults old → ⊥
  stood same = omega (arith, rose, same)

  untouched : new ≡ old → ⊥
  untouched same = stood (ap (λ (d : D). g.faults d) same)

  -- if every posting was answered, the count stood still
  all_answered : (commands : List Command) (history : List Entry) → AllByRecursion (λ (entry : Entry). IsAnswered entry.reply) history
      → IsLeftBy g old new (opened_on commands (g.faults old)) history → ⊥
  all_answered commands history answered left =
      stood (left.faults ∙ ap (λ (ns : List ℕ). unwrap_or (last_or None ns) (g.faults old)) (none_met history answered))

  wrote_told : (commands : List Command) (history : List Entry) (dry : List ℕ) (texts : List (List ℕ)) (reports : List ℕ) (ending : Ending)
      → IsLeftBy g old new (opened_on commands (g.faults old)) history → WroteAsEnded g old new history dry texts reports output ending → IsTold ending
  wrote_told commands history dry texts reports Done left wrote = absurd (all_answered commands history wrote.1.0 left)
  wrote_told commands history dry texts reports WriteFault left wrote = absurd (held wrote.0)
  wrote_told commands history dry texts reports DiskFault left wrote = inl refl
  wrote_told commands history dry texts reports (NoMemory lack) left wrote = inr refl
  wrote_told commands history dry texts reports _ left wrote = absurd wrote

  unopened_told : (ending : Ending) → EndsNoOffice g old new output ending → IsTold ending
  unopened_told BadJournal ends = absurd (stood ends.3)
  unopened_told DiskFault ends = inl refl
  unopened_told (NoMemory lack) ends = inr refl
  unopened_told _ ends = absurd ends

  script_told : (lanes : List Lane) (basis : List Dated) (auditors : List Auditor) (ending : Ending)
      → EndsScript g old new lanes basis auditors output ending → IsTold ending
  script_told lanes basis auditors ending ends = elim ends [
    | inl ran ↦ wrote_told ran.commands ran.history ran.dry ran.texts (reports_text (reports_of auditors (accepted_of ran.history))) ending ran.disk ran.wrote
    | inr said ↦ unopened_told ending said.0
  ]

  lanes_told : (lanes : List Lane) (name : List ℕ) (auditors : List Auditor) (shelf : Shelving) (ShelfStays : Type 0) (ending : Ending)
      → EndsLanes g old new lanes name auditors shelf output ShelfStays ending → IsTold ending
  lanes_told lanes name auditors shelf ShelfStays ending ends = elim ends [
    | inl without ↦ script_told lanes _ auditors ending without.2
    | inr (asks, inl by) ↦ script_told lanes by.basis auditors ending by.ends
    | inr (asks, inr none) ↦ absurd (untouched none.0)
  ]

  run_told : (name : List ℕ) (auditors : List Auditor) (input : Input) (shelf : Shelving) (ShelfStays : Type 0) (ending : Ending)
      → EndsRun g old new name auditors input output shelf ShelfStays ending → IsTold ending
  run_told name auditors input shelf ShelfStays ending ends = elim ends [
    | inl read ↦ lanes_told read.lanes name auditors shelf ShelfStays ending read.ends
    | inr none ↦ absurd (untouched none.0)
  ]

  -- a mode that only reads
  read_told : (Tells : (List ℕ → Type 0) → Type 0) (ending : Ending) → (Tells (WroteAll output) → ⊥)
      → EndsReadOnly g old new Tells output ending → IsTold ending
  read_told Tells Done never ends = absurd (never ends)
  read_told Tells BadJournal never ends = absurd (stood ends.0.3)
  read_told Tells WriteFault never ends = absurd (held ends.0)
  read_told Tells DiskFault never ends = inl refl
  read_told Tells (NoMemory lack) never ends = inr refl
  read_told Tells _ never ends = absurd ends.0

  value_told : (on : ℤ) (at : At) (measure : Measure) (name : List ℕ) (shelf : Shelving) (ending : Ending)
      → EndsValue g old new on at measure name shelf output ending → IsTold ending
  value_told on at measure name shelf ending ends = elim ends [
    | inl by ↦ elim by.ends [
      | inl valued ↦ read_told (IsValued g old new on at measure by.basis) ending (λ is. all_answered is.commands [] tt is.disk) valued
      | inr (same, ahead) ↦ absurd (all_answered ahead.commands [] tt ahead.disk)
    ]
    | inr none ↦ absurd (untouched none.0)
  ]

  project_told : (on : ℤ) (years : ℕ) (name : List ℕ) (shelf : Shelving) (ending : Ending)
      → EndsProject g old new on years name shelf output ending → IsTold ending
  project_told on years name shelf ending ends = elim ends [
    | inl by ↦ read_told (IsProjected g old new on years by.basis) ending (λ is. all_answered is.commands [] tt is.disk) by.ends
    | inr none ↦ absurd (untouched none.0)
  ]

  state_told : (text_of : List Command → List ℕ) (ending : Ending) → EndsState g old new text_of output ending → IsTold ending
  state_told text_of ending ends = read_told (IsStated g old new text_of) ending (λ is. all_answered is.commands [] tt is.disk) ends

  loading_told : (lanes : List Lane) (workers : ℕ) (basis : List Dated) (ending : Ending)
      → EndsLoading g old new lanes workers basis output ending → IsTold ending
  loading_told lanes workers basis Done ends =
      absurd (all_answered ends.commands (ends.postings ++ ends.valuation) ends.tells.replies.0 ends.disk)
  loading_told lanes workers basis BadJournal ends = absurd (stood ends.0.3)
  loading_told lanes workers basis WriteFault ends = absurd (held ends.tells.wrote.0)
  loading_told lanes workers basis DiskFault ends = inl refl
  loading_told lanes workers basis (NoMemory lack) ends = inr refl
  loading_told lanes workers basis _ ends = absurd ends.0

  load_told : (seed count lanes workers : ℕ) (shelf : Shelving) (ending : Ending)
      → EndsLoad g old new seed count lanes workers shelf output ending → IsTold ending
  load_told seed count lanes workers shelf ending ends = elim ends [
    | inl by ↦ loading_told _ workers by.basis ending by.ends
    | inr none ↦ absurd (untouched none.0)
  ]

-- whatever the second disk
module _ {D E : Type 0} (g : Ghosts D) (e : Ghosts E) (old new : D) (output : Stream) (held : Rose output.faults_before output.faults_after → ⊥) where
  abbrev OneRose : (second kept : Option E) → Type 0
  OneRose second kept = HasNewFault (filing_between g old new) (second_between e second kept)

  -- for a mode that leaves the second disk alone, the journal's disk failed
  first_rose : (second kept : Option E) → OneRose second kept → kept ≡ second → g.faults old < g.faults new
  first_rose None kept rose same = rose
  first_rose (Some second) None rose same = rose
  first_rose (Some second) (Some kept) (inl first) same = first
  first_rose (Some second) (Some kept) (inr other) same =
      let here : kept ≡ second = cc in
      let still : e.faults kept ≡ e.faults second = ap (λ (d : E). e.faults d) here in
      absurd (omega (arith, other, still))

  books_told : (second kept : Option E) (ending : Ending) → OneRose second kept → EndsBooks g e old new second kept output ending → IsTold ending
  books_told None None ending rose ends = state_told g old new output held rose books_of ending ends
  books_told (Some second) (Some kept) ending rose ends =
      both.told g e (two_disks old new second kept) output ending rose held (both.stated g e (two_disks old new second kept) output ending ends)
  books_told _ _ ending rose ends = absurd ends

  save_told : (second kept : Option E) (ending : Ending) → OneRose second kept → EndsSave g e old new second kept output ending → IsTold ending
  save_told None None ending rose ends = absurd (untouched g old new output held rose ends.0)
  save_told (Some second) (Some kept) ending rose ends =
      both.told g e (two_disks old new second kept) output ending rose held (both.saved g e (two_disks old new second kept) output ending ends)
  save_told _ _ ending rose ends = absurd ends

  module _ (second kept : Option E) (rose : OneRose second kept) (auditors : List Auditor) (input : Input) (shelf : Shelving) (InputStays ShelfStays : Type 0)
      (ending : Ending) where
    mode_told : (mode : Mode) → EndsMode g e old new second kept mode auditors input output shelf InputStays ShelfStays ending → IsTold ending
    mode_told (State None) ends = books_told second kept ending rose ends.2
    mode_told Checkpoint ends = save_told second kept ending rose ends.2
    mode_told (Run name) ends =
        run_told g old new output held (first_rose second kept rose ends.0) name auditors input shelf ShelfStays ending ends.1
    mode_told (Value on at workers name measure) ends =
        value_told g old new output held (first_rose second kept rose ends.0) on at measure name shelf ending ends.2
    mode_told (Project on years workers name) ends =
        project_told g old new output held (first_rose second kept rose ends.0) on years name shelf ending ends.2
    mode_told (State (Some id)) ends =
        state_told g old new output held (first_rose second kept rose ends.0) (policy_account id) ending ends.3
    mode_told (Generate seed count lanes) ends =
        absurd (untouched g old new output held (first_rose second kept rose ends.0) ends.3)
    mode_told (Load seed count lanes workers) ends =
        load_told g old new output held (first_rose second kept rose ends.0) seed count lanes workers shelf ending ends.2

    -- whatever the program does
    pub fault_told : (words : List (List ℕ)) → Does g e old new second kept words auditors input output shelf InputStays ShelfStays ending
        → (status_of ending ≡ 8) ⊎ (status_of ending ≡ 9)
    fault_told words does = elim does [
      | inl (mode, asked, ends) ↦ mode_told mode ends
      | inr unasked ↦ absurd (untouched g old new output held (first_rose second kept rose unasked.1) unasked.0)
    ]
