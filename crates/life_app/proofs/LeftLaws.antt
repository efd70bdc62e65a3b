-- How each mode leaves the disk: as the turns of an office left it, alone, or untouched
use Rattle.life_app.proofs.Names.{◌≡◌, ℕ, ℤ, List, [], refl, inl, inr, Option, None, Some, Ghosts, Command, At, Entry, Lane, Opening, opened_on, Auditor, Dated, Measure, Mode, Run, Value, Project, State, Checkpoint, Generate, Load, IsLeftAlone, IsLeftBy, Ending, Done, BadJournal, WriteFault, DiskFault, NoMemory, EndsReadOnly, Input, Shelving, Stream, EndsScript, EndsLanes, EndsRun, books_of, policy_account, EndsState, IsStated, EndsValue, IsValued, EndsProject, IsProjected, EndsLoad, EndsLoading, IsLoadOf, Does, EndsBooks, EndsMode, EndsSave, IsLeftSo}

module _ {D : Type 0} (g : Ghosts D) (old new : D) where
  abbrev Left : Type 0
  Left = (opening : Opening) × ((history : List Entry) × IsLeftSo g old new opening history)

  by_turns : (opening : Opening) (history : List Entry) → IsLeftBy g old new opening history → Left
  by_turns opening history left = (opening, (history, inl left))

  all_alone : IsLeftAlone g old new → Left
  all_alone alone = (opened_on [] (g.faults old), ([], inr (inl (refl, alone))))

  untouched : new ≡ old → Left
  untouched same = (opened_on [] (g.faults old), ([], inr (inr (refl, same))))

  script : (lanes : List Lane) (basis : List Dated) (auditors : List Auditor) (output : Stream) (ending : Ending)
      → EndsScript g old new lanes basis auditors output ending → Left
  script lanes basis auditors output ending ends = elim ends [
    | inl run ↦ by_turns (opened_on run.commands (g.faults old)) run.history run.disk
    | inr said ↦ all_alone said.1
  ]

  lanes_left : (lanes : List Lane) (name : List ℕ) (auditors : List Auditor) (shelf : Shelving) (output : Stream) (ShelfStays : Type 0) (ending : Ending)
      → EndsLanes g old new lanes name auditors shelf output ShelfStays ending → Left
  lanes_left lanes name auditors shelf output ShelfStays ending ends = elim ends [
    | inl without ↦ script lanes [] auditors output ending without.2
    | inr (asks, inl by) ↦ script lanes by.basis auditors output ending by.ends
    | inr (asks, inr none) ↦ untouched none.0
  ]

  run_left : (name : List ℕ) (auditors : List Auditor) (input : Input) (output : Stream) (shelf : Shelving) (ShelfStays : Type 0) (ending : Ending)
      → EndsRun g old new name auditors input output shelf ShelfStays ending → Left
  run_left name auditors input output shelf ShelfStays ending ends = elim ends [
    | inl read ↦ lanes_left read.lanes name auditors shelf output ShelfStays ending read.ends
    | inr unread ↦ untouched unread.0
  ]

  -- a mode that only reads
  read_only : (Tells : (List ℕ → Type 0) → Type 0) (output : Stream) (ending : Ending)
      → ((Wrote : List ℕ → Type 0) → Tells Wrote → Left) → EndsReadOnly g old new Tells output ending → Left
  read_only Tells output Done told ends = told _ ends
  read_only Tells output BadJournal told ends = all_alone ends.1
  read_only Tells output WriteFault told ends = told _ ends.1
  read_only Tells output DiskFault told ends = all_alone ends.1
  read_only Tells output (NoMemory lack) told ends = all_alone ends.1
  read_only Tells output _ told ends = absurd ends.0

  value_left : (on : ℤ) (at : At) (measure : Measure) (name : List ℕ) (shelf : Shelving) (output : Stream) (ending : Ending)
      → EndsValue g old new on at measure name shelf output ending → Left
  value_left on at measure name shelf output ending ends = elim ends [
    | inl by ↦ elim by.ends [
      | inl valued ↦
          read_only (IsValued g old new on at measure by.basis) output ending (λ Wrote is. by_turns (opened_on is.commands (g.faults old)) [] is.disk) valued
      | inr (same, ahead) ↦ by_turns (opened_on ahead.commands (g.faults old)) [] ahead.disk
    ]
    | inr none ↦ untouched none.0
  ]

  project_left : (on : ℤ) (years : ℕ) (name : List ℕ) (shelf : Shelving) (output : Stream) (ending : Ending)
      → EndsProject g old new on years name shelf output ending → Left
  project_left on years name shelf output ending ends = elim ends [
    | inl by ↦
        read_only (IsProjected g old new on years by.basis) output ending (λ Wrote is. by_turns (opened_on is.commands (g.faults old)) [] is.disk) by.ends
    | inr none ↦ untouched none.0
  ]

  load_of : (lanes : List Lane) (workers : ℕ) (Tells : Opening → List Entry → List ℕ → Type 0) → IsLoadOf g old new lanes workers Tells → Left
  load_of lanes workers Tells load = by_turns (opened_on load.commands (g.faults old)) _ load.disk

  loading : (lanes : List Lane) (workers : ℕ) (basis : List Dated) (output : Stream) (ending : Ending)
      → EndsLoading g old new lanes workers basis output ending → Left
  loading lanes workers basis output Done ends = load_of _ _ _ ends
  loading lanes workers basis output BadJournal ends = all_alone ends.1
  loading lanes workers basis output WriteFault ends = load_of _ _ _ ends
  loading lanes workers basis output DiskFault ends = elim ends [
    | inl said ↦ all_alone said.1
    | inr load ↦ load_of _ _ _ load.1
  ]
  loading lanes workers basis output (NoMemory lack) ends = elim ends [
    | inl said ↦ all_alone said.1
    | inr (inl load) ↦ load_of _ _ _ load
    | inr (inr load) ↦ load_of _ _ _ load
  ]
  loading lanes workers basis output _ ends = absurd ends.0

  load_left : (seed count lanes workers : ℕ) (shelf : Shelving) (output : Stream) (ending : Ending)
      → EndsLoad g old new seed count lanes workers shelf output ending → Left
  load_left seed count lanes workers shelf output ending ends = elim ends [
    | inl by ↦ loading _ _ by.basis output ending by.ends
    | inr none ↦ untouched none.0
  ]

  state_left : (text_of : List Command → List ℕ) (output : Stream) (ending : Ending) → EndsState g old new text_of output ending → Left
  state_left text_of output ending ends =
      read_only (IsStated g old new text_of) output ending (λ Wrote is. by_turns (opened_on is.commands (g.faults old)) [] is.disk) ends

  -- modes over both disks leave the journal's disk alone
  books_left : {E : Type 0} (e : Ghosts E) (second kept : Option E) (output : Stream) (ending : Ending)
      → EndsBooks g e old new second kept output ending → Left
  books_left e None None output ending ends = state_left books_of output ending ends
  books_left e (Some second) (Some kept) output ending ends = all_alone ends.first
  books_left e _ _ output ending ends = absurd ends

  save_left : {E : Type 0} (e : Ghosts E) (second kept : Option E) (output : Stream) (ending : Ending)
      → EndsSave g e old new second kept output ending → Left
  save_left e None None output ending ends = untouched ends.0
  save_left e (Some second) (Some kept) output ending ends = all_alone ends.first
  save_left e _ _ output ending ends = absurd ends

  module _ {E : Type 0} (e : Ghosts E) (second kept : Option E) (auditors : List Auditor) (input : Input) (output : Stream) (shelf : Shelving)
      (InputStays ShelfStays : Type 0) where
    mode_left : (mode : Mode) (ending : Ending)
        → EndsMode g e old new second kept mode auditors input output shelf InputStays ShelfStays ending → Left
    mode_left (Run name) ending ends = run_left name auditors input output shelf ShelfStays ending ends.1
    mode_left (Value on at workers name measure) ending ends = value_left on at measure name shelf output ending ends.2
    mode_left (Project on years workers name) ending ends = project_left on years name shelf output ending ends.2
    mode_left (State None) ending ends = books_left e second kept output ending ends.2
    mode_left (State (Some id)) ending ends = state_left (policy_account id) output ending ends.3
    mode_left Checkpoint ending ends = save_left e second kept output ending ends.2
    mode_left (Generate seed count lanes) ending ends = untouched ends.3
    mode_left (Load seed count lanes workers) ending ends = load_left seed count lanes workers shelf output ending ends.2

    -- the program leaves the disk so
    pub left_so : (words : List (List ℕ)) (ending : Ending)
        → Does g e old new second kept words auditors input output shelf InputStays ShelfStays ending
        → (opening : Opening) × ((history : List Entry) × IsLeftSo g old new opening history)
    left_so words ending does = elim does [
      | inl (mode, asked, ends) ↦ mode_left mode ending ends
      | inr unasked ↦ untouched unasked.0
    ]
