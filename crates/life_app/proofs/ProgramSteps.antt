-- What the exit status says of the words, the script, the basis and the file
use Rattle.life_app.proofs.Names.{◌≡◌, ℕ, ◌≤◌, ◌<◌, ◌⊎◌, ℤ, List, length, ⊎_elim, refl, ap, subst, inl, inr, Option, None, Some, codes, Ghosts, Rose, GivesMore, Command, At, Position, Lane, Auditor, Dated, Measure, Reads, AreWords, Mode, Run, Value, Project, State, Checkpoint, Generate, Load, IsLeftAlone, Opens, OpensToNone, Ending, Done, Usage, BadScript, BadBasis, BadJournal, ReadFault, DiskFault, NoMemory, Ahead, status_of, SaysBadFile, Input, IsWholeInput, Shelving, Stream, EndsRun, HasItsBasis, IsUnreadable, asks_for_values, books_of, policy_account, EndsValue, position_of, EndsProject, Filing, HasSecond, Second, Without, filing_between, seen_by, HasBasis, HasItsJournal, HasItsNeeds, HasJournal, HasNoBasis, HasNoJournal, HasNoScript, HasScript, IsDueEnding, LacksItsJournal, NeedsBasis, NeedsOf, commands_of, Does, EndsBooks, EndsMode, EndsSave, SaysUnasked, AreNoWords, AskForCheckpoint, AskForGenerate, AskForLoad, AskForProject, AskForRun, AskForValue}
use Rattle.std.specs.Prelude.{true}
use Rattle.outside_io.specs.Shelves.{Files}
use Rattle.basis_shelf.specs.Bases.{IsBasis}
use Rattle.basis_shelf.specs.FirstBad.{IsFirstBadFile}
use Rattle.basis_shelf.specs.declared.fault.BadBasis.{BadBasis as ABadBasis}
use Rattle.life_args.proofs.Answering.{ask_once}
use Rattle.office_state.proofs.OpeningSteps.{finished}
use Rattle.script_run.proofs.RunStatus.{run_as_before, run_refused, run_to_end, run_too_long, run_unfit, run_unreadable}
use Rattle.stating_modes.proofs.StateStatus.{state_as_before, state_refused, state_to_end}
use Rattle.valuing_modes.proofs.ValueStatus.{value_as_before, value_beyond, value_refused, value_to_end, value_unfit}
use Rattle.valuing_modes.proofs.ProjectStatus.{project_as_before, project_refused, project_to_end, project_unfit}
use Rattle.trial_load.proofs.LoadStatus.{generate_to_end, load_as_before, load_refused, load_to_end, load_unfit}
use Rattle.life_app.proofs.BooksSteps as both
use Rattle.life_app.proofs.BooksSteps.{second_between, two_disks}
use Rattle.life_app.proofs.FaultsTold.{fault_told}

-- a bad file gives 4, and its line besides
said : {status : ℕ} (output : Stream) (bad : ABadBasis) → SaysBadFile bad output status ⊎ (status ≡ 9) → (status ≡ 4) ⊎ (status ≡ 9)
said output bad says = ⊎_elim (λ four. inl four.0) (λ nine. inr nine) says

-- a shelf that has the basis of lanes that ask for values
module _ {shelf : Shelving} (lanes : List Lane) (name : List ℕ) (has : asks_for_values lanes ≡ true → HasBasis shelf name) where
  basis_for : HasItsBasis lanes name shelf
  basis_for asks = (let basis = has asks in (basis.files, (basis.so.0, basis.agree, basis.so.1)))

  held_for : asks_for_values lanes ≡ true → Rose shelf.faults_before shelf.faults_after → ⊥
  held_for asks = (has asks).held

module _ {D E : Type 0} (g : Ghosts D) (e : Ghosts E) (old new : D) (second kept : Option E) (auditors : List Auditor) where
  module _ (words : List (List ℕ)) (input : Input) (output : Stream) (shelf : Shelving) (InputStays ShelfStays : Type 0) where
    unasked : (ending : Ending) → SaysUnasked words output ending → (mode : Mode) → AreWords words mode → status_of ending ≡ 9
    unasked Usage says mode asked = absurd (says.0 mode asked)
    unasked (NoMemory lack) says mode asked = refl
    unasked _ says mode asked = absurd says

    -- the mode that the arguments ask for ended so, or there was no memory to read them
    pub as_asked : (ending : Ending) → Does g e old new second kept words auditors input output shelf InputStays ShelfStays ending
        → (mode : Mode) → AreWords words mode
        → EndsMode g e old new second kept mode auditors input output shelf InputStays ShelfStays ending ⊎ (status_of ending ≡ 9)
    as_asked ending does mode asked = elim does [
      | inl (other, asked_too, ends) ↦ inl (
          subst (λ (m : Mode). EndsMode g e old new second kept m auditors input output shelf InputStays ShelfStays ending)
          (ask_once words other mode asked_too asked) ends
          )
      | inr none ↦ inr (unasked ending none.4 mode asked)
    ]

    -- arguments that ask for nothing
    pub as_nothing : (ending : Ending) → Does g e old new second kept words auditors input output shelf InputStays ShelfStays ending
        → AreNoWords words → (status_of ending ≡ 2) ⊎ (status_of ending ≡ 9)
    as_nothing ending does nothing = elim does [
      | inl (mode, asked, ends) ↦ absurd (nothing mode asked)
      | inr none ↦ said ending none.4
    ]
      where
        said : (ending : Ending) → SaysUnasked words output ending → (status_of ending ≡ 2) ⊎ (status_of ending ≡ 9)
        said Usage says = inl refl
        said (NoMemory lack) says = inr refl
        said _ says = absurd says

    -- how a mode leaves a file that opens to none
    alone_as_before : IsLeftAlone g old new → g.honest new → OpensToNone (g.reads old) → g.reads new ≡ g.reads old
    alone_as_before alone honest none = (alone.unwritten honest (finished (g.reads old) none)).reads

    books_as_before : (second kept : Option E) (ending : Ending) → EndsBooks g e old new second kept output ending
        → g.honest new → OpensToNone (g.reads old) → g.reads new ≡ g.reads old
    books_as_before None None ending ends honest none = state_as_before g old new books_of output ending ends honest none
    books_as_before (Some second) (Some kept) ending ends honest none = alone_as_before ends.first honest none
    books_as_before _ _ ending ends honest none = absurd ends

    save_as_before : (second kept : Option E) (ending : Ending) → EndsSave g e old new second kept output ending
        → g.honest new → OpensToNone (g.reads old) → g.reads new ≡ g.reads old
    save_as_before None None ending ends honest none = ap g.reads ends.0
    save_as_before (Some second) (Some kept) ending ends honest none = alone_as_before ends.first honest none
    save_as_before _ _ ending ends honest none = absurd ends

    mode_as_before : (mode : Mode) (ending : Ending)
        → EndsMode g e old new second kept mode auditors input output shelf InputStays ShelfStays ending
        → g.honest new → OpensToNone (g.reads old) → g.reads new ≡ g.reads old
    mode_as_before (Run name) ending ends honest none = run_as_before g old new auditors name input output shelf ShelfStays ending ends.1 honest none
    mode_as_before (Value on at workers name measure) ending ends honest none =
        value_as_before g old new on at measure output name shelf ending ends.2 honest none
    mode_as_before (Project on years workers name) ending ends honest none =
        project_as_before g old new on years output name shelf ending ends.2 honest none
    mode_as_before (State None) ending ends honest none = books_as_before second kept ending ends.2 honest none
    mode_as_before (State (Some id)) ending ends honest none =
        state_as_before g old new (policy_account id) output ending ends.3 honest none
    mode_as_before Checkpoint ending ends honest none = save_as_before second kept ending ends.2 honest none
    mode_as_before (Generate seed count lanes) ending ends honest none = ap g.reads ends.3
    mode_as_before (Load seed count lanes workers) ending ends honest none =
        load_as_before g old new seed count lanes workers shelf output ending ends.2 honest none

    pub unopened : (ending : Ending) → Does g e old new second kept words auditors input output shelf InputStays ShelfStays ending
        → g.honest new → OpensToNone (g.reads old) → g.reads new ≡ g.reads old
    unopened ending does honest none = elim does [
      | inl (mode, asked, ends) ↦ mode_as_before mode ending ends honest none
      | inr unasked ↦ ap g.reads unasked.0
    ]

    abbrev filing : Filing
    filing = filing_between g old new

    abbrev other : Second
    other = second_between e second kept

    -- both disks are opened for `state` of all policies and `checkpoint`, if there is a second one
    books_done : (second kept : Option E) (commands : List Command) (ending : Ending) → HasJournal filing (second_between e second kept) commands
        → (Rose output.faults_before output.faults_after → ⊥) → EndsBooks g e old new second kept output ending
        → (status_of ending ≡ 0) ⊎ (status_of ending ≡ 9)
    books_done None None commands ending file held ends = state_to_end g old new books_of output ending ends commands file.trusted file.so held file.held
    books_done (Some second) (Some kept) commands ending file held ends =
        both.done g e (two_disks old new second kept) output commands ending file held (both.stated g e (two_disks old new second kept) output ending ends)
    books_done _ _ commands ending file held ends = absurd ends

    books_refused : (second kept : Option E) (ending : Ending) → HasNoJournal filing (second_between e second kept)
        → EndsBooks g e old new second kept output ending → (status_of ending ≡ 5) ⊎ (status_of ending ≡ 9)
    books_refused None None ending none ends = state_refused g old new books_of output ending ends none.trusted none.so none.held
    books_refused (Some second) (Some kept) ending none ends =
        both.refused g e (two_disks old new second kept) output ending none (both.stated g e (two_disks old new second kept) output ending ends)
    books_refused _ _ ending none ends = absurd ends

    save_done : (second kept : Option E) (commands : List Command) (ending : Ending) → HasSecond (second_between e second kept)
        → HasJournal filing (second_between e second kept) commands → (Rose output.faults_before output.faults_after → ⊥)
        → EndsSave g e old new second kept output ending → (status_of ending ≡ 0) ⊎ (status_of ending ≡ 9)
    save_done (Some second) (Some kept) commands ending there file held ends =
        both.done g e (two_disks old new second kept) output commands ending file held (both.saved g e (two_disks old new second kept) output ending ends)
    save_done _ _ commands ending there file held ends = absurd there

    save_refused : (second kept : Option E) (ending : Ending) → HasSecond (second_between e second kept)
        → HasNoJournal filing (second_between e second kept) → EndsSave g e old new second kept output ending
        → (status_of ending ≡ 5) ⊎ (status_of ending ≡ 9)
    save_refused (Some second) (Some kept) ending there none ends =
        both.refused g e (two_disks old new second kept) output ending none (both.saved g e (two_disks old new second kept) output ending ends)
    save_refused _ _ ending there none ends = absurd there

    module _ (ending : Ending) (does : Does g e old new second kept words auditors input output shelf InputStays ShelfStays ending) where
      ran : (name : List ℕ) → AskForRun words name → EndsRun g old new name auditors input output shelf ShelfStays ending ⊎ (status_of ending ≡ 9)
      ran name asked = elim (as_asked ending does (Run name) asked) [
        | inl ends ↦ inl ends.1
        | inr none ↦ inr none
      ]

      -- the arguments ask for a valuation, which ended so, or there was no memory to read them
      valued_so : (on : ℤ) (at : At) (name : List ℕ) → AskForValue words on at name
          → ((measure : Measure) × EndsValue g old new on at measure name shelf output ending) ⊎ (status_of ending ≡ 9)
      valued_so on at name asked = elim (as_asked ending does (Value on at asked.0 name asked.1.0) asked.1.1) [
        | inl ends ↦ inl (asked.1.0, ends.2)
        | inr none ↦ inr none
      ]

      pub unfit : (on : ℤ) (at : At) (name : List ℕ) (bad : ABadBasis) (files : Files) → AskForValue words on at name
          → shelf.Agrees files → IsFirstBadFile files name bad → (Rose shelf.faults_before shelf.faults_after → ⊥)
          → SaysBadFile bad output (status_of ending) ⊎ (status_of ending ≡ 9)
      unfit on at name bad files asked told first shelf_held = elim (valued_so on at name asked) [
        | inl ends ↦ value_unfit g old new on at ends.0 output name shelf files told ending bad ends.1 first shelf_held
        | inr none ↦ inr none
      ]

      pub valued : (on : ℤ) (at : At) (name : List ℕ) (files : Files) (basis : List Dated) (commands : List Command)
          → AskForValue words on at name → shelf.Agrees files → IsBasis files name basis
          → g.honest new → Opens (g.reads old) commands → position_of at (length commands) ≤ length commands
          → (Rose shelf.faults_before shelf.faults_after → ⊥) → (Rose output.faults_before output.faults_after → ⊥)
          → (Rose (g.faults old) (g.faults new) → ⊥) → (status_of ending ≡ 0) ⊎ (status_of ending ≡ 9)
      valued on at name files basis commands asked told is honest opens reached shelf_held output_held disk_held =
          elim (valued_so on at name asked) [
            | inl ends ↦ value_to_end g old new on at ends.0 output name shelf files told basis is shelf_held honest disk_held ending commands ends.1 opens
                reached output_held
            | inr none ↦ inr none
          ]

      pub ahead : (on : ℤ) (p : ℕ) (name : List ℕ) (files : Files) (basis : List Dated) (commands : List Command)
          → AskForValue words on (Position p) name → shelf.Agrees files → IsBasis files name basis
          → g.honest new → Opens (g.reads old) commands → length commands < p
          → (Rose shelf.faults_before shelf.faults_after → ⊥) → (Rose (g.faults old) (g.faults new) → ⊥)
          → (status_of ending ≡ 10) ⊎ (status_of ending ≡ 9)
      ahead on p name files basis commands asked told is honest opens past shelf_held disk_held =
          elim (valued_so on (Position p) name asked) [
            | inl ends ↦ value_beyond g old new on (Position p) ends.0 output name shelf files told basis is shelf_held honest disk_held ending commands
                ends.1 opens past
            | inr none ↦ inr none
          ]

      pub unvalued : (on : ℤ) (at : At) (name : List ℕ) (files : Files) (basis : List Dated)
          → AskForValue words on at name → shelf.Agrees files → IsBasis files name basis
          → g.honest new → OpensToNone (g.reads old)
          → (Rose shelf.faults_before shelf.faults_after → ⊥) → (Rose (g.faults old) (g.faults new) → ⊥)
          → (status_of ending ≡ 5) ⊎ (status_of ending ≡ 9)
      unvalued on at name files basis asked told is honest none shelf_held disk_held = elim (valued_so on at name asked) [
        | inl ends ↦ value_refused g old new on at ends.0 output name shelf files told basis is shelf_held honest disk_held ending ends.1 none
        | inr without ↦ inr without
      ]

      -- the arguments ask for a projection, which ended so, or there was no memory to read them
      projected_so : (on : ℤ) (years : ℕ) (name : List ℕ) → AskForProject words on years name
          → EndsProject g old new on years name shelf output ending ⊎ (status_of ending ≡ 9)
      projected_so on years name asked = elim (as_asked ending does (Project on years asked.0 name) asked.1) [
        | inl ends ↦ inl ends.2
        | inr none ↦ inr none
      ]

      unfit_project : (on : ℤ) (years : ℕ) (name : List ℕ) (none : HasNoBasis shelf name) → AskForProject words on years name
          → SaysBadFile none.so.0 output (status_of ending) ⊎ (status_of ending ≡ 9)
      unfit_project on years name none asked = elim (projected_so on years name asked) [
        | inl ends ↦ project_unfit g old new on years output name shelf none.files none.agree ending none.so.0 ends none.so.1 none.held
        | inr without ↦ inr without
      ]

      projected : (on : ℤ) (years : ℕ) (name : List ℕ) (has : HasBasis shelf name) (commands : List Command)
          → AskForProject words on years name → HasJournal filing Without commands
          → (Rose output.faults_before output.faults_after → ⊥) → (status_of ending ≡ 0) ⊎ (status_of ending ≡ 9)
      projected on years name has commands asked file output_held = elim (projected_so on years name asked) [
        | inl ends ↦ project_to_end g old new on years output name shelf has.files has.agree has.so.0 has.so.1 has.held file.trusted file.held ending commands
            ends file.so output_held
        | inr none ↦ inr none
      ]

      unprojected : (on : ℤ) (years : ℕ) (name : List ℕ) (has : HasBasis shelf name) → AskForProject words on years name
          → HasNoJournal filing Without → (status_of ending ≡ 5) ⊎ (status_of ending ≡ 9)
      unprojected on years name has asked none = elim (projected_so on years name asked) [
        | inl ends ↦ project_refused g old new on years output name shelf has.files has.agree has.so.0 has.so.1 has.held none.trusted none.held ending ends none.so
        | inr without ↦ inr without
      ]

      stated : (id : Option ℕ) (commands : List Command) → AreWords words (State id) → HasJournal filing (seen_by (State id) other) commands
          → (Rose output.faults_before output.faults_after → ⊥) → (status_of ending ≡ 0) ⊎ (status_of ending ≡ 9)
      stated None commands asked file held = elim (as_asked ending does (State None) asked) [
        | inl ends ↦ books_done second kept commands ending file held ends.2
        | inr none ↦ inr none
      ]
      stated (Some id) commands asked file held = elim (as_asked ending does (State (Some id)) asked) [
        | inl ends ↦ state_to_end g old new (policy_account id) output ending ends.3 commands file.trusted file.so held file.held
        | inr none ↦ inr none
      ]

      unstated : (id : Option ℕ) → AreWords words (State id) → HasNoJournal filing (seen_by (State id) other)
          → (status_of ending ≡ 5) ⊎ (status_of ending ≡ 9)
      unstated None asked none = elim (as_asked ending does (State None) asked) [
        | inl ends ↦ books_refused second kept ending none ends.2
        | inr without ↦ inr without
      ]
      unstated (Some id) asked none = elim (as_asked ending does (State (Some id)) asked) [
        | inl ends ↦ state_refused g old new (policy_account id) output ending ends.3 none.trusted none.so none.held
        | inr without ↦ inr without
      ]

      saved : (commands : List Command) → AskForCheckpoint words → HasSecond other → HasJournal filing other commands
          → (Rose output.faults_before output.faults_after → ⊥) → (status_of ending ≡ 0) ⊎ (status_of ending ≡ 9)
      saved commands asked there file held = elim (as_asked ending does Checkpoint asked) [
        | inl ends ↦ save_done second kept commands ending there file held ends.2
        | inr none ↦ inr none
      ]

      unsaved : AskForCheckpoint words → HasSecond other → HasNoJournal filing other → (status_of ending ≡ 5) ⊎ (status_of ending ≡ 9)
      unsaved asked there none = elim (as_asked ending does Checkpoint asked) [
        | inl ends ↦ save_refused second kept ending there none ends.2
        | inr without ↦ inr without
      ]

      pub generated : AskForGenerate words → (Rose output.faults_before output.faults_after → ⊥)
          → (status_of ending ≡ 0) ⊎ (status_of ending ≡ 9)
      generated (seed, (count, (lanes, asked))) output_held = elim (as_asked ending does (Generate seed count lanes) asked) [
        | inl ends ↦ generate_to_end seed count lanes output ending ends.4 output_held
        | inr none ↦ inr none
      ]

      pub loaded : (files : Files) (basis : List Dated) (commands : List Command) → AskForLoad words
          → shelf.Agrees files → IsBasis files (codes "basis.csv") basis → g.honest new → Opens (g.reads old) commands
          → (Rose shelf.faults_before shelf.faults_after → ⊥) → (Rose output.faults_before output.faults_after → ⊥)
          → (Rose (g.faults old) (g.faults new) → ⊥) → (status_of ending ≡ 0) ⊎ (status_of ending ≡ 9)
      loaded files basis commands (seed, (count, (lanes, (workers, asked)))) told is honest opens shelf_held output_held disk_held =
          elim (as_asked ending does (Load seed count lanes workers) asked) [
            | inl ends ↦ load_to_end g old new seed count lanes workers shelf output files told ending basis commands ends.2 is honest opens
                shelf_held output_held disk_held
            | inr none ↦ inr none
          ]

      pub unloaded : (files : Files) (basis : List Dated) → AskForLoad words
          → shelf.Agrees files → IsBasis files (codes "basis.csv") basis → g.honest new → OpensToNone (g.reads old)
          → (Rose shelf.faults_before shelf.faults_after → ⊥) → (Rose (g.faults old) (g.faults new) → ⊥)
          → (status_of ending ≡ 5) ⊎ (status_of ending ≡ 9)
      unloaded files basis (seed, (count, (lanes, (workers, asked)))) told is honest none shelf_held disk_held =
          elim (as_asked ending does (Load seed count lanes workers) asked) [
            | inl ends ↦ load_refused g old new seed count lanes workers shelf output files told ending basis ends.2 is honest none shelf_held disk_held
            | inr without ↦ inr without
          ]

      pub unfit_load : (bad : ABadBasis) (files : Files) → AskForLoad words → shelf.Agrees files
          → IsFirstBadFile files (codes "basis.csv") bad → (Rose shelf.faults_before shelf.faults_after → ⊥)
          → SaysBadFile bad output (status_of ending) ⊎ (status_of ending ≡ 9)
      unfit_load bad files (seed, (count, (lanes, (workers, asked)))) told first shelf_held =
          elim (as_asked ending does (Load seed count lanes workers) asked) [
            | inl ends ↦ load_unfit g old new seed count lanes workers shelf output files told ending bad ends.2 first shelf_held
            | inr none ↦ inr none
          ]

      pub complete : (bytes name : List ℕ) (lanes : List Lane) (commands : List Command) → AskForRun words name
          → IsWholeInput input bytes → length bytes ≤ 16777216 → Reads bytes lanes → HasItsBasis lanes name shelf
          → (asks_for_values lanes ≡ true → Rose shelf.faults_before shelf.faults_after → ⊥)
          → g.honest new → Opens (g.reads old) commands → (Rose input.faults_before input.faults_after → ⊥)
          → (Rose output.faults_before output.faults_after → ⊥) → (Rose (g.faults old) (g.faults new) → ⊥)
          → (status_of ending ≡ 0) ⊎ (status_of ending ≡ 9)
      complete bytes name lanes commands run told short reads has shelf_held honest opens input_held output_held disk_held =
          elim (ran name run) [
            | inl ends ↦ run_to_end g old new auditors name input output shelf ShelfStays bytes lanes told short reads input_held ending commands ends has
                shelf_held honest opens output_held disk_held
            | inr none ↦ inr none
          ]

      pub refused_exactly : (bytes name : List ℕ) (lanes : List Lane) → AskForRun words name
          → IsWholeInput input bytes → length bytes ≤ 16777216 → Reads bytes lanes → HasItsBasis lanes name shelf
          → (asks_for_values lanes ≡ true → Rose shelf.faults_before shelf.faults_after → ⊥)
          → g.honest new → OpensToNone (g.reads old) → (Rose input.faults_before input.faults_after → ⊥)
          → (Rose (g.faults old) (g.faults new) → ⊥) → (status_of ending ≡ 5) ⊎ (status_of ending ≡ 9)
      refused_exactly bytes name lanes run told short reads has shelf_held honest none input_held disk_held =
          elim (ran name run) [
            | inl ends ↦ run_refused g old new auditors name input output shelf ShelfStays bytes lanes told short reads input_held ending ends has
                shelf_held honest none disk_held
            | inr without ↦ inr without
          ]

      pub unfit_run : (bytes name : List ℕ) (lanes : List Lane) (bad : ABadBasis) (files : Files) → AskForRun words name
          → IsWholeInput input bytes → length bytes ≤ 16777216 → Reads bytes lanes → asks_for_values lanes ≡ true
          → shelf.Agrees files → IsFirstBadFile files name bad → (Rose input.faults_before input.faults_after → ⊥)
          → (Rose shelf.faults_before shelf.faults_after → ⊥) → SaysBadFile bad output (status_of ending) ⊎ (status_of ending ≡ 9)
      unfit_run bytes name lanes bad files run told short reads asks shelf_told first input_held shelf_held =
          elim (ran name run) [
            | inl ends ↦ run_unfit g old new auditors name input output shelf ShelfStays bytes lanes told short reads input_held ending bad files ends asks
                shelf_told first shelf_held
            | inr none ↦ inr none
          ]

      pub script_refused : (bytes name : List ℕ) → AskForRun words name → IsWholeInput input bytes → IsUnreadable bytes
          → (Rose input.faults_before input.faults_after → ⊥) → (status_of ending ≡ 3) ⊎ (status_of ending ≡ 9)
      script_refused bytes name run told unreadable held =
          elim (ran name run) [
            | inl ends ↦ run_unreadable g old new auditors name input output shelf ShelfStays ending bytes ends told unreadable held
            | inr none ↦ inr none
          ]

      pub script_too_long : (name : List ℕ) → AskForRun words name → GivesMore 16777216 input.given_before input.given_after
          → (Rose input.faults_before input.faults_after → ⊥) → (status_of ending ≡ 3) ⊎ (status_of ending ≡ 9)
      script_too_long name run more held =
          elim (ran name run) [
            | inl ends ↦ run_too_long g old new auditors name input output shelf ShelfStays ending ends more held
            | inr none ↦ inr none
          ]

      -- the ending that is due
      unscript : (name : List ℕ) → AskForRun words name → HasNoScript input → (status_of ending ≡ 3) ⊎ (status_of ending ≡ 9)
      unscript name asked none = elim none.0 [
        | inl more ↦ script_too_long name asked more none.1
        | inr bytes ↦ script_refused bytes.0 name asked bytes.1 bytes.2 none.1
      ]

      abbrev ReadsValues : Type 0
      ReadsValues = (lanes : List Lane) × HasScript input lanes × (asks_for_values lanes ≡ true)

      bad_basis : (mode : Mode) → AreWords words mode → (name : List ℕ) → NeedsBasis mode ReadsValues name → HasNoBasis shelf name
          → (status_of ending ≡ 4) ⊎ (status_of ending ≡ 9)
      bad_basis (Run basis) asked name need is =
          let none : HasNoBasis shelf basis = subst (λ (n : List ℕ). HasNoBasis shelf n) need.0 is in
          let values = need.1 in
          let script = values.1 in
          said output none.so.0
          (unfit_run script.bytes basis values.0 none.so.0 none.files asked script.whole script.read.0 script.read.1 values.2 none.agree none.so.1 script.held none.held)
      bad_basis (Value on at workers basis measure) asked name need is =
          let none : HasNoBasis shelf basis = subst (λ (n : List ℕ). HasNoBasis shelf n) need is in
          said output none.so.0 (unfit on at basis none.so.0 none.files (workers, (measure, asked)) none.agree none.so.1 none.held)
      bad_basis (Project on years workers basis) asked name need is =
          let none : HasNoBasis shelf basis = subst (λ (n : List ℕ). HasNoBasis shelf n) need is in
          said output none.so.0 (unfit_project on years basis none (workers, asked))
      bad_basis (Load seed count lanes workers) asked name need is =
          let none : HasNoBasis shelf (codes "basis.csv") = subst (λ (n : List ℕ). HasNoBasis shelf n) need is in
          said output none.so.0 (unfit_load none.so.0 none.files (seed, (count, (lanes, (workers, asked)))) none.agree none.so.1 none.held)
      bad_basis _ asked name need is = absurd need

      needs : (mode : Mode) → HasItsNeeds mode input shelf other → NeedsOf mode input shelf other
      needs (Run name) has = (has.lanes, has.script name refl, λ asks. has.basis name (refl, asks))
      needs (Value on at workers name measure) has = has.basis name refl
      needs (Project on years workers name) has = has.basis name refl
      needs (State id) has = tt
      needs Checkpoint has = has.disks refl
      needs (Generate seed count lanes) has = tt
      needs (Load seed count lanes workers) has = has.basis (codes "basis.csv") refl

      bad_journal : (mode : Mode) → AreWords words mode → NeedsOf mode input shelf other → LacksItsJournal mode filing other
          → (status_of ending ≡ 5) ⊎ (status_of ending ≡ 9)
      bad_journal (Run name) asked has none =
          let script = has.1 in
          refused_exactly script.bytes name has.0 asked script.whole script.read.0 script.read.1 (basis_for has.0 name has.2) (held_for has.0 name has.2)
          none.trusted none.so script.held none.held
      bad_journal (Value on at workers name measure) asked has none =
          unvalued on at name has.files has.so.0 (workers, (measure, asked)) has.agree has.so.1 none.trusted none.so has.held none.held
      bad_journal (Project on years workers name) asked has none = unprojected on years name has (workers, asked) none
      bad_journal (State id) asked has none = unstated id asked none
      bad_journal (Load seed count lanes workers) asked has none =
          unloaded has.files has.so.0 (seed, (count, (lanes, (workers, asked)))) has.agree has.so.1 none.trusted none.so has.held none.held
      bad_journal Checkpoint asked has none = unsaved asked has none
      bad_journal (Generate seed count lanes) asked has none = absurd none

      done : (mode : Mode) → AreWords words mode → NeedsOf mode input shelf other → HasItsJournal mode filing other
          → ¬ Rose output.faults_before output.faults_after → (status_of ending ≡ 0) ⊎ (status_of ending ≡ 9)
      done (Run name) asked has journal output_held =
          let script = has.1 in
          let found = commands_of journal in
          let file = found.1 in
          complete script.bytes name has.0 found.0 asked script.whole script.read.0 script.read.1 (basis_for has.0 name has.2)
          (held_for has.0 name has.2) file.trusted file.so script.held output_held file.held
      done (Value on at workers name measure) asked has journal output_held =
          let found = journal.so in
          valued on at name has.files has.so.0 found.0 (workers, (measure, asked)) has.agree has.so.1 journal.trusted found.1 found.2 has.held output_held journal.held
      done (Project on years workers name) asked has journal output_held = (let found = commands_of journal in projected on years name has found.0 (workers, asked) found.1 output_held)
      done (State None) asked has journal output_held = (let found = commands_of journal in stated None found.0 asked found.1 output_held)
      done (State (Some id)) asked has journal output_held = (let found = commands_of journal in stated (Some id) found.0 asked found.1 output_held)
      done Checkpoint asked has journal output_held = (let found = commands_of journal in saved found.0 asked has found.1 output_held)
      done (Generate seed count lanes) asked has journal output_held = generated (seed, (count, (lanes, asked))) output_held
      done (Load seed count lanes workers) asked has journal output_held =
          let found = commands_of journal in
          let file = found.1 in
          loaded has.files has.so.0 found.0 (seed, (count, (lanes, (workers, asked)))) has.agree has.so.1 file.trusted file.so has.held output_held file.held

      pub due : (shelf.faults_before < shelf.faults_after → ending ≡ ReadFault)
          → (input.faults_before < input.faults_after → ending ≡ ReadFault) → (wanted : Ending) → IsDueEnding words input output shelf (filing_between g old new) (second_between e second kept) wanted
          → (status_of ending ≡ status_of wanted) ⊎ (status_of ending ≡ 9)
      due counted heard Usage is = as_nothing ending does is
      due counted heard BadScript is = unscript is.0 is.1 (is.2, is.3)
      due counted heard BadBasis (mode, asked, (name, need, none)) = bad_basis mode asked name need none
      due counted heard BadJournal is = bad_journal is.0 is.1 (needs is.0 is.2) is.3
      due counted heard Done is = done is.0 is.1 (needs is.0 is.2) is.3 is.4
      due counted heard Ahead (on, (p, workers, (name, (measure, asked, has, file)))) =
          let found = file.so in
          ahead on p name has.files has.so.0 found.0 (workers, (measure, asked)) has.agree has.so.1 file.trusted found.1 found.2 has.held file.held
      due counted heard ReadFault (inl rose) = inl (ap (λ (e : Ending). status_of e) (counted rose))
      due counted heard ReadFault (inr rose) = inl (ap (λ (e : Ending). status_of e) (heard rose))
      due counted heard DiskFault is = fault_told g e old new output is.1 second kept is.0 auditors input shelf InputStays ShelfStays ending words does
      due counted heard _ is = absurd is
