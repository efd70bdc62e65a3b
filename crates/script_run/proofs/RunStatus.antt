-- What the exit status says of a run of a script
use Rattle.script_run.proofs.Names.{◌≡◌, ℕ, ◌≤◌, ◌⊎◌, List, [], length, refl, ap, sym, ◌∙◌, subst, inl, inr, Ghosts, Rose, GivesMore, Entry, Lane, Dated, Reads, Opens, OpensToNone, Ending, Done, Usage, BadBasis, BadJournal, WriteFault, DiskFault, NoMemory, Ahead, Input, IsWholeInput, Shelving, Stream, IsReadAs, IsUnreadable, asks_for_values, WroteAsEnded}
use Rattle.std.specs.Prelude.{true}
use Rattle.std.proofs.lemmas.Bool.{false≢true}
use Rattle.outside_io.specs.Shelves.{Files}
use Rattle.policy_types.specs.declared.command.Command.{Command}
use Rattle.policy_machine.specs.History.{accepted_of}
use Rattle.transcript_text.specs.Lines.{reports_text}
use Rattle.watcher_set.specs.Noted.{Auditor, reports_of}
use Rattle.basis_shelf.specs.FirstBad.{IsFirstBadFile}
use Rattle.basis_shelf.specs.declared.fault.BadBasis.{BadBasis as ABadBasis}
use Rattle.basis_shelf.proofs.OneBasis.{basis_or_bad}
use Rattle.command_csv.proofs.OneReading.{one_reading}
use Rattle.office_state.proofs.OpeningSteps.{finished}
use Rattle.program_endings.specs.Refusals.{EndsNoOffice}
use Rattle.program_endings.specs.Status.{status_of}
use Rattle.program_endings.specs.WithoutBasis.{EndsNoBasis, SaysBadFile}
use Rattle.program_endings.proofs.BasisSteps.{bad_refused, basis_refused}
use Rattle.program_endings.proofs.ReadOnlySteps.{opens_to_none}
use Rattle.script_run.specs.Outcome.{EndsScript, IsRunOf}
use Rattle.script_run.proofs.LaneNames.{EndsLanes}
use Rattle.script_run.specs.Running.{EndsRun, HasItsBasis, ReadsForValues}
use Rattle.script_run.proofs.ScriptStatus.{never_long, never_readable, one_whole, unread_readable, unread_refused}

module _ {D : Type 0} (g : Ghosts D) (old new : D) (auditors : List Auditor) where
  -- no run goes on over a file that opens to none
  ran_nowhere : {A : Type 0} (lanes : List Lane) (basis : List Dated) (output : Stream) (ending : Ending)
      → IsRunOf g old new lanes basis auditors output ending → g.honest new → OpensToNone (g.reads old) → A
  ran_nowhere lanes basis output ending ran honest none = absurd (none ran.commands (ran.opened honest))

  reads_as_before : (lanes : List Lane) (basis : List Dated) (output : Stream) (ending : Ending) → EndsScript g old new lanes basis auditors output ending
      → g.honest new → OpensToNone (g.reads old) → g.reads new ≡ g.reads old
  reads_as_before lanes basis output ending ends honest none = elim ends [
    | inl ran ↦ ran_nowhere lanes basis output ending ran honest none
    | inr said ↦ (said.1.unwritten honest (finished (g.reads old) none)).reads
  ]

  -- the statuses of a script's run over a file that opens to some commands, and over one that opens to none
  wrote_to_end : (history : List Entry) (dry : List ℕ) (texts : List (List ℕ)) (reports : List ℕ) (output : Stream) (ending : Ending)
      → WroteAsEnded g old new history dry texts reports output ending
      → (Rose output.faults_before output.faults_after → ⊥) → (Rose (g.faults old) (g.faults new) → ⊥)
      → (status_of ending ≡ 0) ⊎ (status_of ending ≡ 9)
  wrote_to_end history dry texts reports output Done wrote output_held disk_held = inl refl
  wrote_to_end history dry texts reports output (NoMemory lack) wrote output_held disk_held = inr refl
  wrote_to_end history dry texts reports output WriteFault wrote output_held disk_held = absurd (output_held wrote.0)
  wrote_to_end history dry texts reports output DiskFault wrote output_held disk_held = absurd (disk_held wrote.2)
  wrote_to_end history dry texts reports output _ wrote output_held disk_held = absurd wrote

  unopened_to_end : (output : Stream) (ending : Ending) (commands : List Command)
      → EndsNoOffice g old new output ending → g.honest new → Opens (g.reads old) commands
      → (Rose (g.faults old) (g.faults new) → ⊥) → (status_of ending ≡ 0) ⊎ (status_of ending ≡ 9)
  unopened_to_end output (NoMemory lack) commands ends honest opens disk_held = inr refl
  unopened_to_end output DiskFault commands ends honest opens disk_held = absurd (disk_held ends.1)
  unopened_to_end output BadJournal commands ends honest opens disk_held =
      absurd (opens_to_none g old new output ends honest commands opens)
  unopened_to_end output _ commands ends honest opens disk_held = absurd ends

  unopened_refused : (output : Stream) (ending : Ending) → EndsNoOffice g old new output ending
      → (Rose (g.faults old) (g.faults new) → ⊥) → (status_of ending ≡ 5) ⊎ (status_of ending ≡ 9)
  unopened_refused output BadJournal ends disk_held = inl refl
  unopened_refused output (NoMemory lack) ends disk_held = inr refl
  unopened_refused output DiskFault ends disk_held = absurd (disk_held ends.1)
  unopened_refused output _ ends disk_held = absurd ends

  ran_to_end : (lanes : List Lane) (basis : List Dated) (output : Stream) (ending : Ending) (commands : List Command)
      → EndsScript g old new lanes basis auditors output ending → g.honest new → Opens (g.reads old) commands
      → (Rose output.faults_before output.faults_after → ⊥) → (Rose (g.faults old) (g.faults new) → ⊥)
      → (status_of ending ≡ 0) ⊎ (status_of ending ≡ 9)
  ran_to_end lanes basis output ending commands ends honest opens output_held disk_held = elim ends [
    | inl ran ↦ wrote_to_end ran.history ran.dry ran.texts (reports_text (reports_of auditors (accepted_of ran.history))) output ending ran.wrote output_held disk_held
    | inr said ↦ unopened_to_end output ending commands said.0 honest opens disk_held
  ]

  refused_at_opening : (lanes : List Lane) (basis : List Dated) (output : Stream) (ending : Ending) → EndsScript g old new lanes basis auditors output ending
      → g.honest new → OpensToNone (g.reads old) → (Rose (g.faults old) (g.faults new) → ⊥)
      → (status_of ending ≡ 5) ⊎ (status_of ending ≡ 9)
  refused_at_opening lanes basis output ending ends honest none disk_held = elim ends [
    | inl ran ↦ ran_nowhere lanes basis output ending ran honest none
    | inr said ↦ unopened_refused output ending said.0 disk_held
  ]

  -- no script's run ends so
  script_usage : (lanes : List Lane) (basis : List Dated) (output : Stream) → EndsScript g old new lanes basis auditors output Usage → ⊥
  script_usage lanes basis output ends = elim ends [ inl ran ↦ ran.wrote | inr said ↦ said.0 ]

  script_ahead : (lanes : List Lane) (basis : List Dated) (output : Stream) → EndsScript g old new lanes basis auditors output Ahead → ⊥
  script_ahead lanes basis output ends = elim ends [ inl ran ↦ ran.wrote | inr said ↦ said.0 ]

  script_unfit : (lanes : List Lane) (basis : List Dated) (output : Stream) → EndsScript g old new lanes basis auditors output BadBasis → ⊥
  script_unfit lanes basis output ends = elim ends [ inl ran ↦ ran.wrote | inr said ↦ said.0 ]

  -- the same for lanes with the basis that they need
  module _ (lanes : List Lane) (name : List ℕ) (shelf : Shelving) (output : Stream) (ShelfStays : Type 0) where
    lanes_as_before : (ending : Ending) → EndsLanes g old new lanes name auditors shelf output ShelfStays ending
        → g.honest new → OpensToNone (g.reads old) → g.reads new ≡ g.reads old
    lanes_as_before ending ends honest none = elim ends [
      | inl without ↦ reads_as_before lanes [] output ending without.2 honest none
      | inr (asks, inl by) ↦ reads_as_before lanes by.basis output ending by.ends honest none
      | inr (asks, inr no_basis) ↦ ap g.reads no_basis.0
    ]

    -- if there is no basis although the shelf has it and didn't fail, memory was refused
    has_its_basis : (ending : Ending) → asks_for_values lanes ≡ true → HasItsBasis lanes name shelf
        → (asks_for_values lanes ≡ true → Rose shelf.faults_before shelf.faults_after → ⊥) → EndsNoBasis name shelf output ending
        → status_of ending ≡ 9
    has_its_basis ending asks has shelf_held none =
        let basis = has asks in
        basis_refused output name shelf basis.0 basis.1.1 (shelf_held asks) ending basis.1.0 basis.1.2 none

    lanes_to_end : (ending : Ending) (commands : List Command) → EndsLanes g old new lanes name auditors shelf output ShelfStays ending
        → HasItsBasis lanes name shelf → (asks_for_values lanes ≡ true → Rose shelf.faults_before shelf.faults_after → ⊥)
        → g.honest new → Opens (g.reads old) commands
        → (Rose output.faults_before output.faults_after → ⊥) → (Rose (g.faults old) (g.faults new) → ⊥)
        → (status_of ending ≡ 0) ⊎ (status_of ending ≡ 9)
    lanes_to_end ending commands ends has shelf_held honest opens output_held disk_held = elim ends [
      | inl without ↦ ran_to_end lanes [] output ending commands without.2 honest opens output_held disk_held
      | inr (asks, inl by) ↦ ran_to_end lanes by.basis output ending commands by.ends honest opens output_held disk_held
      | inr (asks, inr no_basis) ↦ inr (has_its_basis ending asks has shelf_held no_basis.1)
    ]

    lanes_refused : (ending : Ending) → EndsLanes g old new lanes name auditors shelf output ShelfStays ending
        → HasItsBasis lanes name shelf → (asks_for_values lanes ≡ true → Rose shelf.faults_before shelf.faults_after → ⊥)
        → g.honest new → OpensToNone (g.reads old) → (Rose (g.faults old) (g.faults new) → ⊥)
        → (status_of ending ≡ 5) ⊎ (status_of ending ≡ 9)
    lanes_refused ending ends has shelf_held honest none disk_held = elim ends [
      | inl without ↦ refused_at_opening lanes [] output ending without.2 honest none disk_held
      | inr (asks, inl by) ↦ refused_at_opening lanes by.basis output ending by.ends honest none disk_held
      | inr (asks, inr no_basis) ↦ inr (has_its_basis ending asks has shelf_held no_basis.1)
    ]

    -- and a bad file is named
    lanes_unfit : (ending : Ending) (bad : ABadBasis) (files : Files) → EndsLanes g old new lanes name auditors shelf output ShelfStays ending
        → asks_for_values lanes ≡ true → shelf.Agrees files → IsFirstBadFile files name bad
        → (Rose shelf.faults_before shelf.faults_after → ⊥) → SaysBadFile bad output (status_of ending) ⊎ (status_of ending ≡ 9)
    lanes_unfit ending bad files ends asks agrees first shelf_held = elim ends [
      | inl without ↦ absurd (false≢true (sym without.0 ∙ asks))
      | inr (needs, inl by) ↦ absurd (basis_or_bad files name by.basis bad (by.is files agrees) first)
      | inr (needs, inr no_basis) ↦ bad_refused output name shelf files agrees shelf_held ending bad first no_basis.1
    ]

    -- no script's run ends so
    lanes_usage : EndsLanes g old new lanes name auditors shelf output ShelfStays Usage → ⊥
    lanes_usage ends = elim ends [
      | inl without ↦ script_usage lanes [] output without.2
      | inr (asks, inl by) ↦ script_usage lanes by.basis output by.ends
      | inr (asks, inr no_basis) ↦ no_basis.1
    ]

    lanes_ahead : EndsLanes g old new lanes name auditors shelf output ShelfStays Ahead → ⊥
    lanes_ahead ends = elim ends [
      | inl without ↦ script_ahead lanes [] output without.2
      | inr (asks, inl by) ↦ script_ahead lanes by.basis output by.ends
      | inr (asks, inr no_basis) ↦ no_basis.1
    ]

    lanes_bad_file : EndsLanes g old new lanes name auditors shelf output ShelfStays BadBasis
        → (asks_for_values lanes ≡ true) × EndsNoBasis name shelf output BadBasis
    lanes_bad_file ends = elim ends [
      | inl without ↦ absurd (script_unfit lanes [] output without.2)
      | inr (asks, inl by) ↦ absurd (script_unfit lanes by.basis output by.ends)
      | inr (asks, inr no_basis) ↦ (asks, no_basis.1)
    ]

  -- and of a run, with the script that it needs
  module _ (name : List ℕ) (input : Input) (output : Stream) (shelf : Shelving) (ShelfStays : Type 0) where
    pub run_as_before : (ending : Ending) → EndsRun g old new name auditors input output shelf ShelfStays ending
        → g.honest new → OpensToNone (g.reads old) → g.reads new ≡ g.reads old
    run_as_before ending ends honest none = elim ends [
      | inl read ↦ lanes_as_before read.lanes name shelf output ShelfStays ending read.ends honest none
      | inr unread ↦ ap g.reads unread.0
    ]

    -- no run ends so
    pub run_usage : EndsRun g old new name auditors input output shelf ShelfStays Usage → ⊥
    run_usage ends = elim ends [
      | inl read ↦ lanes_usage read.lanes name shelf output ShelfStays read.ends
      | inr unread ↦ unread.2
    ]

    pub run_ahead : EndsRun g old new name auditors input output shelf ShelfStays Ahead → ⊥
    run_ahead ends = elim ends [
      | inl read ↦ lanes_ahead read.lanes name shelf output ShelfStays read.ends
      | inr unread ↦ unread.2
    ]

    -- and only one whose script asks for values names a bad file
    pub run_bad_file : EndsRun g old new name auditors input output shelf ShelfStays BadBasis
        → ReadsForValues input × EndsNoBasis name shelf output BadBasis
    run_bad_file ends = elim ends [
      | inl read ↦
          let bad = lanes_bad_file read.lanes name shelf output ShelfStays read.ends in
          (record { bytes = read.bytes; gave = read.gave; lanes = read.lanes; read = read.read; asks = bad.0 }, bad.1)
      | inr unread ↦ absurd unread.2
    ]

    -- a script that can't be read is refused
    pub run_unreadable : (ending : Ending) (bytes : List ℕ) → EndsRun g old new name auditors input output shelf ShelfStays ending
        → IsWholeInput input bytes → IsUnreadable bytes → (Rose input.faults_before input.faults_after → ⊥)
        → (status_of ending ≡ 3) ⊎ (status_of ending ≡ 9)
    run_unreadable ending bytes ends whole unreadable held = elim ends [
      | inl read ↦ never_readable input read.bytes bytes read.lanes read.gave read.read whole unreadable
      | inr unread ↦ unread_refused input output ending unread.2 held
    ]

    -- and so is a script that is too long
    pub run_too_long : (ending : Ending) → EndsRun g old new name auditors input output shelf ShelfStays ending
        → GivesMore 16777216 input.given_before input.given_after → (Rose input.faults_before input.faults_after → ⊥)
        → (status_of ending ≡ 3) ⊎ (status_of ending ≡ 9)
    run_too_long ending ends more held = elim ends [
      | inl read ↦ never_long input read.bytes read.lanes read.gave read.read more
      | inr unread ↦ unread_refused input output ending unread.2 held
    ]

    -- a script that can be read is read as these lanes
    module _ (bytes : List ℕ) (lanes : List Lane) (whole : IsWholeInput input bytes) (short : length bytes ≤ 16777216)
        (reads : Reads bytes lanes) (held : Rose input.faults_before input.faults_after → ⊥) where
      its_lanes : (ending : Ending) → EndsRun g old new name auditors input output shelf ShelfStays ending
          → EndsLanes g old new lanes name auditors shelf output ShelfStays ending ⊎ (status_of ending ≡ 9)
      its_lanes ending ends = elim ends [
        | inl read ↦
            let same : read.lanes ≡ lanes =
            one_reading bytes read.lanes lanes
            (subst (λ (bs : List ℕ). IsReadAs bs read.lanes) (one_whole input read.bytes bytes read.gave whole) read.read).1 reads in
            inl (subst (λ (ls : List Lane). EndsLanes g old new ls name auditors shelf output ShelfStays ending) same read.ends)
        | inr unread ↦ inr (unread_readable input output ending bytes lanes unread.2 whole short reads held)
      ]

      pub run_to_end : (ending : Ending) (commands : List Command) → EndsRun g old new name auditors input output shelf ShelfStays ending
          → HasItsBasis lanes name shelf → (asks_for_values lanes ≡ true → Rose shelf.faults_before shelf.faults_after → ⊥)
          → g.honest new → Opens (g.reads old) commands
          → (Rose output.faults_before output.faults_after → ⊥) → (Rose (g.faults old) (g.faults new) → ⊥)
          → (status_of ending ≡ 0) ⊎ (status_of ending ≡ 9)
      run_to_end ending commands ends has shelf_held honest opens output_held disk_held = elim (its_lanes ending ends) [
        | inl ran ↦ lanes_to_end lanes name shelf output ShelfStays ending commands ran has shelf_held honest opens output_held disk_held
        | inr none ↦ inr none
      ]

      pub run_refused : (ending : Ending) → EndsRun g old new name auditors input output shelf ShelfStays ending
          → HasItsBasis lanes name shelf → (asks_for_values lanes ≡ true → Rose shelf.faults_before shelf.faults_after → ⊥)
          → g.honest new → OpensToNone (g.reads old) → (Rose (g.faults old) (g.faults new) → ⊥)
          → (status_of ending ≡ 5) ⊎ (status_of ending ≡ 9)
      run_refused ending ends has shelf_held honest none disk_held = elim (its_lanes ending ends) [
        | inl ran ↦ lanes_refused lanes name shelf output ShelfStays ending ran has shelf_held honest none disk_held
        | inr without ↦ inr without
      ]

      pub run_unfit : (ending : Ending) (bad : ABadBasis) (files : Files)
          → EndsRun g old new name auditors input output shelf ShelfStays ending
          → asks_for_values lanes ≡ true → shelf.Agrees files → IsFirstBadFile files name bad
          → (Rose shelf.faults_before shelf.faults_after → ⊥) → SaysBadFile bad output (status_of ending) ⊎ (status_of ending ≡ 9)
      run_unfit ending bad files ends asks agrees first shelf_held = elim (its_lanes ending ends) [
        | inl ran ↦ lanes_unfit lanes name shelf output ShelfStays ending bad files ran asks agrees first shelf_held
        | inr none ↦ inr none
      ]
