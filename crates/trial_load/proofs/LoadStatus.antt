-- What the exit status says of a generated script, written or run
use Rattle.trial_load.proofs.Names.{◌≡◌, ℕ, ◌⊎◌, List, codes, refl, ap, inl, inr, Command, Entry, Lane, Opening, Dated, generated_lanes, Ending, Done, Usage, BadBasis, BadJournal, WriteFault, DiskFault, NoMemory, Ahead, Shelving, Stream, EndsLoad, EndsLoading, IsLoadOf}
use Rattle.outside_io.specs.Faults.{Rose}
use Rattle.outside_io.specs.Shelves.{Files}
use Rattle.outside_io.specs.declared.disks.Disk.{Ghosts}
use Rattle.basis_shelf.specs.Bases.{IsBasis}
use Rattle.basis_shelf.specs.FirstBad.{IsFirstBadFile}
use Rattle.basis_shelf.specs.declared.fault.BadBasis.{BadBasis as ABadBasis}
use Rattle.basis_shelf.proofs.OneBasis.{basis_or_bad}
use Rattle.office_state.specs.Journals.{Opens, OpensToNone}
use Rattle.office_state.proofs.OpeningSteps.{finished}
use Rattle.program_endings.specs.Status.{status_of}
use Rattle.program_endings.specs.WithoutBasis.{EndsNoBasis, SaysBadFile}
use Rattle.program_endings.proofs.ReadOnlySteps.{opens_to_none}
use Rattle.program_endings.proofs.BasisSteps.{bad_refused, basis_refused}
use Rattle.trial_load.specs.Generating.{EndsGenerate}

pub generate_to_end : (seed count lanes : ℕ) (output : Stream) (ending : Ending) → EndsGenerate seed count lanes output ending
    → (Rose output.faults_before output.faults_after → ⊥) → (status_of ending ≡ 0) ⊎ (status_of ending ≡ 9)
generate_to_end seed count lanes output Done ends output_held = inl refl
generate_to_end seed count lanes output (NoMemory lack) ends output_held = inr refl
generate_to_end seed count lanes output WriteFault ends output_held = absurd (output_held ends.0)
generate_to_end seed count lanes output _ ends output_held = absurd ends

module _ {D : Type 0} (g : Ghosts D) (old new : D) where
  nowhere : {A : Type 0} (lanes : List Lane) (workers : ℕ) (Tells : Opening → List Entry → List ℕ → Type 0) → IsLoadOf g old new lanes workers Tells
      → g.honest new → OpensToNone (g.reads old) → A
  nowhere lanes workers Tells load honest none = absurd (none load.commands (load.opened honest))

  module _ (lanes : List Lane) (workers : ℕ) (basis : List Dated) (output : Stream) where
    loading_as_before : (ending : Ending) → EndsLoading g old new lanes workers basis output ending
        → g.honest new → OpensToNone (g.reads old) → g.reads new ≡ g.reads old
    loading_as_before Done ends honest none = nowhere _ _ _ ends honest none
    loading_as_before BadJournal ends honest none = (ends.1.unwritten honest (finished (g.reads old) none)).reads
    loading_as_before WriteFault ends honest none = nowhere _ _ _ ends honest none
    loading_as_before DiskFault ends honest none = elim ends [
      | inl said ↦ (said.1.unwritten honest (finished (g.reads old) none)).reads
      | inr load ↦ nowhere _ _ _ load.1 honest none
    ]
    loading_as_before (NoMemory lack) ends honest none = elim ends [
      | inl said ↦ (said.1.unwritten honest (finished (g.reads old) none)).reads
      | inr (inl load) ↦ nowhere _ _ _ load honest none
      | inr (inr load) ↦ nowhere _ _ _ load honest none
    ]
    loading_as_before _ ends honest none = absurd ends.0

    loading_to_end : (ending : Ending) (commands : List Command) → EndsLoading g old new lanes workers basis output ending
        → g.honest new → Opens (g.reads old) commands
        → (Rose output.faults_before output.faults_after → ⊥) → (Rose (g.faults old) (g.faults new) → ⊥)
        → (status_of ending ≡ 0) ⊎ (status_of ending ≡ 9)
    loading_to_end Done commands ends honest opens output_held disk_held = inl refl
    loading_to_end (NoMemory lack) commands ends honest opens output_held disk_held = inr refl
    loading_to_end WriteFault commands ends honest opens output_held disk_held = absurd (output_held ends.tells.wrote.0)
    loading_to_end DiskFault commands ends honest opens output_held disk_held = elim ends [
      | inl said ↦ absurd (disk_held said.0.1)
      | inr load ↦ absurd (disk_held load.0)
    ]
    loading_to_end BadJournal commands ends honest opens output_held disk_held =
        absurd (opens_to_none g old new output ends.0 honest commands opens)
    loading_to_end _ commands ends honest opens output_held disk_held = absurd ends.0

    loading_refused : (ending : Ending) → EndsLoading g old new lanes workers basis output ending
        → g.honest new → OpensToNone (g.reads old) → (Rose (g.faults old) (g.faults new) → ⊥)
        → (status_of ending ≡ 5) ⊎ (status_of ending ≡ 9)
    loading_refused BadJournal ends honest none disk_held = inl refl
    loading_refused (NoMemory lack) ends honest none disk_held = inr refl
    loading_refused DiskFault ends honest none disk_held = elim ends [
      | inl said ↦ absurd (disk_held said.0.1)
      | inr load ↦ absurd (disk_held load.0)
    ]
    loading_refused Done ends honest none disk_held = nowhere _ _ _ ends honest none
    loading_refused WriteFault ends honest none disk_held = nowhere _ _ _ ends honest none
    loading_refused _ ends honest none disk_held = absurd ends.0

  module _ (seed count lanes workers : ℕ) (shelf : Shelving) (output : Stream) where
    abbrev all_lanes : List Lane
    all_lanes = generated_lanes seed lanes count

    pub load_as_before : (ending : Ending) → EndsLoad g old new seed count lanes workers shelf output ending
        → g.honest new → OpensToNone (g.reads old) → g.reads new ≡ g.reads old
    load_as_before ending ends honest none = elim ends [
      | inl by ↦ loading_as_before all_lanes workers by.basis output ending by.ends honest none
      | inr no_basis ↦ ap g.reads no_basis.0
    ]

    -- no load ends so
    pub load_usage : EndsLoad g old new seed count lanes workers shelf output Usage → ⊥
    load_usage ends = elim ends [
      | inl by ↦ by.ends.0
      | inr no_basis ↦ no_basis.1
    ]

    pub load_ahead : EndsLoad g old new seed count lanes workers shelf output Ahead → ⊥
    load_ahead ends = elim ends [
      | inl by ↦ by.ends.0
      | inr no_basis ↦ no_basis.1
    ]

    pub load_bad_file : EndsLoad g old new seed count lanes workers shelf output BadBasis
        → EndsNoBasis (codes "basis.csv") shelf output BadBasis
    load_bad_file ends = elim ends [
      | inl by ↦ absurd by.ends.0
      | inr no_basis ↦ no_basis.1
    ]

    module _ (files : Files) (agrees : shelf.Agrees files) where
      pub load_to_end : (ending : Ending) (basis : List Dated) (commands : List Command) → EndsLoad g old new seed count lanes workers shelf output ending
          → IsBasis files (codes "basis.csv") basis → g.honest new → Opens (g.reads old) commands
          → (Rose shelf.faults_before shelf.faults_after → ⊥) → (Rose output.faults_before output.faults_after → ⊥)
          → (Rose (g.faults old) (g.faults new) → ⊥) → (status_of ending ≡ 0) ⊎ (status_of ending ≡ 9)
      load_to_end ending basis commands ends is honest opens shelf_held output_held disk_held = elim ends [
        | inl by ↦ loading_to_end all_lanes workers by.basis output ending commands by.ends honest opens output_held disk_held
        | inr no_basis ↦ inr (basis_refused output (codes "basis.csv") shelf files agrees shelf_held ending basis is no_basis.1)
      ]

      pub load_refused : (ending : Ending) (basis : List Dated) → EndsLoad g old new seed count lanes workers shelf output ending
          → IsBasis files (codes "basis.csv") basis → g.honest new → OpensToNone (g.reads old)
          → (Rose shelf.faults_before shelf.faults_after → ⊥) → (Rose (g.faults old) (g.faults new) → ⊥)
          → (status_of ending ≡ 5) ⊎ (status_of ending ≡ 9)
      load_refused ending basis ends is honest none shelf_held disk_held = elim ends [
        | inl by ↦ loading_refused all_lanes workers by.basis output ending by.ends honest none disk_held
        | inr no_basis ↦ inr (basis_refused output (codes "basis.csv") shelf files agrees shelf_held ending basis is no_basis.1)
      ]

      pub load_unfit : (ending : Ending) (bad : ABadBasis) → EndsLoad g old new seed count lanes workers shelf output ending
          → IsFirstBadFile files (codes "basis.csv") bad → (Rose shelf.faults_before shelf.faults_after → ⊥)
          → SaysBadFile bad output (status_of ending) ⊎ (status_of ending ≡ 9)
      load_unfit ending bad ends first shelf_held = elim ends [
        | inl by ↦ absurd (basis_or_bad files (codes "basis.csv") by.basis bad (by.is files agrees) first)
        | inr no_basis ↦ bad_refused output (codes "basis.csv") shelf files agrees shelf_held ending bad first no_basis.1
      ]
