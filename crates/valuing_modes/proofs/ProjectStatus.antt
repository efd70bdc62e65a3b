-- What the exit status says of a projection
use Rattle.valuing_modes.proofs.Names.{◌≡◌, ℕ, ◌⊎◌, ℤ, List, ap, inl, inr, Ghosts, Command, Dated, Opens, OpensToNone, Ending, Shelving, Stream, read_as_before, read_refused, read_to_end, EndsProject, IsProjected}
use Rattle.outside_io.specs.Faults.{Rose}
use Rattle.outside_io.specs.Shelves.{Files}
use Rattle.basis_shelf.specs.Bases.{IsBasis}
use Rattle.basis_shelf.specs.FirstBad.{IsFirstBadFile}
use Rattle.basis_shelf.specs.declared.fault.BadBasis.{BadBasis as ABadBasis}
use Rattle.basis_shelf.proofs.OneBasis.{basis_or_bad}
use Rattle.program_endings.specs.Status.{status_of}
use Rattle.program_endings.specs.WithoutBasis.{SaysBadFile}
use Rattle.program_endings.proofs.BasisSteps.{bad_refused, basis_refused}

module _ {D : Type 0} (g : Ghosts D) (old new : D) (on : ℤ) (years : ℕ) (output : Stream) where
  -- nothing is projected of a file that opens to no commands
  never_projected : (basis : List Dated) → g.honest new → OpensToNone (g.reads old)
      → (Wrote : List ℕ → Type 0) → IsProjected g old new on years basis Wrote → ⊥
  never_projected basis honest none Wrote is = none is.commands (is.disk.opened honest)

  module _ (name : List ℕ) (shelf : Shelving) where
    pub project_as_before : (ending : Ending) → EndsProject g old new on years name shelf output ending
        → g.honest new → OpensToNone (g.reads old) → g.reads new ≡ g.reads old
    project_as_before ending ends honest none = elim ends [
      | inl by ↦ read_as_before g old new (IsProjected g old new on years by.basis) output ending by.ends (never_projected by.basis honest none) honest none
      | inr no_basis ↦ ap g.reads no_basis.0
    ]

    module _ (files : Files) (agrees : shelf.Agrees files) where
      pub project_unfit : (ending : Ending) (bad : ABadBasis) → EndsProject g old new on years name shelf output ending
          → IsFirstBadFile files name bad → (Rose shelf.faults_before shelf.faults_after → ⊥)
          → SaysBadFile bad output (status_of ending) ⊎ (status_of ending ≡ 9)
      project_unfit ending bad ends first shelf_held = elim ends [
        | inl by ↦ absurd (basis_or_bad files name by.basis bad (by.is files agrees) first)
        | inr none ↦ bad_refused output name shelf files agrees shelf_held ending bad first none.1
      ]

      module _ (basis : List Dated) (is : IsBasis files name basis) (shelf_held : Rose shelf.faults_before shelf.faults_after → ⊥)
          (honest : g.honest new) (disk_held : Rose (g.faults old) (g.faults new) → ⊥) where
        pub project_refused : (ending : Ending) → EndsProject g old new on years name shelf output ending → OpensToNone (g.reads old)
            → (status_of ending ≡ 5) ⊎ (status_of ending ≡ 9)
        project_refused ending ends none = elim ends [
          | inl by ↦ read_refused g old new (IsProjected g old new on years by.basis) output ending by.ends (never_projected by.basis honest none) disk_held
          | inr without ↦ inr (basis_refused output name shelf files agrees shelf_held ending basis is without.1)
        ]

        pub project_to_end : (ending : Ending) (commands : List Command) → EndsProject g old new on years name shelf output ending
            → Opens (g.reads old) commands → (Rose output.faults_before output.faults_after → ⊥)
            → (status_of ending ≡ 0) ⊎ (status_of ending ≡ 9)
        project_to_end ending commands ends opens output_held = elim ends [
          | inl by ↦ read_to_end g old new (IsProjected g old new on years by.basis) output ending commands by.ends honest opens output_held disk_held
          | inr without ↦ inr (basis_refused output name shelf files agrees shelf_held ending basis is without.1)
        ]
