-- What the exit status says of `state`
use Rattle.stating_modes.proofs.Names.{◌≡◌, ℕ, ◌⊎◌, List, Rose, Ghosts, Command, Opens, OpensToNone, Ending, Stream, read_as_before, read_refused, read_to_end, EndsState, IsStated}
use Rattle.program_endings.specs.Status.{status_of}

module _ {D : Type 0} (g : Ghosts D) (old new : D) (text_of : List Command → List ℕ) (output : Stream) (ending : Ending)
    (ends : EndsState g old new text_of output ending) where
  -- nothing is reported of a file that opens to none
  never_stated : g.honest new → OpensToNone (g.reads old) → (Wrote : List ℕ → Type 0) → IsStated g old new text_of Wrote → ⊥
  never_stated honest none Wrote stated = none stated.commands (stated.disk.opened honest)

  pub state_as_before : g.honest new → OpensToNone (g.reads old) → g.reads new ≡ g.reads old
  state_as_before honest none = read_as_before g old new (IsStated g old new text_of) output ending ends (never_stated honest none) honest none

  pub state_to_end : (commands : List Command) → g.honest new → Opens (g.reads old) commands
      → (Rose output.faults_before output.faults_after → ⊥) → (Rose (g.faults old) (g.faults new) → ⊥)
      → (status_of ending ≡ 0) ⊎ (status_of ending ≡ 9)
  state_to_end commands honest opens output_held disk_held =
      read_to_end g old new (IsStated g old new text_of) output ending commands ends honest opens output_held disk_held

  pub state_refused : g.honest new → OpensToNone (g.reads old) → (Rose (g.faults old) (g.faults new) → ⊥)
      → (status_of ending ≡ 5) ⊎ (status_of ending ≡ 9)
  state_refused honest none disk_held =
      read_refused g old new (IsStated g old new text_of) output ending ends (never_stated honest none) disk_held
