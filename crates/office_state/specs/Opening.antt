-- What opening an office does
use Rattle.std.specs.Prelude.{◌≡◌, ℕ, []}
use Rattle.office_state.specs.Names.{Ghosts, IsUnfinished, LooksOn, WatcherGhosts}
use Rattle.outside_io.specs.Faults.{Rose}
use Rattle.office_state.specs.declared.faults.StartCause.{StartCause}
use Rattle.office_state.specs.declared.faults.StartCause.TheVariants.{DiskFault}
use Rattle.office_state.specs.declared.state.OfficeState.{OfficeState}
use Rattle.office_state.specs.Journals.{Opens, IsShown}
use Rattle.office_state.specs.Images.{IsLeftAlone}
use Rattle.office_state.specs.States.{begun_of, disk_of, opening_of}
use Rattle.office_state.specs.Standing.{StandsFor}

-- The office stands for no turns yet, and the disk didn't fail. If the disk is honest once the office is open, it was
-- honest before, the office is that of the commands to which its file opened, and only an unfinished creation was
-- written to.
pub record HasOpened {D W : Type 0} {g : Ghosts D} {w : WatcherGhosts W} (old : D) (state : OfficeState D W g w) : Type 0 where
  pub begun : begun_of state ≡ old
  pub stands : StandsFor state []
  pub quiet : g.faults (disk_of state) ≡ g.faults old
  pub opened : g.honest (disk_of state) → Opens (g.reads old) (opening_of state).commands
  pub honesty : g.honest (disk_of state) → g.honest old
  pub unwritten : g.honest (disk_of state) → ¬ IsUnfinished (g.reads old) → LooksOn g old (disk_of state)

-- a fault of the disk has its count of faults, which rose; any other cause leaves the count as it was
abbrev pub TellsFault : ℕ → ℕ → StartCause → Type 0
TellsFault before now (DiskFault count) = (count ≡ now) × Rose before now
TellsFault before now cause = now ≡ before

-- No office was opened, since the disk failed, or for what the bytes show, or since memory was refused.
pub record HasNotOpened {D : Type 0} (g : Ghosts D) (old new : D) (cause : StartCause) : Type 0 where
  pub told : TellsFault (g.faults old) (g.faults new) cause
  pub shown : g.honest new → IsShown (g.reads old) cause
  pub alone : IsLeftAlone g old new
