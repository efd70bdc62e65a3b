-- What a mode that only reads reports of the disk's file
use Rattle.std.specs.Prelude.{List, []}
use Rattle.office_state.specs.Images.{IsLeftBy}
use Rattle.outside_io.specs.declared.disks.Disk.{Ghosts}
use Rattle.policy_machine.specs.History.{opened_on}
use Rattle.policy_types.specs.declared.command.Command.{Command}

-- An office was opened on the commands of the disk's file, which satisfy this, and the disk holds them still.
pub record HoldsStill {D : Type 0} (g : Ghosts D) (old new : D) (AreSo : List Command → Type 0) : Type 0 where
  pub commands : List Command
  pub so : AreSo commands
  pub disk : IsLeftBy g old new (opened_on commands (g.faults old)) []
