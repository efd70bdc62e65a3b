-- How a mode ends that reports on the snapshot of a journal
use Rattle.std.specs.Prelude.{◌⊎◌, ℕ, List, codes}
use Rattle.stating_modes.specs.Names.{Rose, AppendsPart, Ghosts, Snapshot, IsShown, StartCause, Stream, WroteAll, WroteLine, Ending, Done, BadJournal, WriteFault, DiskFault, NoMemory, SaysWhy}
use Rattle.stating_modes.specs.TwoDisks.{AreBothQuiet, AreTrue, IsHeldWhereTrue, TwoDisks}

-- It is so for a snapshot. If the disks are true, it is the snapshot of the journal's commands.
pub record TellsSnapshot {D E : Type 0} (g : Ghosts D) (e : Ghosts E) (disks : TwoDisks D E) (IsSo : Snapshot → Type 0) : Type 0 where
  pub snapshot : Snapshot
  pub so : IsSo snapshot
  pub held : IsHeldWhereTrue g e disks snapshot
  pub quiet : AreBothQuiet g e disks

-- How it ends. Its text was written, whole or, if the output failed, a prefix of it. Or none was written, since the
-- journal was refused, for a reason that its bytes show if the disks are true, since one of the disks failed, or
-- since memory was refused.
abbrev pub EndsTelling : {D E : Type 0} → Ghosts D → Ghosts E → TwoDisks D E → ((List ℕ → Type 0) → Snapshot → Type 0)
    → Stream → Ending → Type 0
EndsTelling g e disks Tells output Done = TellsSnapshot g e disks (Tells (WroteAll output))
EndsTelling g e disks Tells output WriteFault =
    Rose output.faults_before output.faults_after × TellsSnapshot g e disks (Tells (AppendsPart output.before output.after))
EndsTelling g e disks Tells output BadJournal =
    (cause : StartCause) × SaysWhy cause output × (AreTrue g e disks → IsShown (g.reads disks.old) cause) × AreBothQuiet g e disks
EndsTelling g e disks Tells output DiskFault =
    (Rose (g.faults disks.old) (g.faults disks.new) ⊎ Rose (e.faults disks.second) (e.faults disks.kept))
    × WroteLine output (codes "diskfault")
EndsTelling g e disks Tells output (NoMemory lack) = WroteLine output (codes "nomemory") × AreBothQuiet g e disks
EndsTelling g e disks Tells output _ = ⊥
