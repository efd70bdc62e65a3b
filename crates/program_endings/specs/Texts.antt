-- How a text is written, and how a mode ends that only reads
use Rattle.std.specs.Prelude.{ℕ, List, codes, Result, Ok, Err, Vec}
use Rattle.std.specs.Global.{Global}
use Rattle.memory_requests.specs.declared.evidence.NoMemory.{NoMemory as Refusal}
use Rattle.program_endings.specs.Names.{Rose, AppendsPart, Ghosts, IsLeftAlone}
use Rattle.program_endings.specs.declared.ending.Ending.{Ending}
use Rattle.program_endings.specs.declared.ending.Ending.TheVariants.{Done, WriteFault, NoMemory}
use Rattle.program_endings.specs.Writing.{Stream, WroteAll, WroteLine, WrotePart}
use Rattle.program_endings.specs.Refusals.{EndsNoOffice}

-- How a text is written: whole, or a prefix of it, or, if memory for it was refused, a line in its place.
abbrev pub EndsText : Result (Vec ℕ Global) Refusal → Stream → Ending → Type 0
EndsText (Ok text) output Done = WroteAll output text.items
EndsText (Ok text) output WriteFault = WrotePart output text.items
EndsText (Err lack) output (NoMemory other_lack) = WroteLine output (codes "nomemory")
EndsText _ _ _ = ⊥

-- How a mode ends that only reads the disk's file: what its text says of the file was written, whole or, if the
-- output failed, a prefix of it; or no text was written, and the disk is left alone.
abbrev pub EndsReadOnly : {D : Type 0} → Ghosts D → D → D → ((List ℕ → Type 0) → Type 0) → Stream → Ending → Type 0
EndsReadOnly g old new Tells output Done = Tells (WroteAll output)
EndsReadOnly g old new Tells output WriteFault =
    Rose output.faults_before output.faults_after × Tells (AppendsPart output.before output.after)
EndsReadOnly g old new Tells output ending = EndsNoOffice g old new output ending × IsLeftAlone g old new
