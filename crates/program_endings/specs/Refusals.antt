-- How a mode ends that opened no office: the line that says why
use Rattle.std.specs.Prelude.{◌≡◌, ℕ, List, ◌++◌, codes, decimal}
use Rattle.program_endings.specs.Names.{Ghosts, Rose, NotAJournal, BadRecord, FaultyDisk, NoRoom}
use Rattle.office_state.specs.Journals.{IsShown}
use Rattle.office_state.specs.declared.faults.StartCause.{StartCause}
use Rattle.program_endings.specs.declared.ending.Ending.{Ending}
use Rattle.program_endings.specs.declared.ending.Ending.TheVariants.{BadJournal, DiskFault, NoMemory}
use Rattle.program_endings.specs.Writing.{Stream, WroteLine}

-- the line of a file's refusal; the second states the first record that can't stand
abbrev pub SaysWhy : StartCause → Stream → Type 0
SaysWhy NotAJournal output = WroteLine output (codes "badjournal,notajournal")
SaysWhy (BadRecord n) output = WroteLine output (codes "badjournal,badrecord," ++ decimal n)
SaysWhy _ _ = ⊥

-- How a mode ends for which no office was opened, or for which nothing ran on the office since memory was refused. A
-- line says what the journal's file shows, that the disk failed, or that memory was refused. Unless the disk failed,
-- its count of faults is as it was.
abbrev pub EndsNoOffice : {D : Type 0} → Ghosts D → D → D → Stream → Ending → Type 0
EndsNoOffice g old new output BadJournal =
    (cause : StartCause) × SaysWhy cause output × (g.honest new → IsShown (g.reads old) cause) × (g.faults new ≡ g.faults old)
EndsNoOffice g old new output DiskFault = WroteLine output (codes "diskfault") × Rose (g.faults old) (g.faults new)
EndsNoOffice g old new output (NoMemory lack) = WroteLine output (codes "nomemory") × (g.faults new ≡ g.faults old)
EndsNoOffice _ _ _ _ _ = ⊥

-- the line that says why no office was opened
abbrev pub SaysUnopened : StartCause → Stream → Ending → Type 0
SaysUnopened (FaultyDisk count) output DiskFault = WroteLine output (codes "diskfault")
SaysUnopened NotAJournal output BadJournal = WroteLine output (codes "badjournal,notajournal")
SaysUnopened (BadRecord n) output BadJournal = WroteLine output (codes "badjournal,badrecord," ++ decimal n)
SaysUnopened (BadRecord n) output (NoMemory lack) = WroteLine output (codes "nomemory")
SaysUnopened (NoRoom lack) output (NoMemory other_lack) = WroteLine output (codes "nomemory")
SaysUnopened _ _ _ = ⊥
