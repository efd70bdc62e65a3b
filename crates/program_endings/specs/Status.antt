-- The exit statuses of the program
use Rattle.std.specs.Prelude.{◌≡◌, ℕ}
use Rattle.program_endings.specs.declared.ending.Ending.{Ending}
use Rattle.program_endings.specs.declared.ending.Ending.TheVariants.{Done, Usage, BadScript, BadBasis, BadJournal, ReadFault, WriteFault, DiskFault, NoMemory, Ahead}

abbrev pub status_of : Ending → ℕ
status_of Done = 0
status_of Usage = 2
status_of BadScript = 3
status_of BadBasis = 4
status_of BadJournal = 5
status_of ReadFault = 6
status_of WriteFault = 7
status_of DiskFault = 8
status_of (NoMemory lack) = 9
status_of Ahead = 10

-- the statuses that the program ends with
abbrev pub IsStatus : ℕ → Type 0
IsStatus status = (ending : Ending) × (status ≡ status_of ending)
