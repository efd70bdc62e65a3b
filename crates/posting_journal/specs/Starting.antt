-- What opening a journal returns.
use Rattle.std.specs.Prelude.{◌≡◌, ℕ, List, [], Result, Ok, Err}
use Rattle.posting_journal.specs.Names.{Rose, Ghosts}
use Rattle.posting_journal.specs.Files.{IsJournal}
use Rattle.posting_journal.specs.Creation.{IsForeign, IsBadAt, OpensToBodies}
use Rattle.posting_journal.specs.Opening.{HasSynced}
use Rattle.posting_journal.specs.Runs.{IsSafe}
use Rattle.posting_journal.specs.States.{StandsFor, disk_of}
use Rattle.posting_journal.specs.declared.faults.JournalCause.{JournalCause}
use Rattle.posting_journal.specs.declared.faults.JournalCause.TheVariants.{DiskFault, NotAJournal, BadRecord}
use Rattle.posting_journal.specs.declared.faults.JournalFault.{JournalFault}
use Rattle.posting_journal.specs.declared.journal.Journal.{Journal}

-- A fault of the disk has its count of faults, which rose. Any other cause leaves the count as it was.
abbrev pub TellsCause : ℕ → ℕ → JournalCause → Type 0
TellsCause before now (DiskFault count) = (count ≡ now) × Rose before now
TellsCause before now cause = now ≡ before

-- what the bytes show of a refused file
abbrev pub ShowsCause : List ℕ → JournalCause → Type 0
ShowsCause bytes (DiskFault count) = Unit {0}
ShowsCause bytes NotAJournal = IsForeign bytes
ShowsCause bytes (BadRecord n) = IsBadAt bytes n

-- the cause for which a file with these bytes is refused
abbrev pub IsRefusedFor : List ℕ → JournalCause → Type 0
IsRefusedFor bytes (DiskFault count) = ⊥
IsRefusedFor bytes cause = ShowsCause bytes cause

abbrev pub IsFault : JournalCause → Type 0
IsFault (DiskFault count) = Unit {0}
IsFault cause = ⊥

-- the disk that comes back, under the journal or with the cause
abbrev pub disk_back : {D : Type 0} {g : Ghosts D} → Result (Journal D g) (JournalFault D) → D
disk_back (Ok journal) = disk_of journal
disk_back (Err fault) = fault.disk

-- The journal is that of the bodies to which the file opened, and each image is what is read.
pub record HasStarted {D : Type 0} {g : Ghosts D} (old : D) (journal : Journal D g) : Type 0 where
  pub bodies : List (List ℕ)
  pub opened : OpensToBodies (g.reads old) bodies
  pub holds : IsJournal (g.reads journal.disk) bodies
  pub stands : StandsFor journal bodies []
  pub safe : IsSafe g journal.disk
  pub moments : HasSynced g old journal.disk
