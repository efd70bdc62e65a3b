-- A journal and a store on the two disks, once the snapshot is read from them, or why there is none
use Rattle.std.specs.Prelude.{◌≡◌, ◌⊎◌, IsTrue, List, []}
use Rattle.memory_requests.specs.Evidence.{a_refusal}
use Rattle.stating_modes.specs.Names.{Rose, Ghosts, Command, opened_on, disk_of, is_clean, IsSnapshotOf, IsSoundSnapshot, store_disk, Snapshot, IsLeftAlone, IsLeftBy, IsShown, StartCause, OpensOn, Journal, Store}
use Rattle.posting_journal.specs.Starting.{HasStarted}
use Rattle.checkpoint_store.specs.Starts.{HasLookedAt}
use Rattle.checkpoint_store.specs.declared.faults.ReopenFault.{ReopenFault}
use Rattle.checkpoint_store.specs.declared.faults.ReopenFault.TheVariants as fault
use Rattle.office_state.specs.declared.faults.StartCause.TheVariants.{DiskFault, BadRecord, NoMemory}
use Rattle.stating_modes.specs.declared.reopened.Reopened.{Reopened}
use Rattle.stating_modes.specs.TwoDisks.{AreBothQuiet, AreTrue, IsHeldWhereTrue, IsMadeSafe, IsOnlyRead, TwoDisks}

-- the same fault, as a cause
abbrev pub as_start_cause : ReopenFault → StartCause
as_start_cause (fault.DiskFault count) = DiskFault count
as_start_cause (fault.BadRecord n) = BadRecord n
as_start_cause (fault.NoMemory lack) = NoMemory a_refusal

-- the journal was started on this disk
pub record HasJournalOn {D : Type 0} {g : Ghosts D} (old : D) (journal : Journal D g) : Type 0 where
  pub quiet : g.faults (disk_of journal) ≡ g.faults old
  pub clean : IsTrue (is_clean journal)
  pub honesty : g.honest (disk_of journal) → g.honest old
  pub opened : g.honest (disk_of journal) → HasStarted old journal
  pub opens : g.honest (disk_of journal) → OpensOn g old (disk_of journal)

-- The books are those of commands that the journal's disk holds still.
pub record AreBooksOn {D : Type 0} (g : Ghosts D) (old new : D) (books : Snapshot) : Type 0 where
  pub sound : IsSoundSnapshot books
  pub commands : List Command
  pub leave : IsSnapshotOf commands books
  pub disk : IsLeftBy g old new (opened_on commands (g.faults old)) []

-- the store was started on this disk
pub record HasStoreOn {E : Type 0} {e : Ghosts E} (old : E) (store : Store E e) : Type 0 where
  pub quiet : e.faults (store_disk store) ≡ e.faults old
  pub read : IsOnlyRead e old (store_disk store)
  pub looked : e.honest (store_disk store) → HasLookedAt old store

-- the disks under a journal and a store that were opened on these
abbrev pub disks_under : {D E : Type 0} {g : Ghosts D} {e : Ghosts E} → D → E → Reopened D E g e → TwoDisks D E
disks_under disk second opened =
    record { old = disk; new = disk_of opened.journal; second = second; kept = store_disk opened.store }

-- The snapshot was read, and neither disk failed. Both were only looked at, except that a creation may have been
-- finished.
pub record HasReopened {D E : Type 0} {g : Ghosts D} {e : Ghosts E} (disk : D) (second : E)
    (opened : Reopened D E g e) : Type 0 where
  pub sound : IsSoundSnapshot opened.books
  pub quiet : AreBothQuiet g e (disks_under disk second opened)
  pub alone : IsLeftAlone g disk (disk_of opened.journal)
  pub safe : g.honest (disk_of opened.journal) → IsMadeSafe g disk (disk_of opened.journal)
  pub only_read : IsOnlyRead e second (store_disk opened.store)
  pub looked : e.honest (store_disk opened.store) → HasLookedAt second opened.store
  pub held : IsHeldWhereTrue g e (disks_under disk second opened) opened.books

-- which of the disks failed, if one did, by the cause
abbrev pub TellsFaultOfOne : {D E : Type 0} → Ghosts D → Ghosts E → TwoDisks D E → StartCause → Type 0
TellsFaultOfOne g e disks (DiskFault count) =
    Rose (g.faults disks.old) (g.faults disks.new) ⊎ Rose (e.faults disks.second) (e.faults disks.kept)
TellsFaultOfOne g e disks cause = AreBothQuiet g e disks

-- no snapshot was read, for this cause
pub record HasNoSnapshot {D E : Type 0} (g : Ghosts D) (e : Ghosts E) (disks : TwoDisks D E)
    (cause : StartCause) : Type 0 where
  pub told : TellsFaultOfOne g e disks cause
  pub shown : AreTrue g e disks → IsShown (g.reads disks.old) cause
  pub first : IsLeftAlone g disks.old disks.new
  pub second : IsOnlyRead e disks.second disks.kept
