-- What reopening answers: the snapshot of a journal, or why there is none
use Rattle.std.specs.Prelude.{◌≡◌, ◌⊎◌, ℕ, ◌+◌, ◌-◌, ◌<◌, ◌≤◌, List, [], length, map, take, None, slice_index_or, IfOk, OnOk, Result, Ok, Err}
use Rattle.checkpoint_store.specs.Names.{AllByRecursion, Rose, Ghosts, IsAccepted, judge, Command, IsValid, LooksOn, BodiesHave, StaysAs, bodies_of, StandsFor, count_of, disk_of, spelling_of}
use Rattle.posting_journal.specs.declared.journal.Journal.{Journal}
use Rattle.checkpoint_store.specs.declared.faults.ReopenFault.{ReopenFault}
use Rattle.checkpoint_store.specs.declared.faults.ReopenFault.TheVariants.{DiskFault, BadRecord, NoMemory}
use Rattle.checkpoint_store.specs.declared.snapshot.Snapshot.{Snapshot}
use Rattle.checkpoint_store.specs.declared.store.Store.{Store}
use Rattle.checkpoint_store.specs.Checkpoints.{CheckpointBytes, IsSnapshotOf, IsSoundSnapshot}
use Rattle.checkpoint_store.specs.Stores.{Knows, MightLeave, store_disk}

-- The first so many bodies spell commands, accepted one after the other, and the snapshot is theirs.
pub record IsSnapshotOfFront (bodies : List (List ℕ)) (s : Snapshot) : Type 0 where
  pub commands : List Command
  pub spelled : take s.position bodies ≡ map spelling_of commands
  pub valid : AllByRecursion IsValid commands
  pub accepted : IsAccepted commands
  pub snapshot : IsSnapshotOf commands s

-- All bodies do, and the snapshot is theirs.
pub record IsSnapshotOfAll (bodies : List (List ℕ)) (s : Snapshot) : Type 0 where
  pub commands : List Command
  pub spelled : bodies ≡ map spelling_of commands
  pub valid : AllByRecursion IsValid commands
  pub accepted : IsAccepted commands
  pub snapshot : IsSnapshotOf commands s

-- the commands are valid, and accepted one after the other
abbrev pub AreDecided : List Command → Type 0
AreDecided commands = AllByRecursion IsValid commands × IsAccepted commands

-- Such commands leave the snapshot, whatever the disk is; and where it comes back honest, all bodies of the journal spell them.
pub record IsSnapshotRead {D : Type 0} {g : Ghosts D} (journal : Journal D g) (now : D) (s : Snapshot) : Type 0 where
  pub commands : List Command
  pub decided : AreDecided commands
  pub snapshot : IsSnapshotOf commands s
  pub bodies : BodiesHave journal now (λ bodies. bodies ≡ bodies_of commands)

-- a checkpoint that the file holds is one of the journal's front
abbrev pub IsTrueCheckpoint : List ℕ → List (List ℕ) → Type 0
IsTrueCheckpoint file bodies = (s : Snapshot) → CheckpointBytes file s → IsSnapshotOfFront bodies s

-- it is, where its position isn't above the count of the journal
abbrev pub IsTrueWhereUsed : List ℕ → List (List ℕ) → Type 0
IsTrueWhereUsed file bodies =
    (s : Snapshot) → CheckpointBytes file s → s.position ≤ length bodies → IsSnapshotOfFront bodies s

-- The position from which records are decided: that of the file's checkpoint, where it has one that isn't above the
-- count of the journal, and else 0.
pub record IsStartOf (file : List ℕ) (count start : ℕ) : Type 0 where
  pub found : (s : Snapshot) → CheckpointBytes file s → s.position ≤ count → start ≡ s.position
  pub none : ((s : Snapshot) → CheckpointBytes file s → s.position ≤ count → ⊥) → start ≡ 0

-- The bodies before body n spell commands, accepted one after the other, and it spells none that is accepted after
-- them.
pub record IsFirstBadBody (bodies : List (List ℕ)) (n : ℕ) : Type 0 where
  pub commands : List Command
  pub within : n < length bodies
  pub counted : length commands ≡ n
  pub spelled : take n bodies ≡ map spelling_of commands
  pub valid : AllByRecursion IsValid commands
  pub accepted : IsAccepted commands
  pub none : (command : Command) → slice_index_or bodies n [] ≡ spelling_of command → IsValid command
      → judge commands command ≡ None → ⊥

-- it stands from the start on
pub record IsBadFromStart (file : List ℕ) (bodies : List (List ℕ)) (n : ℕ) : Type 0 where
  pub start : ℕ
  pub begun : IsStartOf file (length bodies) start
  pub from : start ≤ n
  pub bad : IsFirstBadBody bodies n

-- the snapshot of the whole journal, or what its bodies show of a fault
abbrev pub IsReopened : List ℕ → List (List ℕ) → Result Snapshot ReopenFault → Type 0
IsReopened file bodies (Ok s) = IsSnapshotOfAll bodies s
IsReopened file bodies (Err (DiskFault count)) = Unit {0}
IsReopened file bodies (Err (BadRecord n)) = IsBadFromStart file bodies n
IsReopened file bodies (Err (NoMemory lack)) = Unit {0}

-- one for each record from the start on
pub record TakesSteps (file : List ℕ) (count before now : ℕ) : Type 0 where
  pub start : ℕ
  pub begun : IsStartOf file count start
  pub steps : now ≡ before + (count - start)

-- one disk failed, this is its count, and the other's stays
abbrev pub IsFaultOfTwo : (before now other_before other_now count : ℕ) → Type 0
IsFaultOfTwo before now other_before other_now count = (count ≡ now) × Rose before now × (other_now ≡ other_before)

-- A fault of a disk has its count, which rose: that of the store or that of the journal. All else leaves both.
abbrev pub HasCauseOfTwo : (before now first_before first_now : ℕ) → Result Snapshot ReopenFault → Type 0
HasCauseOfTwo before now first_before first_now (Err (DiskFault count)) =
    IsFaultOfTwo before now first_before first_now count ⊎ IsFaultOfTwo first_before first_now before now count
HasCauseOfTwo before now first_before first_now (Ok s) = (now ≡ before) × (first_now ≡ first_before)
HasCauseOfTwo before now first_before first_now (Err (BadRecord n)) = (now ≡ before) × (first_now ≡ first_before)
HasCauseOfTwo before now first_before first_now (Err (NoMemory lack)) = (now ≡ before) × (first_now ≡ first_before)

-- a store that was only read is what it was
pub record KeepsAsBefore {E : Type 0} {g : Ghosts E} (old new : Store E g) : Type 0 where
  pub honesty : g.honest (store_disk new) → g.honest (store_disk old)
  pub looks : g.honest (store_disk new) → LooksOn g (store_disk old) (store_disk new)
  pub knows : g.honest (store_disk new) → Knows old → Knows new
  pub leaves : (image : List ℕ) → g.honest (store_disk new) → MightLeave new image → MightLeave old image

-- What reopening answers, and what it leaves: of a store, a journal and a count of steps, each before and behind it.
pub record Reopens {E D : Type 0} {e : Ghosts E} {g : Ghosts D} (old new : Store E e) (before now : Journal D g)
    (first last : ℕ) (result : Result Snapshot ReopenFault) : Type 0 where
  -- only a disk that failed is told as faulty
  pub cause : HasCauseOfTwo (e.faults (store_disk old)) (e.faults (store_disk new))
      (g.faults (disk_of before)) (g.faults (disk_of now)) result
  -- neither disk was written to
  pub store : KeepsAsBefore old new
  pub journal : StaysAs before now
  pub sound : IfOk result IsSoundSnapshot
  -- no record is read twice, and none before the start
  pub few : e.honest (store_disk new) → OnOk result (TakesSteps (e.reads (store_disk old)) (count_of before) first last)
  -- the answer is that of the journal's records, where the checkpoint is one of them
  pub reopened : (bodies : List (List ℕ)) (faulted : List ℕ) → e.honest (store_disk new) → g.honest (disk_of now)
      → StandsFor before bodies faulted → IsTrueWhereUsed (e.reads (store_disk old)) bodies
      → IsReopened (e.reads (store_disk old)) bodies result
