-- The journal's disk and a second one, which may hold a checkpoint of its journal
use Rattle.std.specs.Prelude.{◌≡◌, ◌⊎◌, ℕ, ◌≤◌, List, [], length}
use Rattle.stating_modes.specs.Names.{Ghosts, OpensToBodies, LooksOn, IsSnapshotOf, Snapshot, IsUnfinished, IsSynced, CheckpointBytes, IsSnapshotOfFront, HoldsStill}
use Rattle.stating_modes.specs.declared.finished.FinishedKept.{FinishedKept}

-- the two disks as a call gets them and as it gives them back
pub record TwoDisks (D E : Type 0) : Type 0 where
  pub old : D
  pub new : D
  pub second : E
  pub kept : E

-- the disks of a mode that ended
abbrev pub disks_of : {D E : Type 0} → D → E → FinishedKept D E → TwoDisks D E
disks_of disk second finished = record { old = disk; new = finished.disk; second = second; kept = finished.second }

-- A checkpoint in the file is true of the journal in these bytes: it has more commands than the journal, or is the
-- snapshot of the journal's first ones. Every file that is no checkpoint satisfies this.
abbrev pub TellsTruth : List ℕ → List ℕ → Type 0
TellsTruth file bytes =
    (bodies : List (List ℕ)) → OpensToBodies bytes bodies
    → (s : Snapshot) → CheckpointBytes file s → s.position ≤ length bodies → IsSnapshotOfFront bodies s

-- both disks come back honest, and what the second one held was true
pub record AreTrue {D E : Type 0} (g : Ghosts D) (e : Ghosts E) (disks : TwoDisks D E) : Type 0 where
  pub first_honest : g.honest disks.new
  pub second_honest : e.honest disks.kept
  pub truth : TellsTruth (e.reads disks.second) (g.reads disks.old)

-- If the two disks are true, the snapshot is that of the commands of the journal's file, and its disk holds them
-- still.
abbrev pub IsHeldWhereTrue : {D E : Type 0} → Ghosts D → Ghosts E → TwoDisks D E → Snapshot → Type 0
IsHeldWhereTrue g e disks snapshot =
    AreTrue g e disks → HoldsStill g disks.old disks.new (λ commands. IsSnapshotOf commands snapshot)

-- a disk was not written to: it was at most synced and read
pub record IsOnlyRead {E : Type 0} (e : Ghosts E) (old new : E) : Type 0 where
  pub honesty : e.honest new → e.honest old
  pub looks : e.honest new → LooksOn e old new

-- The journal's disk was made safe: from the end of a sync on, a crash leaves the file as it was, or a creation that
-- goes on or has just ended.
abbrev pub IsMadeSafe : {D : Type 0} → Ghosts D → D → D → Type 0
IsMadeSafe {D} g old new =
    (mid : D) × IsSynced g old mid new
    × ((image : List ℕ) → g.left_since new (g.clock mid) image
    → (image ≡ g.reads old) ⊎ (IsUnfinished (g.reads old) × OpensToBodies image []))

-- neither disk failed
pub record AreBothQuiet {D E : Type 0} (g : Ghosts D) (e : Ghosts E) (disks : TwoDisks D E) : Type 0 where
  pub first : g.faults disks.new ≡ g.faults disks.old
  pub second : e.faults disks.kept ≡ e.faults disks.second
