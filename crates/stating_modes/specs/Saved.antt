-- What `checkpoint` writes, what it saves, and how it ends
use Rattle.std.specs.Prelude.{◌⊎◌, ℕ, List, [], ◌∷◌, codes, decimal}
use Rattle.stating_modes.specs.Names.{Ghosts, LeavesOnly, line_of, CheckpointBytes, Snapshot, IsLeftAlone, Stream, Ending}
use Rattle.stating_modes.specs.Telling.{EndsTelling}
use Rattle.stating_modes.specs.TwoDisks.{IsHeldWhereTrue, IsMadeSafe, IsOnlyRead, TwoDisks}

-- no checkpoint; or what a crash might have left before the call; or a checkpoint that is, if the disks are true, of
-- the snapshot that the journal's commands leave
abbrev pub IsNoneOrEarlierOrHeld : {D E : Type 0} → Ghosts D → Ghosts E → TwoDisks D E → List ℕ → Type 0
IsNoneOrEarlierOrHeld g e disks image =
    ((s : Snapshot) → CheckpointBytes image s → ⊥)
    ⊎ e.may_leave disks.second image
    ⊎ ((s : Snapshot) × CheckpointBytes image s × IsHeldWhereTrue g e disks s)

-- A snapshot was saved, and the number of its commands written; or a line says why none was. Whatever the ending, a
-- crash since the call leaves one of the three on an honest disk.
pub record EndsCheckpoint {D E : Type 0} (g : Ghosts D) (e : Ghosts E) (disks : TwoDisks D E) (output : Stream)
    (ending : Ending) : Type 0 where
  -- on an honest disk, a crash now leaves the checkpoint that was saved
  pub telling : EndsTelling g e disks (λ Wrote s. Wrote (line_of (codes "checkpoint") (decimal s.position ∷ []))
      × (e.honest disks.kept → (image : List ℕ) → e.may_leave disks.kept image → CheckpointBytes image s)) output ending
  pub first : IsLeftAlone g disks.old disks.new
  pub honesty : e.honest disks.kept → e.honest disks.second
  -- if something was written to the second disk, the call had made the journal's disk safe
  pub order : g.honest disks.new → e.honest disks.kept
      → IsOnlyRead e disks.second disks.kept ⊎ IsMadeSafe g disks.old disks.new
  pub since : e.honest disks.kept
      → LeavesOnly e.clock e.left_since disks.second disks.kept (IsNoneOrEarlierOrHeld g e disks)
  pub now : e.honest disks.kept → (image : List ℕ) → e.may_leave disks.kept image
      → IsNoneOrEarlierOrHeld g e disks image
