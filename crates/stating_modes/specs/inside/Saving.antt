-- How the saving of a snapshot ends, by the store before and after it
use Rattle.std.specs.Prelude.{◌≡◌, ℕ, List, [], ◌∷◌, codes, decimal}
use Rattle.stating_modes.specs.Names.{Rose, line_of, AppendsPart, Ghosts, Leaves, CheckpointBytes, IsKeptOrSavedBy, Knows, MightLeave, store_disk, Snapshot, Stream, WroteAll, WroteLine, Ending, Done, WriteFault, DiskFault, NoMemory, Store}

-- the number of commands that were saved
abbrev pub checkpoint_text : Snapshot → List ℕ
checkpoint_text s = line_of (codes "checkpoint") (decimal s.position ∷ [])

-- whether or not it succeeded, a crash leaves no checkpoint, or an earlier one, or the new one
pub record HasTried {E : Type 0} {e : Ghosts E} (old new : Store E e) (snapshot : Snapshot) : Type 0 where
  pub honesty : e.honest (store_disk new) → e.honest (store_disk old)
  pub moments : e.honest (store_disk new) → Knows old
      → Leaves e (store_disk old) (store_disk new) (IsKeptOrSavedBy old snapshot)
  pub kept : (image : List ℕ) → e.honest (store_disk new) → Knows old → MightLeave new image
      → IsKeptOrSavedBy old snapshot image

-- it succeeded
pub record HasSaved {E : Type 0} {e : Ghosts E} (old new : Store E e) (snapshot : Snapshot) : Type 0 where
  pub tried : HasTried old new snapshot
  pub quiet : e.faults (store_disk new) ≡ e.faults (store_disk old)
  pub saved : e.honest (store_disk new) → Knows old → (image : List ℕ)
      → e.may_leave (store_disk new) image → CheckpointBytes image snapshot

-- then the line of the snapshot was written, or a prefix of it; or the disk failed, or memory was refused
abbrev pub EndsSaving : {E : Type 0} {e : Ghosts E} → Store E e → Store E e → Snapshot → Stream → Ending → Type 0
EndsSaving old new snapshot output Done = HasSaved old new snapshot × WroteAll output (checkpoint_text snapshot)
EndsSaving old new snapshot output WriteFault =
    HasSaved old new snapshot × Rose output.faults_before output.faults_after
    × AppendsPart output.before output.after (checkpoint_text snapshot)
EndsSaving {e = e} old new snapshot output DiskFault =
    HasTried old new snapshot × Rose (e.faults (store_disk old)) (e.faults (store_disk new))
    × WroteLine output (codes "diskfault")
EndsSaving old new snapshot output (NoMemory lack) = (new ≡ old) × WroteLine output (codes "nomemory")
EndsSaving old new snapshot output _ = ⊥
