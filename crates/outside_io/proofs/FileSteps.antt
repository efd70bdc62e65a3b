-- What a sync makes of a file's images.
use Rattle.std.proofs.Common.{◌≡◌, ℕ, Bool, true, false, List, ◌∷◌, Result, Ok, Err, OnOk, is_ok, refl}
use Rattle.outside_io.specs.Disks.{Syncs}
use Rattle.outside_io.specs.FileCalls.{FileCall, Synced, file_reads, writes_within, sync_failed, SafeUnless, AreAllowed, FileImage}
use Rattle.outside_io.specs.FileLaws.{reads_as_left}

-- an image after a sync was left before it, if each safe image was
was_left : (failed : Bool) (safe before : Type 0) → (safe → before) → SafeUnless failed safe before → before
was_left true safe before is left = left
was_left false safe before is left = is left

-- an image after a sync is safe, if no sync failed before
is_safe : (failed : Bool) (safe before : Type 0) → failed ≡ false → SafeUnless failed safe before → safe
is_safe true safe before none left = cc
is_safe false safe before none left = left

module _ (first : List ℕ) (torn : ℕ → List ℕ) (unsynced : List ℕ → Type 0) where
  after_sync : {T E : Type 0} → (result : Result T E) (calls : List FileCall) → (AreAllowed first torn calls → writes_within first torn calls ≡ true)
      → OnOk result (sync_failed calls ≡ false) → AreAllowed first torn (Synced (is_ok result) ∷ calls)
      → Syncs result (file_reads first torn calls) (file_reads first torn (Synced (is_ok result) ∷ calls))
      (FileImage first torn unsynced calls) (FileImage first torn unsynced (Synced (is_ok result) ∷ calls))
  after_sync (Ok done) calls within none allowed =
      let reads = file_reads first torn calls in
      let left = FileImage first torn unsynced calls in
      record {
        reads = refl;
        images = λ image now. was_left (sync_failed calls) (image ≡ reads) (left image)
            (λ same. rw same (reads_as_left first torn unsynced calls (allowed.0) (within (allowed.0)))) now;
        durable = λ image now. is_safe (sync_failed calls) (image ≡ reads) (left image) none now;
      }
  after_sync (Err fault) calls within none allowed = record { reads = refl; images = λ image left. left; durable = tt }

  pub syncs : {T E : Type 0} → (result : Result T E) (calls now : List FileCall) → now ≡ Synced (is_ok result) ∷ calls
      → (AreAllowed first torn calls → writes_within first torn calls ≡ true) → OnOk result (sync_failed calls ≡ false) → AreAllowed first torn now
      → Syncs result (file_reads first torn calls) (file_reads first torn now) (FileImage first torn unsynced calls) (FileImage first torn unsynced now)
  syncs result calls now noted within none allowed = rw noted (after_sync result calls within none (rw noted at allowed))
