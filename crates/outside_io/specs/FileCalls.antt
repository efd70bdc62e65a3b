-- What a file was asked and what it answered, newest call first; what the file reads as after these calls, what a
-- crash may leave of it, and when its answers are those of the disk model.
use Rattle.std.specs.Prelude.{⊤, ◌≡◌, ◌⊎◌, ℕ, ◌≤◌, Bool, true, false, Option, Some, None, List, [], ◌∷◌, length, take, drop, nat_le, ◌&&◌}
use Rattle.outside_io.specs.Disks.{put, Torn, torn_images}

-- a call, and what was answered
pub data FileCall : Type 0 where
  -- the length, or that none was reported
  Measured : Option ℕ → FileCall
  -- so many bytes from a place on, and the bytes if they were given
  ReadFrom : ℕ → ℕ → Option (List ℕ) → FileCall
  -- these bytes from a place on, and whether that was done
  WrittenTo : ℕ → List ℕ → Bool → FileCall
  -- whether what was written was made safe
  Synced : Bool → FileCall

-- These definitions are about a file that read as `first` before the first call, and as `torn n` after a write that
-- failed when n calls had been made.
module _ (first : List ℕ) (torn : ℕ → List ℕ) where
  -- what it reads as after these calls
  abbrev pub file_reads : List FileCall → List ℕ
  file_reads [] = first
  file_reads (WrittenTo at bytes true ∷ earlier) = put (file_reads earlier) at bytes
  file_reads (WrittenTo at bytes false ∷ earlier) = torn (length earlier)
  file_reads (call ∷ earlier) = file_reads earlier

  -- each write began within the bytes that were there or at their end
  abbrev pub writes_within : List FileCall → Bool
  writes_within [] = true
  writes_within (WrittenTo at bytes done ∷ earlier) =
      nat_le at (length (file_reads earlier)) && writes_within earlier
  writes_within (call ∷ earlier) = writes_within earlier

-- whether a sync failed so far
abbrev pub sync_failed : List FileCall → Bool
sync_failed [] = false
sync_failed (Synced false ∷ earlier) = true
sync_failed (call ∷ earlier) = sync_failed earlier

-- What a sync that succeeds makes of the images: only what is read is left. After an earlier sync that failed, it
-- makes nothing safe, since the system may have dropped what that sync was to make safe.
abbrev pub SafeUnless : Bool → (safe before : Type 0) → Type 0
SafeUnless true safe before = before
SafeUnless false safe before = safe

module _ (first : List ℕ) (torn : ℕ → List ℕ) where
  -- what was answered to a call is what the disk model allows after the earlier ones
  abbrev pub IsAllowed : FileCall → List FileCall → Type 0
  IsAllowed (Measured None) earlier = ⊤
  IsAllowed (Measured (Some many)) earlier = many ≡ length (file_reads first torn earlier)
  IsAllowed (ReadFrom at many None) earlier = ⊤
  IsAllowed (ReadFrom at many (Some bytes)) earlier = bytes ≡ take many (drop at (file_reads first torn earlier))
  IsAllowed (WrittenTo at bytes true) earlier = ⊤
  IsAllowed (WrittenTo at bytes false) earlier =
      Torn at (length bytes) (file_reads first torn earlier) (torn (length earlier))
  IsAllowed (Synced done) earlier = ⊤

  -- each answer is one that the disk model allows
  abbrev pub AreAllowed : List FileCall → Type 0
  AreAllowed [] = ⊤
  AreAllowed (call ∷ earlier) = AreAllowed earlier × IsAllowed call earlier

-- These definitions are about a file of which a crash before the first call might have left the images `unsynced`,
-- besides what it read as.
module _ (first : List ℕ) (torn : ℕ → List ℕ) (unsynced : List ℕ → Type 0) where
  -- a crash after these calls, or during the last, may leave this
  abbrev pub FileImage : List FileCall → List ℕ → Type 0
  FileImage [] image = (image ≡ first) ⊎ unsynced image
  FileImage (WrittenTo at bytes done ∷ earlier) image = torn_images (FileImage earlier) at (length bytes) image
  FileImage (Synced true ∷ earlier) image =
      SafeUnless (sync_failed earlier) (image ≡ file_reads first torn earlier) (FileImage earlier image)
  FileImage (call ∷ earlier) image = FileImage earlier image

  -- a crash at some moment since that number of calls might have left this
  abbrev pub FileLeft : List FileCall → ℕ → List ℕ → Type 0
  FileLeft [] moment image = (moment ≤ 0) × FileImage [] image
  FileLeft (call ∷ earlier) moment image =
      FileLeft earlier moment image ⊎ ((moment ≤ length (call ∷ earlier)) × FileImage (call ∷ earlier) image)
