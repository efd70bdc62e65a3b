-- What a list of calls makes of a disk that held these bytes at first, all of them safe: what is read, and the images
-- that a crash may leave.
use Rattle.std.specs.declared.alloc.Global.{Global}
use Rattle.std.specs.Prelude.{⊤, Vec, ◌≡◌, ℕ, ◌+◌, ◌-◌, ◌/◌, ◌≤◌, Bool, true, false, List, [], ◌∷◌, ◌++◌, length, take, nat_le, if◌then◌else◌, ◌&&◌}
use Rattle.outside_io.specs.Disks.{put, torn_images, Elapses}
use Rattle.memory_disk.specs.declared.disk_call.DiskCall.{DiskCall}
use Rattle.memory_disk.specs.declared.disk_call.DiskCall.TheVariants.{Write, Sync}

-- The part of a write that a read then gives. For a write that failed it is the first half, rounded up.
abbrev pub reaching : Bool → List ℕ → List ℕ
reaching false bytes = bytes
reaching true bytes = take ((length bytes + 1) / 2) bytes

-- what a read gives after these calls
abbrev pub bytes_after : List ℕ → List DiskCall → List ℕ
bytes_after bytes [] = bytes
bytes_after bytes (Write at written failed ∷ calls) =
    bytes_after (put bytes at (reaching failed written.items)) calls
bytes_after bytes (call ∷ calls) = bytes_after bytes calls

-- the images that a crash may leave after these calls, from what a read gave and the images before
abbrev pub images_after : List ℕ → (List ℕ → Type 0) → List DiskCall → List ℕ → Type 0
images_after bytes images [] image = images image
images_after bytes images (Write at written failed ∷ calls) image =
    images_after (put bytes at (reaching failed written.items))
    (torn_images images at (length written.items)) calls image
images_after bytes images (Sync false ∷ calls) image =
    images_after bytes (λ later. later ≡ bytes) calls image
images_after bytes images (call ∷ calls) image = images_after bytes images calls image

-- an image that a crash may leave after these calls
abbrev pub IsImage : List ℕ → List DiskCall → List ℕ → Type 0
IsImage first calls image = images_after first (λ earlier. earlier ≡ first) calls image

-- an image that a crash might have left at some moment since that number of calls
abbrev pub WasImage : List ℕ → List DiskCall → ℕ → List ℕ → Type 0
WasImage first calls moment image =
    (k : ℕ) × (moment ≤ k) × (k ≤ length calls) × IsImage first (take k calls) image

-- time goes on between two moments; for each moment, what the disk held at first and its calls
abbrev pub GoesOnFrom : List ℕ → List DiskCall → List ℕ → List DiskCall → Type 0
GoesOnFrom first calls later more =
    Elapses (length calls) (length more) (WasImage first calls) (WasImage later more) (IsImage later more)

-- each write begins within the bytes that were there or at their end
abbrev pub all_within : List ℕ → List DiskCall → Bool
all_within bytes [] = true
all_within bytes (Write at written failed ∷ calls) =
    nat_le at (length bytes) && all_within (put bytes at (reaching failed written.items)) calls
all_within bytes (call ∷ calls) = all_within bytes calls

-- a call that writes nothing
abbrev pub WritesNothing : DiskCall → Type 0
WritesNothing (Write at written failed) = ⊥
WritesNothing call = ⊤

-- the calls grew by a write of these bytes
pub record IsWriteOf (at : ℕ) (bytes : List ℕ) (failed : Bool) (before now : List DiskCall) : Type 0 where
  pub kept : Vec ℕ Global
  pub same : kept.items ≡ bytes
  pub pushed : now ≡ before ++ Write at kept failed ∷ []

-- The image in which the first so many writes since the last sync were done whole, and the others not at all. `left`
-- of them are still to be done.
abbrev pub kept_after : List ℕ → List ℕ → ℕ → ℕ → List DiskCall → List ℕ
kept_after bytes image keep left [] = image
kept_after bytes image keep left (Write at written failed ∷ calls) =
    kept_after (put bytes at (reaching failed written.items))
    (if nat_le 1 left then put image at written.items else image) keep (left - 1) calls
kept_after bytes image keep left (Sync false ∷ calls) = kept_after bytes bytes keep keep calls
kept_after bytes image keep left (call ∷ calls) = kept_after bytes image keep left calls

-- the same for a disk that held these bytes at first
abbrev pub image_of_writes : List ℕ → ℕ → List DiskCall → List ℕ
image_of_writes first keep calls = kept_after first first keep keep calls

-- a part of a write put on a disk that is long enough for the write to begin
abbrev pub put_within : List ℕ → ℕ → List ℕ → List ℕ
put_within old at bytes = if nat_le at (length old) then put old at bytes else old

-- The image of these calls in which, of each write since the last sync, the first so many bytes
-- reached the disk. A write that begins past the image's end is lost.
abbrev pub torn_after : List ℕ → List ℕ → ℕ → List DiskCall → List ℕ
torn_after bytes image keep [] = image
torn_after bytes image keep (Write at written failed ∷ calls) =
    torn_after (put bytes at (reaching failed written.items))
    (put_within image at (take keep written.items)) keep calls
torn_after bytes image keep (Sync false ∷ calls) = torn_after bytes bytes keep calls
torn_after bytes image keep (call ∷ calls) = torn_after bytes image keep calls
