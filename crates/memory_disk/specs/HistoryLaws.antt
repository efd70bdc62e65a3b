-- Laws of the images: what is read is one of them, and time only goes on.
use Rattle.std.specs.Prelude.{◌≡◌, ℕ, ◌+◌, ◌/◌, ◌≤◌, Bool, true, false, List, [], ◌∷◌, length, nat_le, ◌&&◌, refl}
use Rattle.std.proofs.Common.{arith}
use Rattle.std.proofs.Math.Seq.{take-length}
use Rattle.std.proofs.lemmas.List.{length-take}
use Rattle.std.proofs.lemmas.Bool.{leb-true}
use Rattle.outside_io.specs.Disks.{Torn, put}
use Rattle.outside_io.specs.DiskLaws.{torn_put}
use Rattle.memory_disk.specs.History.{reaching, bytes_after, images_after, IsImage, WasImage, all_within}
use Rattle.memory_disk.specs.declared.disk_call.DiskCall.{DiskCall}
use Rattle.memory_disk.specs.declared.disk_call.DiskCall.TheVariants.{Len, Read, Write, Sync}

pub length-reaching : (failed : Bool) (bytes : List ℕ)
    → length (reaching failed bytes) ≤ length bytes
length-reaching false bytes = omega arith
length-reaching true bytes = omega (arith, length-take ((length bytes + 1) / 2) bytes)

pub both_of : (a b : Bool) → (a && b) ≡ true → (a ≡ true) × (b ≡ true)
both_of true b both = (refl, both)
both_of false b both = cc

-- What is read is an image after the calls if it was one before them.
pub bytes_as_image : (calls : List DiskCall) (bytes : List ℕ) (images : List ℕ → Type 0)
    → images bytes → all_within bytes calls ≡ true
    → images_after bytes images calls (bytes_after bytes calls)
bytes_as_image [] bytes images known within = known
bytes_as_image
    (Len failed ∷ calls) bytes images known within = bytes_as_image calls bytes images known within
bytes_as_image (Read at many failed ∷ calls) bytes images known within = bytes_as_image calls bytes
    images known within
bytes_as_image (Write at written failed ∷ calls) bytes images known within =
    let parts = both_of (nat_le at (length bytes))
    (all_within (put bytes at (reaching failed written.items)) calls) within in
    bytes_as_image calls (put bytes at (reaching failed written.items)) (λ later. (earlier : List ℕ)
    × images earlier × Torn at (length written.items) earlier later) (
      bytes,
      known,
      torn_put bytes at (length written.items) (reaching failed written.items)
          (leb-true at (length bytes) parts.0) (length-reaching failed written.items),
    )
    parts.1
bytes_as_image (Sync false ∷ calls) bytes images known within = bytes_as_image calls bytes
    (λ later. later ≡ bytes) refl within
bytes_as_image
    (Sync true ∷ calls) bytes images known within = bytes_as_image calls bytes images known within

-- Each moment counts among those since an earlier one.
pub now_counts : (first : List ℕ) (calls : List DiskCall) (moment : ℕ) (image : List ℕ)
    → moment ≤ length calls → IsImage first calls image → WasImage first calls moment image
now_counts first calls moment image passed left =
    (length calls, passed, omega arith, rw (take-length calls) left)

-- Since the last moment there is no other image.
pub only_now_left : (first : List ℕ) (calls : List DiskCall) (image : List ℕ)
    → WasImage first calls (length calls) image → IsImage first calls image
only_now_left first calls image was =
    let last : was.0 ≡ length calls = omega (arith, was.1, was.2) in
    rw (last, take-length calls) at was.3

-- What was left since a moment was left since each earlier moment.
pub left_sooner : (first : List ℕ) (calls : List DiskCall) (early late : ℕ) (image : List ℕ) → early ≤ late
    → WasImage first calls late image → WasImage first calls early image
left_sooner first calls early late image before was = (was.0, omega (arith, before, was.1), was.2, was.3)

-- What is read after all calls is an image.
pub replayed_image : (first bytes : List ℕ) (calls : List DiskCall)
    → bytes ≡ bytes_after first calls → all_within first calls ≡ true → IsImage first calls bytes
replayed_image first bytes calls replayed within = rw replayed
    (bytes_as_image calls first (λ earlier. earlier ≡ first) refl within)
