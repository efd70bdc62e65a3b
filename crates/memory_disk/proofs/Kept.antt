-- A history with one more call is one.
use Rattle.memory_disk.proofs.Names.{◌≡◌, ℕ, ◌≤◌, Bool, true, false, cond, List, [], ◌∷◌, ◌++◌, length, Vec, refl, ap, sym, ◌∙◌, Option, Some, None, IsSome, both_true, le-leb, first_bytes, reaching, bytes_after, images_after, IsImage, WasImage, all_within, WritesNothing, put, Looks, Elapses, Only, Follows, Torn, bytes_as_image, length-reaching, torn_put, DiskCall, Len, Read, Write, Sync}
use Rattle.std.specs.declared.alloc.Global.{Global}
use Rattle.memory_disk.proofs.Pushed.{bytes_after-append, all_within-append, images_after-append, elapses_push, elapses_not}

-- these bytes and calls belong together
abbrev pub Replayed : List ℕ → List ℕ → List DiskCall → Type 0
Replayed first bytes calls = (bytes ≡ bytes_after first calls) × (all_within first calls ≡ true)

quiet_bytes : (call : DiskCall) (bytes : List ℕ) → WritesNothing call → bytes_after bytes (call ∷ []) ≡ bytes
quiet_bytes (Len failed) bytes quiet = refl
quiet_bytes (Read at many failed) bytes quiet = refl
quiet_bytes (Write at written failed) bytes quiet = absurd quiet
quiet_bytes (Sync failed) bytes quiet = refl

quiet_within : (call : DiskCall) (bytes : List ℕ) → WritesNothing call → all_within bytes (call ∷ []) ≡ true
quiet_within (Len failed) bytes quiet = refl
quiet_within (Read at many failed) bytes quiet = refl
quiet_within (Write at written failed) bytes quiet = absurd quiet
quiet_within (Sync failed) bytes quiet = refl

-- a call that writes nothing was kept, or was not
pub noted : (first bytes : List ℕ) (calls : List DiskCall) (call : DiskCall) (kept : Bool) → WritesNothing call → Replayed first bytes calls
    → Replayed first bytes (cond kept (calls ++ call ∷ []) calls)
noted first bytes calls call true quiet so_far = (
  so_far.0 ∙ sym (quiet_bytes call (bytes_after first calls) quiet) ∙ sym (bytes_after-append calls (call ∷ []) first),
  all_within-append calls (call ∷ []) first so_far.1 (quiet_within call (bytes_after first calls) quiet),
)
noted first bytes calls call false quiet so_far = so_far

-- a write was kept
pub written_too : (first bytes : List ℕ) (calls : List DiskCall) (at : ℕ) (written : Vec ℕ Global) (failed : Bool) → at ≤ length bytes → Replayed first bytes calls
    → Replayed first (put bytes at (reaching failed written.items)) (calls ++ Write at written failed ∷ [])
written_too first bytes calls at written failed within so_far =
    let call : List DiskCall = Write at written failed ∷ [] in (
      ap (λ b. put b at (reaching failed written.items)) so_far.0 ∙ sym (bytes_after-append calls call first),
      all_within-append calls call first so_far.1 (both_true (le-leb at (length (bytes_after first calls)) (rw (so_far.0) at within)) refl),
    )

-- what was kept stays whatever is written
pub first_stays : (first : Option (Vec ℕ Global)) (old new : Vec ℕ Global) → IsSome first → first_bytes first new ≡ first_bytes first old
first_stays None old new kept = cc
first_stays (Some v) old new kept = refl

-- the same for a write as it is made, step by step
pub written_at : (first begun bytes now part given : List ℕ) (calls ready after : List DiskCall) (at : ℕ) (written : Vec ℕ Global) (failed : Bool)
    → begun ≡ first → at ≤ length bytes → Replayed first bytes calls → written.items ≡ given → part ≡ reaching failed given → now ≡ put bytes at part
    → ready ≡ calls → after ≡ ready ++ Write at written failed ∷ [] → Replayed begun now after
written_at first begun bytes now part given calls ready after at written failed same within so_far copied reached replaced room pushed =
    rw (same, pushed, room, replaced, reached, ← copied) (written_too first bytes calls at written failed within so_far)

-- What the images are after a call that writes nothing was kept, or was not.
quiet_images : (call : DiskCall) (bytes image : List ℕ) (images : List ℕ → Type 0) → WritesNothing call → images bytes → images_after bytes images (call ∷ []) image → images image
quiet_images (Len failed) bytes image images quiet known left = left
quiet_images (Read at many failed) bytes image images quiet known left = left
quiet_images (Write at written failed) bytes image images quiet known left = absurd quiet
quiet_images (Sync false) bytes image images quiet known left = rw left known
quiet_images (Sync true) bytes image images quiet known left = left

pub noted_looks : (first bytes : List ℕ) (calls : List DiskCall) (call : DiskCall) (kept : Bool) → WritesNothing call → Replayed first bytes calls
    → Looks bytes bytes (IsImage first calls) (IsImage first (cond kept (calls ++ call ∷ []) calls))
noted_looks first bytes calls call true quiet so_far = record {
  reads = refl;
  images = λ image left. quiet_images call (bytes_after first calls) image (IsImage first calls) quiet
      (bytes_as_image calls first (λ earlier. earlier ≡ first) refl so_far.1)
      (images_after-append calls (call ∷ []) first (λ earlier. earlier ≡ first) image left);
}
noted_looks first bytes calls call false quiet so_far = record { reads = refl; images = λ image left. left }

pub noted_time : (first : List ℕ) (calls : List DiskCall) (call : DiskCall) (kept : Bool) → Elapses (length calls) (length (cond kept (calls ++ call ∷ []) calls))
    (WasImage first calls) (WasImage first (cond kept (calls ++ call ∷ []) calls)) (IsImage first (cond kept (calls ++ call ∷ []) calls))
noted_time first calls call true = elapses_push first calls call
noted_time first calls call false = elapses_not first calls

-- after a sync that succeeded there is one image
pub synced : (first bytes : List ℕ) (calls after : List DiskCall) → Replayed first bytes calls → after ≡ calls ++ Sync false ∷ [] → Only bytes (IsImage first after)
synced first bytes calls after so_far pushed image left =
    rw (so_far.0) (images_after-append calls (Sync false ∷ []) first (λ earlier. earlier ≡ first) image (rw pushed at left))

-- the same for a sync as it is made
pub synced_at : (first begun bytes now : List ℕ) (calls after : List DiskCall) (kept failed : Bool) → begun ≡ first → now ≡ bytes → Replayed first bytes calls
    → after ≡ cond kept (calls ++ Sync failed ∷ []) calls → kept ≡ true → failed ≡ false → Only now (IsImage begun after)
synced_at first begun bytes now calls after kept failed same stays so_far pushed was_kept succeeded =
    rw (same, stays) (synced first bytes calls after so_far (rw (was_kept, succeeded) at pushed))

-- the images after a write as it is made
pub write_images : (first begun bytes given : List ℕ) (calls ready after : List DiskCall) (at : ℕ) (written : Vec ℕ Global) (failed : Bool) → begun ≡ first
    → written.items ≡ given → ready ≡ calls → after ≡ ready ++ Write at written failed ∷ [] → Follows (Torn at (length given)) (IsImage first calls) (IsImage begun after)
write_images first begun bytes given calls ready after at written failed same copied room pushed image left =
    rw (← copied) (images_after-append calls (Write at written failed ∷ []) first (λ earlier. earlier ≡ first) image (rw (same, pushed, room) at left))

pub write_time : (first begun : List ℕ) (calls ready after : List DiskCall) (call : DiskCall) → begun ≡ first → ready ≡ calls → after ≡ ready ++ call ∷ []
    → Elapses (length calls) (length after) (WasImage first calls) (WasImage begun after) (IsImage begun after)
write_time first begun calls ready after call same room pushed = rw (same, pushed, room) (elapses_push first calls call)

pub write_torn : (old bytes now part given : List ℕ) (at : ℕ) (failed : Bool) → at ≤ length old → bytes ≡ old → now ≡ put bytes at part → part ≡ reaching failed given
    → Torn at (length given) old now
write_torn old bytes now part given at failed within stays replaced reached =
    rw (replaced, stays, reached) (torn_put old at (length given) (reaching failed given) within (length-reaching failed given))
