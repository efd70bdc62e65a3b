-- What one more call makes of the images.
use Rattle.memory_disk.proofs.Names.{◌≡◌, ◌⊎◌, inl, inr, ℕ, ◌+◌, ◌<◌, ◌≤◌, true, false, List, [], ◌∷◌, ◌++◌, length, nat_le, refl, arith, length-append, Torn, Elapses, put, cases_lt, both_true, both_of, reaching, bytes_after, images_after, IsImage, WasImage, all_within, DiskCall, Len, Read, Write, Sync}
use Rattle.std.proofs.lemmas.List.{take-append-le}
use Rattle.std.proofs.Math.Seq.{take-length}

-- What is read after some calls and then others.
pub bytes_after-append : (xs ys : List DiskCall) (bytes : List ℕ) → bytes_after bytes (xs ++ ys) ≡ bytes_after (bytes_after bytes xs) ys
bytes_after-append [] ys bytes = refl
bytes_after-append (Len failed ∷ xs) ys bytes = bytes_after-append xs ys bytes
bytes_after-append (Read at many failed ∷ xs) ys bytes = bytes_after-append xs ys bytes
bytes_after-append (Write at written failed ∷ xs) ys bytes = bytes_after-append xs ys (put bytes at (reaching failed written.items))
bytes_after-append (Sync failed ∷ xs) ys bytes = bytes_after-append xs ys bytes

-- The images after some calls and then others.
pub images_after-append : (xs ys : List DiskCall) (bytes : List ℕ) (images : List ℕ → Type 0) (image : List ℕ)
    → images_after bytes images (xs ++ ys) image → images_after (bytes_after bytes xs) (images_after bytes images xs) ys image
images_after-append [] ys bytes images image left = left
images_after-append (Len failed ∷ xs) ys bytes images image left = images_after-append xs ys bytes images image left
images_after-append (Read at many failed ∷ xs) ys bytes images image left = images_after-append xs ys bytes images image left
images_after-append (Write at written failed ∷ xs) ys bytes images image left =
    images_after-append xs ys (put bytes at (reaching failed written.items)) (λ later. (earlier : List ℕ) × images earlier × Torn at (length written.items) earlier later) image left
images_after-append (Sync false ∷ xs) ys bytes images image left = images_after-append xs ys bytes (λ later. later ≡ bytes) image left
images_after-append (Sync true ∷ xs) ys bytes images image left = images_after-append xs ys bytes images image left

pub all_within-append : (xs ys : List DiskCall) (bytes : List ℕ) → all_within bytes xs ≡ true → all_within (bytes_after bytes xs) ys ≡ true → all_within bytes (xs ++ ys) ≡ true
all_within-append [] ys bytes first more = more
all_within-append (Len failed ∷ xs) ys bytes first more = all_within-append xs ys bytes first more
all_within-append (Read at many failed ∷ xs) ys bytes first more = all_within-append xs ys bytes first more
all_within-append (Write at written failed ∷ xs) ys bytes first more =
    let parts = both_of (nat_le at (length bytes)) (all_within (put bytes at (reaching failed written.items)) xs) first in
    both_true parts.0 (all_within-append xs ys (put bytes at (reaching failed written.items)) parts.1 more)
all_within-append (Sync failed ∷ xs) ys bytes first more = all_within-append xs ys bytes first more

-- A moment since an earlier one is one from before the call, or the last.
elapsed : (first : List ℕ) (calls : List DiskCall) (call : DiskCall) (moment : ℕ) (image : List ℕ) → length (calls ++ call ∷ []) ≡ length calls + 1
    → (was : WasImage first (calls ++ call ∷ []) moment image) → (length calls < was.0) ⊎ (was.0 ≤ length calls)
    → WasImage first calls moment image ⊎ IsImage first (calls ++ call ∷ []) image
elapsed first calls call moment image longer was (inl last) =
    let all : was.0 ≡ length (calls ++ call ∷ []) = omega (arith, was.2) in
    inr (rw (all, take-length (calls ++ call ∷ [])) at was.3)
elapsed first calls call moment image longer was (inr earlier) =
    inl (was.0, was.1, earlier, rw (take-append-le was.0 calls (call ∷ []) earlier) at was.3)

-- Time goes on by one call.
pub elapses_push : (first : List ℕ) (calls : List DiskCall) (call : DiskCall) → Elapses (length calls) (length (calls ++ call ∷ []))
    (WasImage first calls) (WasImage first (calls ++ call ∷ [])) (IsImage first (calls ++ call ∷ []))
elapses_push first calls call =
    let longer : length (calls ++ call ∷ []) ≡ length calls + 1 = omega (arith, length-append calls (call ∷ [])) in
    record {
      later = omega arith;
      nothing_else = λ moment image passed was. elapsed first calls call moment image longer was (cases_lt (length calls) was.0);
      keeps = λ moment image passed was.
          (was.0, was.1, omega (arith, was.2), rw (take-append-le was.0 calls (call ∷ []) was.2) was.3);
    }

-- No time goes by where nothing was kept.
pub elapses_not : (first : List ℕ) (calls : List DiskCall) → Elapses (length calls) (length calls) (WasImage first calls) (WasImage first calls) (IsImage first calls)
elapses_not first calls = record { later = omega arith; nothing_else = λ moment image passed was. inl was; keeps = λ moment image passed was. was }
