-- Laws of a file's images: what is read is one of them, and time only goes on.
use Rattle.std.specs.Prelude.{◌≡◌, ℕ, ◌≤◌, Bool, true, false, List, [], ◌∷◌, length, nat_le, ◌&&◌, refl}
use Rattle.std.proofs.Common.{inl, inr, arith}
use Rattle.std.proofs.lemmas.Bool.{leb-true}
use Rattle.outside_io.specs.DiskLaws.{torn_put}
use Rattle.outside_io.specs.FileCalls.{FileCall, Measured, ReadFrom, WrittenTo, Synced, file_reads, writes_within, sync_failed, SafeUnless, AreAllowed, FileImage, FileLeft}

both_tests : (a b : Bool) → (a && b) ≡ true → (a ≡ true) × (b ≡ true)
both_tests true b both = (refl, both)
both_tests false b both = cc

safe_or_before : (failed : Bool) (safe before : Type 0) → safe → before → SafeUnless failed safe before
safe_or_before true safe before is was = was
safe_or_before false safe before is was = is

module _ (first : List ℕ) (torn : ℕ → List ℕ) (unsynced : List ℕ → Type 0) where
  -- what it reads as may be left by a crash
  pub reads_as_left : (calls : List FileCall) → AreAllowed first torn calls → writes_within first torn calls ≡ true
      → FileImage first torn unsynced calls (file_reads first torn calls)
  reads_as_left [] allowed within = inl refl
  reads_as_left (Measured told ∷ earlier) allowed within = reads_as_left earlier (allowed.0) within
  reads_as_left (ReadFrom at many told ∷ earlier) allowed within = reads_as_left earlier (allowed.0) within
  reads_as_left (WrittenTo at bytes true ∷ earlier) allowed within =
      let tests = both_tests (nat_le at (length (file_reads first torn earlier))) (writes_within first torn earlier) within in (
        file_reads first torn earlier,
        reads_as_left earlier (allowed.0) (tests.1),
        torn_put (file_reads first torn earlier) at (length bytes) bytes (leb-true at (length (file_reads first torn earlier)) (tests.0)) (omega arith),
      )
  reads_as_left (WrittenTo at bytes false ∷ earlier) allowed within =
      let tests = both_tests (nat_le at (length (file_reads first torn earlier))) (writes_within first torn earlier) within in
      (file_reads first torn earlier, reads_as_left earlier (allowed.0) (tests.1), allowed.1)
  reads_as_left (Synced true ∷ earlier) allowed within =
      let reads = file_reads first torn earlier in
      safe_or_before (sync_failed earlier) (reads ≡ reads) (FileImage first torn unsynced earlier reads) refl (reads_as_left earlier (allowed.0) within)
  reads_as_left (Synced false ∷ earlier) allowed within = reads_as_left earlier (allowed.0) within

  -- this moment is one of those since an earlier one
  pub left_by_now : (calls : List FileCall) (moment : ℕ) (image : List ℕ) → moment ≤ length calls
      → FileImage first torn unsynced calls image → FileLeft first torn unsynced calls moment image
  left_by_now [] moment image passed left = (passed, left)
  left_by_now (call ∷ earlier) moment image passed left = inr (passed, left)

  -- no image is of a moment past the last call
  left_in_time : (calls : List FileCall) (moment : ℕ) (image : List ℕ) → FileLeft first torn unsynced calls moment image → moment ≤ length calls
  left_in_time [] moment image left = left.0
  left_in_time (call ∷ earlier) moment image (inl before) = let early = left_in_time earlier moment image before in omega arith
  left_in_time (call ∷ earlier) moment image (inr now) = now.0

  -- since this moment there is no other
  pub left_only_now : (calls : List FileCall) (image : List ℕ) → FileLeft first torn unsynced calls (length calls) image
      → FileImage first torn unsynced calls image
  left_only_now [] image left = left.1
  left_only_now (call ∷ earlier) image (inl before) =
      let early = left_in_time earlier (length (call ∷ earlier)) image before in absurd (omega arith)
  left_only_now (call ∷ earlier) image (inr now) = now.1

  -- what was left since a moment was left since each earlier one
  pub left_sooner : (calls : List FileCall) (early late : ℕ) (image : List ℕ) → early ≤ late
      → FileLeft first torn unsynced calls late image → FileLeft first torn unsynced calls early image
  left_sooner [] early late image before left = (omega (arith, before, left.0), left.1)
  left_sooner (call ∷ earlier) early late image before (inl past) =
      inl (left_sooner earlier early late image before past)
  left_sooner (call ∷ earlier) early late image before (inr now) = inr (omega (arith, before, now.0), now.1)
