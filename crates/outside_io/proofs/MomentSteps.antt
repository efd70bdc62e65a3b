-- How a run of calls on a disk goes on.
use Rattle.std.proofs.Common.{inl, inr, ⊎_elim, ℕ, List, arith}
use Rattle.outside_io.specs.Disks.{Elapses, LeavesOnly}

module _ {D : Type 0} (clock : D → ℕ) (left_since : D → ℕ → List ℕ → Type 0) where
  -- before the first call
  pub started : (old : D) (P : List ℕ → Type 0) → ((image : List ℕ) → left_since old (clock old) image → P image) → LeavesOnly clock left_since old old P
  started old P here = record { later = omega arith; each = here; before = λ moment image passed left. inl left }

  -- one more call, after which each image has P
  pub goes_on : (old mid new : D) (P images : List ℕ → Type 0) → LeavesOnly clock left_since old mid P
      → Elapses (clock mid) (clock new) (left_since mid) (left_since new) images → ((image : List ℕ) → images image → P image) → LeavesOnly clock left_since old new P
  goes_on old mid new P images so_far time here = record {
    later = omega (arith, so_far.later, time.later);
    each = λ image left. ⊎_elim (so_far.each image) (here image) (time.nothing_else (clock old) image so_far.later left);
    before = λ moment image passed left.
        ⊎_elim (so_far.before moment image passed) (λ now. inr (here image now)) (time.nothing_else moment image (omega (arith, passed, so_far.later)) left);
  }
