-- What a crash leaves of the second disk, from the store's start to the end of the saving
use Rattle.stating_modes.proofs.Names.{◌≡◌, ◌⊎◌, inl, inr, ⊎_elim, ℕ, List, subst, sym, Ghosts, Leaves, LooksOn, looks_pass, leaves, leaves_more, leaves_on, IsNoCheckpoint, IsKeptOrSavedBy, MightLeave, store_disk, Snapshot, Store, OnlyNow, IsHeldWhereTrue, IsOnlyRead, TwoDisks, HasTried}
use Rattle.checkpoint_store.specs.Starts.{HasLookedAt}
use Rattle.stating_modes.specs.Saved.{IsNoneOrEarlierOrHeld}

module _ {D E : Type 0} (g : Ghosts D) (e : Ghosts E) (disks : TwoDisks D E) (snapshot : Snapshot)
    (held : IsHeldWhereTrue g e disks snapshot) (store : Store E e) where
  -- one of the three of a saving is one of the three of the call
  one_of_three : ((image : List ℕ) → MightLeave store image → IsNoCheckpoint image ⊎ e.may_leave disks.second image)
      → (image : List ℕ) → IsKeptOrSavedBy store snapshot image → IsNoneOrEarlierOrHeld g e disks image
  one_of_three earlier image (inl (inl none)) = inl none
  one_of_three earlier image (inl (inr left)) = ⊎_elim (λ none. inl none) (λ before. inr (inl before)) (earlier image left)
  one_of_three earlier image (inr new) = inr (inr (snapshot, new, held))

-- a disk that was only read leaves what it might have left before
only_read_leaves : {E : Type 0} (e : Ghosts E) → OnlyNow e → (old new : E) → e.honest old → LooksOn e old new → Leaves e old new (e.may_leave old)
only_read_leaves e only_now old new honest looks = leaves e old new (e.may_leave old) (λ image left. only_now old image honest left) (looks_pass e old new looks)

module _ {D E : Type 0} (g : Ghosts D) (e : Ghosts E) (only_now : OnlyNow e) (disks : TwoDisks D E) where
  -- nothing was saved
  pub since_read : IsOnlyRead e disks.second disks.kept → e.honest disks.kept
      → Leaves e disks.second disks.kept (IsNoneOrEarlierOrHeld g e disks)
  since_read read honest =
      leaves_more e disks.second disks.kept (e.may_leave disks.second) (IsNoneOrEarlierOrHeld g e disks)
      (only_read_leaves e only_now disks.second disks.kept (read.honesty honest) (read.looks honest)) (λ image left. inr (inl left))

  pub now_read : IsOnlyRead e disks.second disks.kept → e.honest disks.kept → (image : List ℕ) → e.may_leave disks.kept image
      → IsNoneOrEarlierOrHeld g e disks image
  now_read read honest image left = inr (inl ((read.looks honest).images image left))

  module _ (snapshot : Snapshot) (held : IsHeldWhereTrue g e disks snapshot) (before after : Store E e)
      (read : IsOnlyRead e disks.second (store_disk before)) (looked : e.honest (store_disk before) → HasLookedAt disks.second before)
      (tried : HasTried before after snapshot) (kept : disks.kept ≡ store_disk after) where
    here : e.honest disks.kept → e.honest (store_disk after)
    here honest = subst e.honest kept honest

    pub since_tried : e.honest disks.kept → Leaves e disks.second disks.kept (IsNoneOrEarlierOrHeld g e disks)
    since_tried honest =
        let there = tried.honesty (here honest) in
        let looks = looked there in
        subst (λ d. Leaves e disks.second d (IsNoneOrEarlierOrHeld g e disks)) (sym kept)
        (leaves_on e disks.second (store_disk before) (store_disk after) (e.may_leave disks.second) (IsNoneOrEarlierOrHeld g e disks)
        (only_read_leaves e only_now disks.second (store_disk before) (read.honesty there) (read.looks there))
        (leaves_more e (store_disk before) (store_disk after) (IsKeptOrSavedBy before snapshot) (IsNoneOrEarlierOrHeld g e disks)
        (tried.moments (here honest) looks.knows) (one_of_three g e disks snapshot held before looks.earlier))
        (λ image left. inr (inl left)))

    pub now_tried : e.honest disks.kept → (image : List ℕ) → e.may_leave disks.kept image → IsNoneOrEarlierOrHeld g e disks image
    now_tried honest image left =
        let looks = looked (tried.honesty (here honest)) in
        one_of_three g e disks snapshot held before looks.earlier image
        (tried.kept image (here honest) looks.knows (inl (subst (λ d. e.may_leave d image) kept left)))
