-- What is known of a store's disk, and what a crash may leave of it
use Rattle.std.specs.Prelude.{◌≡◌, ◌≢◌, ◌⊎◌, ◌<◌, ℕ, Bool, true, false, List, ◌∷◌, length, drop, slice_index, Result, OnOk}
use Rattle.checkpoint_store.specs.Names.{Ghosts, Leaves}
use Rattle.checkpoint_store.specs.declared.snapshot.Snapshot.{Snapshot}
use Rattle.checkpoint_store.specs.declared.store.Store.{Store}
use Rattle.checkpoint_store.specs.Checkpoints.{CheckpointBytes, IsNoCheckpoint}

abbrev pub store_disk : {D : Type 0} {g : Ghosts D} → Store D g → D
store_disk store = store.disk

-- the gate is there, and closed
pub record IsShut (file : List ℕ) : Type 0 where
  pub there : 0 < length file
  pub shut : slice_index file 0 ≢ 1

-- each image has a closed gate
abbrev pub AreShut : {D : Type 0} → Ghosts D → D → Type 0
AreShut g disk = (image : List ℕ) → g.may_leave disk image → IsShut image

-- behind the gate each image is what is read
abbrev pub DifferInGate : {D : Type 0} → Ghosts D → D → Type 0
DifferInGate g disk = (image : List ℕ) → g.may_leave disk image → drop 1 image ≡ drop 1 (g.reads disk)

-- A gate that is known to be closed is so in each image. While it isn't known, or is open, the images differ in the gate
-- alone.
abbrev pub KnowsGate : {D : Type 0} → Ghosts D → Bool → D → Type 0
KnowsGate g true disk = AreShut g disk
KnowsGate g false disk = DifferInGate g disk

abbrev pub Knows : {D : Type 0} {g : Ghosts D} → Store D g → Type 0
Knows {g = g} store = KnowsGate g store.closed store.disk

-- an image of the disk, or, where its gate isn't known to be closed, what is read with an open gate
abbrev pub MightBeLeft : {D : Type 0} → Ghosts D → Bool → D → List ℕ → Type 0
MightBeLeft g closed disk image =
    g.may_leave disk image ⊎ ((closed ≡ false) × (image ≡ 1 ∷ drop 1 (g.reads disk)))

-- what a crash may leave, as far as the store knows
abbrev pub MightLeave : {D : Type 0} {g : Ghosts D} → Store D g → List ℕ → Type 0
MightLeave {g = g} store = MightBeLeft g store.closed store.disk

-- no checkpoint, or one that a crash might have left of the store before a call
abbrev pub IsKeptBy : {D : Type 0} {g : Ghosts D} → Store D g → List ℕ → Type 0
IsKeptBy store image = IsNoCheckpoint image ⊎ MightLeave store image

-- or the one that the call saves
abbrev pub IsKeptOrSavedBy : {D : Type 0} {g : Ghosts D} → Store D g → Snapshot → List ℕ → Type 0
IsKeptOrSavedBy store snapshot image = IsKeptBy store image ⊎ CheckpointBytes image snapshot

-- A store still knows its gate, and a crash at any moment since an old one, or later, leaves an image that has P.
pub record StoreLeaves {D : Type 0} {g : Ghosts D} (old new : Store D g) (P : List ℕ → Type 0) : Type 0 where
  pub knows : Knows new
  pub moments : Leaves g (store_disk old) (store_disk new) P
  pub kept : (image : List ℕ) → MightLeave new image → P image

-- Once a snapshot is saved each crash leaves its checkpoint; before then and without that, one from before or none, or this one.
pub record Saves {D T E : Type 0} {g : Ghosts D} (old new : Store D g) (snapshot : Snapshot) (result : Result T E) : Type 0 where
  pub saved : OnOk result ((image : List ℕ) → g.may_leave (store_disk new) image → CheckpointBytes image snapshot)
  pub left : StoreLeaves old new (IsKeptOrSavedBy old snapshot)
