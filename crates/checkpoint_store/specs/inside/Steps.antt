-- What the steps of the calls do, for the contracts of the steps alone.
use Rattle.std.specs.Prelude.{◌≡◌, ◌⊎◌, ℕ, Bool, false, List, ◌∷◌, drop, Result, OnOk}
use Rattle.checkpoint_store.specs.Names.{Ghosts, IsSafe, Passes}
use Rattle.checkpoint_store.specs.declared.snapshot.Snapshot.{Snapshot}
use Rattle.checkpoint_store.specs.Checkpoints.{CheckpointBytes, IsNoCheckpoint}
use Rattle.checkpoint_store.specs.Stores.{AreShut, DifferInGate, IsShut, KnowsGate, MightBeLeft}

-- an image from before, with another gate
abbrev pub HasOtherGate : {D : Type 0} → Ghosts D → D → List ℕ → Type 0
HasOtherGate g old image = (earlier : List ℕ) × g.may_leave old earlier × (drop 1 image ≡ drop 1 earlier)

-- The gate was written, and made safe or failed; what stands behind it stays.
pub record GatesOn {D : Type 0} (g : Ghosts D) (old new : D) : Type 0 where
  pub rest : drop 1 (g.reads new) ≡ drop 1 (g.reads old)
  pub images : (image : List ℕ) → g.may_leave new image → HasOtherGate g old image
  pub time : Passes g old new (HasOtherGate g old)

-- each image keeps its closed gate
pub record StaysShut {D : Type 0} (g : Ghosts D) (old new : D) : Type 0 where
  pub shut : AreShut g new
  pub time : Passes g old new IsShut

-- the disk was made safe, and its gate looked at
pub record LooksAtGate {D : Type 0} (g : Ghosts D) (new : D) (closed : Bool) : Type 0 where
  pub safe : IsSafe g new
  pub knows : KnowsGate g closed new
  pub earlier : closed ≡ false → IsNoCheckpoint (1 ∷ drop 1 (g.reads new)) ⊎ (1 ∷ drop 1 (g.reads new) ≡ g.reads new)

-- The gate before a snapshot was opened, or may be open: each image is closed, or a checkpoint of the snapshot, and it is
-- the checkpoint where that succeeded.
pub record OpensGateOn {D T E : Type 0} (g : Ghosts D) (old new : D) (snapshot : Snapshot) (result : Result T E) : Type 0 where
  pub knows : DifferInGate g new
  pub saved : OnOk result ((image : List ℕ) → g.may_leave new image → CheckpointBytes image snapshot)
  pub moments : Passes g old new (λ image. IsNoCheckpoint image ⊎ CheckpointBytes image snapshot)
  pub kept : (image : List ℕ) → MightBeLeft g false new image → IsNoCheckpoint image ⊎ CheckpointBytes image snapshot
