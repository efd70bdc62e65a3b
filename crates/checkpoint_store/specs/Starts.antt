-- What starting a store answers
use Rattle.std.specs.Prelude.{◌⊎◌, ℕ, List, Result, Ok, Err}
use Rattle.checkpoint_store.specs.Names.{Ghosts, IsSafe}
use Rattle.checkpoint_store.specs.Checkpoints.{IsNoCheckpoint}
use Rattle.checkpoint_store.specs.Stores.{Knows, MightLeave, store_disk}
use Rattle.checkpoint_store.specs.declared.faults.StoreFault.{StoreFault}
use Rattle.checkpoint_store.specs.declared.store.Store.{Store}

-- the disk that comes back, in the store or with the fault
abbrev pub second_disk_back : {D : Type 0} {g : Ghosts D} → Result (Store D g) (StoreFault D) → D
second_disk_back (Ok store) = store_disk store
second_disk_back (Err fault) = fault.disk

-- Each image is what is read, the store knows its gate, and a checkpoint that it might leave is an image from before.
pub record HasLookedAt {D : Type 0} {g : Ghosts D} (old : D) (store : Store D g) : Type 0 where
  pub safe : IsSafe g (store_disk store)
  pub knows : Knows store
  pub earlier : (image : List ℕ) → MightLeave store image → IsNoCheckpoint image ⊎ g.may_leave old image
