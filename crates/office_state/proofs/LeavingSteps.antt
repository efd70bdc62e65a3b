-- The disk that an office leaves
use Rattle.office_state.proofs.Names.{List, Ghosts, Entry, WatcherGhosts, OfficeState, IsLeftBy, StandsFor}
use Rattle.office_state.specs.States.{begun_of, disk_of, opening_of}

module _ {D W : Type 0} {g : Ghosts D} {w : WatcherGhosts W} where
  pub left_by : (state : OfficeState D W g w) (turns : List Entry) → StandsFor state turns
      → IsLeftBy g (begun_of state) (disk_of state) (opening_of state) turns
  left_by state turns stands = record {
    honesty = stands.honesty;
    faults = stands.fault_count;
    opened = stands.opened;
    now = stands.images_now;
    since = λ honest. (stands.images_since honest).since;
    synced = λ honest. (stands.images_since honest).synced;
    kept = stands.images_kept;
    alone = stands.alone;
  }
