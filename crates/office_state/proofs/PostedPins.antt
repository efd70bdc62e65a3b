-- A posting leaves the pins and the floor.
use Rattle.office_state.proofs.Names.{◌≡◌, ℕ, List, [], ◌∷◌, ◌++◌, refl, sym, None, Command, Reply, Entry, floor_of, floor_set, pin_of, floor_of-kept, pins_held}
use Rattle.office_state.proofs.HistorySteps.{posting}
use Rattle.office_state.proofs.PinSteps.{pins_held-same}

pub posted_pins : (turns : List Entry) (caller : ℕ) (command : Command) (reply : Reply) → pin_of reply ≡ None
    → pins_held turns ≡ pins_held (turns ++ posting caller command reply ∷ [])
posted_pins turns caller command reply none = sym (pins_held-same turns (posting caller command reply) (λ n. refl) none)

pub posted_floor : (turns : List Entry) (caller : ℕ) (command : Command) (reply : Reply) → floor_set reply ≡ None
    → floor_of turns ≡ floor_of (turns ++ posting caller command reply ∷ [])
posted_floor turns caller command reply none = sym (floor_of-kept turns (posting caller command reply) none)
