-- What each kind of step does to its seat
use Rattle.std.specs.Prelude.{◌≡◌, ◌≢◌, ℕ, ◌<◌, ◌≤◌, List, [], ◌∷◌, length, Option, Some}
use Rattle.turn_lock.specs.Names.{Me, Step, Entry}
use Rattle.turn_lock.specs.History.{StartsWith}
use Rattle.turn_lock.specs.Passes.{all_turns}
use Rattle.turn_lock.specs.declared.seats.Kept.{Kept}
use Rattle.turn_lock.specs.declared.seats.View.{View}
use Rattle.turn_lock.specs.inside.Seats.{SeatFacts, named, inside, handed_on, compared}

-- a seat's view, and the slots that are out with it
abbrev pub Sat : Type 0 → Type 0 → Type 0
Sat T O = Me (Option (Kept T)) (View O)

module _ {T O : Type 0} where
  -- the name found becomes the seat's, and is a new one
  abbrev pub Names : (O → List Entry → Type 0) → Step (Option (Kept T)) → Sat T O → ℕ → Sat T O → Type 0
  Names legal step me n next = (next ≡ (named me.0 n, me.1)) × (me.0.names ≤ n) × SeatFacts legal next.0

  -- the lock is the seat's: the value is out with it, and the seat has seen the whole history for which the value
  -- stands
  pub record IsTaken (opens : T → O) (legal : O → List Entry → Type 0) (stands : T → List Entry → Type 0) (me next : Sat T O) : Type 0 where
    pub kept : Kept T
    pub history : List Entry
    pub next_is : next ≡ (inside me.0 history, (0, Some kept) ∷ me.1)
    pub stood : stands kept.value history
    pub opened : me.0.opened ≡ Some (opens kept.value)
    pub begins : StartsWith history me.0.seen
    pub turns : kept.turns ≡ length history
    pub short : length history < all_turns
    pub facts : SeatFacts legal next.0

  -- if the word found is the one looked for, the lock is the seat's; else nothing changes
  pub record TakesLock (opens : T → O) (legal : O → List Entry → Type 0) (stands : T → List Entry → Type 0) (step : Step (Option (Kept T))) (me : Sat T O) (n : ℕ) (next : Sat T O) : Type 0 where
    pub taken : n ≡ step.first → IsTaken opens legal stands me next
    pub missed : n ≢ step.first → next ≡ me

  -- the entry is added to the history and to the seat's own entries, and the slot is home
  abbrev pub HandsOn : (O → List Entry → Type 0) → Entry → Step (Option (Kept T)) → Sat T O → ℕ → Sat T O → Type 0
  HandsOn legal entry step me n next = (next ≡ (handed_on me.0 entry, [])) × SeatFacts legal next.0

  -- both joined lists are beginnings of one history
  abbrev pub Compares : (O → List Entry → Type 0) → Step (Option (Kept T)) → Sat T O → ℕ → Sat T O → Type 0
  Compares legal step me n next = (next ≡ (compared me.0, me.1)) × (length me.0.also ≤ length me.0.seen → StartsWith me.0.seen me.0.also) × SeatFacts legal next.0
