-- A seat at the table, as the functions of the steps and a pass see it
use Rattle.std.specs.Prelude.{◌≡◌, ℕ, ◌<◌, List, [], ◌∷◌, length, Option, Some, None}
use Rattle.atomic_table.specs.Seated.{TableId}
use Rattle.atomic_table.specs.declared.shared.Seat.{Seat}
use Rattle.policy_types.specs.declared.entry.Entry.{Entry}
use Rattle.turn_lock.specs.History.{StartsWith}
use Rattle.turn_lock.specs.Passes.{Holding, all_turns}
use Rattle.turn_lock.specs.declared.seats.Kept.{Kept}
use Rattle.turn_lock.specs.declared.seats.View.{View}
use Rattle.turn_lock.specs.declared.seats.Stage.TheVariants.{Idle}
use Rattle.turn_lock.specs.inside.Seats.{SeatFacts, inside}
use Rattle.turn_lock.specs.inside.Steps.{Sat}

-- two words, one slot
abbrev pub IsBoard : TableId → Type 0
IsBoard table = (table.words ≡ 2) × (table.slots ≡ 1)

module _ {T O : Type 0} where
  -- the seat after a step, which stays the same seat
  abbrev pub IsNow : Seat (Option (Kept T)) (View O) → Seat (Option (Kept T)) (View O) → Sat T O → Type 0
  IsNow old new me = (new.table_id ≡ old.table_id) × (new.id ≡ old.id) × (new.me ≡ me)

  -- the seat is inside, has seen the whole history, and holds the emptied slot; this is what was in it
  pub record TookOut (opens : T → O) (legal : O → List Entry → Type 0) (stands : T → List Entry → Type 0) (old new : Seat (Option (Kept T)) (View O)) (kept : Kept T) : Type 0 where
    pub history : List Entry
    pub now : IsNow old new (inside old.me.0 history, (0, None) ∷ [])
    pub stood : stands kept.value history
    pub opened : old.me.0.opened ≡ Some (opens kept.value)
    pub begins : StartsWith history old.me.0.seen
    pub turns : kept.turns ≡ length history
    pub short : length history < all_turns
    pub facts : SeatFacts legal new.me.0

  -- the seat is a pass's: it is idle, holds no slot, and knows what the pass says
  pub record IsPass (legal : O → List Entry → Type 0) (me : Sat T O) (caller left shares : ℕ) : Type 0 where
    pub idle : me.0.stage ≡ Idle
    pub bare : me.1 ≡ []
    pub caller_is : me.0.number ≡ caller
    pub left_is : me.0.left ≡ left
    pub shares_is : me.0.shares ≡ shares
    pub facts : SeatFacts legal me.0

  -- what contracts see of the pass
  abbrev pub holding : Seat (Option (Kept T)) (View O) → Holding O
  holding place = record {
    turnstile = place.table_id;
    opening = place.me.0.opened;
    caller = place.me.0.number;
    left = place.me.0.left;
    shares = place.me.0.shares;
    seen = place.me.0.seen;
    made = place.me.0.made;
    ended = place.me.0.ended;
  }
