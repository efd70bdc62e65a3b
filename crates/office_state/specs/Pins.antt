-- The live pins of a history, and who holds them
use Rattle.std.specs.Prelude.{◌≡◌, ℕ, ◌≤◌, List, length, slice_get, Some, None, Option}
use Rattle.office_state.specs.Names.{Contains, filter_map, range_with_len, Entry, live_pin}
use Rattle.office_state.specs.declared.held.Held.{Held}

-- the pin that the turn at a place took, as its caller holds it, if it is live
abbrev pub held_in : ℕ → Option Entry → Option (ℕ × ℕ) → Option Held
held_in place (Some entry) (Some pin) =
    Some (record { number = place; caller = entry.caller; position = pin.0; policies = pin.1 })
held_in _ _ _ = None

abbrev pub held_at : List Entry → ℕ → Option Held
held_at turns place = held_in place (slice_get turns place) (live_pin turns place)

-- the live pins, in order of their numbers
abbrev pub pins_held : List Entry → List Held
pins_held turns = filter_map (held_at turns) (range_with_len 0 (length turns))

-- one of the pins has this number, and the caller holds it
pub record IsHeldBy (pins : List Held) (caller pin : ℕ) : Type 0 where
  pub held : Held
  pub among : Contains pins held
  pub number : held.number ≡ pin
  pub holder : held.caller ≡ caller

-- and its policies go up to an index
pub record MayRead (pins : List Held) (caller pin first : ℕ) : Type 0 where
  pub held : Held
  pub among : Contains pins held
  pub number : held.number ≡ pin
  pub holder : held.caller ≡ caller
  pub within : first ≤ held.policies
