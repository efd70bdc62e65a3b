-- What taking a pin does
use Rattle.std.specs.Prelude.{◌≡◌, ℕ, ◌<◌, ◌≤◌, List, [], ◌∷◌, ◌++◌, length}
use Rattle.office_state.specs.Names.{Policy, most_pins, PinRefusal}
use Rattle.policy_types.specs.declared.entry.PinRefusal.TheVariants.{PinsFull}
use Rattle.office_state.specs.declared.held.Held.{Held}
use Rattle.office_state.specs.declared.held.PinInfo.{PinInfo}

-- a pin of the policies at a position is one of the live ones, the last
pub record HasTaken (old new : List Held) (policies : List Policy) (number caller position : ℕ) (info : PinInfo) : Type 0 where
  pub few : length old < most_pins
  pub more : new ≡ old ++ (record { number = number; caller = caller; position = position; policies = length policies }) ∷ []
  pub told : info ≡ record { number = number; position = position; policies = length policies }

-- no more pins may be live
pub record IsFull (old new : List Held) (refusal : PinRefusal) : Type 0 where
  pub full : most_pins ≤ length old
  pub stay : new ≡ old
  pub told : refusal ≡ PinsFull
