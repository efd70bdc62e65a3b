-- A pin in its caller's hands
use Rattle.std.specs.Prelude.{◌≡◌, ◌≢◌, ℕ, false, List, slice_get, Some, Ok, Err, Result}
use Rattle.shared_office.specs.Names.{list_any, Entry, gives_up, Holding, Pin, PinAt, PinRefusal, Held}
use Rattle.policy_types.specs.declared.entry.Call.{Call}
use Rattle.policy_types.specs.declared.entry.Reply.TheVariants.{Pinned, PinRefused}
use Rattle.policy_types.specs.declared.entry.Reply.{Reply}

-- the call asks for a pin
abbrev pub AsksForPin : Call → Type 0
AsksForPin Pin = Unit {0}
AsksForPin (PinAt p) = Unit {0}
AsksForPin _ = ⊥

-- no entry gives the pin of this number up
abbrev pub IsNotGivenUp : ℕ → List Entry → Type 0
IsNotGivenUp number entries = list_any (λ (entry : Entry). gives_up number entry.call) entries ≡ false

-- the caller made this pin, as it has seen, and hasn't given it up
pub record HasMadePin (pin : Held) (caller : ℕ) (seen made : List Entry) : Type 0 where
  pub call : Call
  pub asked : AsksForPin call
  pub holder : pin.caller ≡ caller
  pub took : slice_get seen pin.number
      ≡ Some (record { caller = caller; call = call; reply = Pinned pin.position pin.policies })
  pub kept : IsNotGivenUp pin.number made

-- the pass made the pin, and holds it
abbrev pub HoldsPin : {O : Type 0} → Holding O → Held → Type 0
HoldsPin pass pin = HasMadePin pin pass.caller pass.seen pass.made

-- the pins that a pass holds it still holds
abbrev pub KeepsPins : {O : Type 0} → Holding O → Holding O → Type 0
KeepsPins old new = (pin : Held) → HoldsPin old pin → HoldsPin new pin

-- the reply of a turn that asked for a pin
abbrev pub pinned_reply : Result Held PinRefusal → Reply
pinned_reply (Ok pin) = Pinned pin.position pin.policies
pinned_reply (Err refusal) = PinRefused refusal

-- a caller's turn of a call that asks for a pin
abbrev pub pinning_turn : ℕ → Call → Result Held PinRefusal → Entry
pinning_turn caller call answer = record { caller = caller; call = call; reply = pinned_reply answer }

-- and all but that of a number
abbrev pub KeepsOtherPins : {O : Type 0} → ℕ → Holding O → Holding O → Type 0
KeepsOtherPins number old new = (pin : Held) → pin.number ≢ number → HoldsPin old pin → HoldsPin new pin
