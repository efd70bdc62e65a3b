-- The turns of pins, reads and trims
use Rattle.std.specs.Prelude.{ℕ, List, Ok, Err, Result}
use Rattle.office_state.specs.Names.{Policy, Pin, PinAt, Read, Unpin, Trim, Reply, Pinned, PinRefused, Policies, Unpinned, Floor, Entry, PinRefusal}
use Rattle.office_state.specs.declared.held.PinInfo.{PinInfo}

-- the reply of a pin's turn
abbrev pub pin_reply : Result PinInfo PinRefusal → Reply
pin_reply (Ok info) = Pinned info.position info.policies
pin_reply (Err refusal) = PinRefused refusal

abbrev pub pin_turn : ℕ → Result PinInfo PinRefusal → Entry
pin_turn caller result = record { caller = caller; call = Pin; reply = pin_reply result }

abbrev pub pin_at_turn : ℕ → ℕ → Result PinInfo PinRefusal → Entry
pin_at_turn caller p result = record { caller = caller; call = PinAt p; reply = pin_reply result }

abbrev pub read_turn : ℕ → ℕ → ℕ → List Policy → Entry
read_turn caller pin first policies = record { caller = caller; call = Read pin first; reply = Policies policies }

abbrev pub unpin_turn : ℕ → ℕ → Entry
unpin_turn caller pin = record { caller = caller; call = Unpin pin; reply = Unpinned }

abbrev pub trim_turn : ℕ → ℕ → Entry
trim_turn caller floor = record { caller = caller; call = Trim; reply = Floor floor }
