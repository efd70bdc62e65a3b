-- The legal histories of the office: every reply is the one that is due after the earlier turns
use Rattle.std.specs.Prelude.{◌≡◌, ℕ, ◌+◌, ◌-◌, ◌^◌, ◌<◌, ◌≤◌, min, Bool, true, not, ◌==◌, if◌then◌else◌, List, [], ◌∷◌, ◌++◌, length, take, drop, slice_get, Some, None, Option}
use Rattle.policy_machine.specs.Names.{AllByRecursion, filter_map, list_any, last_or, option_map, option_and_then, range_with_len, unwrap_or, Command, Refusal, Full, Call, Post, Pin, PinAt, Read, Unpin, Trim, Reply, Accepted, Refused, Faulted, Pinned, PinRefused, Policies, Unpinned, Floor, Blank, Ahead, Trimmed, PinsFull, Entry, IsValid, most_commands}
use Rattle.policy_machine.specs.Book.{book, judge, IsAccepted}

-- what an office was opened on: the commands of its journal, and the disk's count of faults then
pub record Opening : Type 0 where
  pub commands : List Command
  pub faults : ℕ

abbrev pub opened_on : List Command → ℕ → Opening
opened_on commands faults = record { commands = commands; faults = faults }

-- the accepted commands of a history, in order
abbrev pub accepted_of : List Entry → List Command
accepted_of history = filter_map (λ entry. accepted_by entry.call entry.reply) history
  where
    accepted_by : Call → Reply → Option Command
    accepted_by (Post command) (Accepted position) = Some command
    accepted_by _ _ = None

-- all accepted commands: those of the opening, and those of these turns
abbrev pub commands_after : Opening → List Entry → List Command
commands_after opening before = opening.commands ++ accepted_of before

-- the count of faults that a turn answered
abbrev pub fault_of : Reply → Option ℕ
fault_of (Faulted count) = Some count
fault_of _ = None

-- A fault that neither an earlier turn reported nor the opening met: its count is above theirs. The count stands
-- still at 2 ^ 64 - 1, the last value of its type; there two faults have the same count
abbrev pub IsFreshFault : Opening → List Entry → ℕ → Type 0
IsFreshFault opening before count =
    IsBelow opening.faults × AllByRecursion IsBelow (filter_map (λ entry. fault_of entry.reply) before)
  where
    IsBelow : ℕ → Type 0
    IsBelow earlier = min (earlier + 1) (2 ^ 64 - 1) ≤ count

abbrev pub gives_up : ℕ → Call → Bool
gives_up pin (Unpin n) = n == pin
gives_up pin _ = not true

-- the position and the number of policies of the pin that the turn at this place took, if it took one and no later
-- turn gave it up
abbrev pub live_pin : List Entry → ℕ → Option (ℕ × ℕ)
live_pin before pin =
    if list_any (λ entry. gives_up pin entry.call) (drop (pin + 1) before) then None
    else option_and_then (λ entry. pin_of entry.reply) (slice_get before pin)
  where
    pin_of : Reply → Option (ℕ × ℕ)
    pin_of (Pinned position policies) = Some (position, policies)
    pin_of _ = None

-- the positions of the live pins
abbrev pub live_positions : List Entry → List ℕ
live_positions before = filter_map (λ pin. option_map (λ held. held.0) (live_pin before pin)) (range_with_len 0 (length before))

-- a pin's turn was this caller's
abbrev pub IsOwnPin : List Entry → ℕ → ℕ → Type 0
IsOwnPin before caller pin = (entry : Entry) × (slice_get before pin ≡ Some entry) × (entry.caller ≡ caller)

-- the floor set by the last turn that set one, else 0
abbrev pub floor_of : List Entry → ℕ
floor_of before = unwrap_or (last_or None (filter_map (λ entry. floor_set entry.reply) before)) 0
  where
    floor_set : Reply → Option ℕ
    floor_set (Floor floor) = Some floor
    floor_set _ = None

-- the least of the numbers, or another number if there is none
abbrev pub least_or : ℕ → List ℕ → ℕ
least_or other [] = other
least_or other (n ∷ []) = n
least_or other (n ∷ m ∷ rest) = min n (least_or other (m ∷ rest))

abbrev pub most_pins : ℕ
most_pins = 16

abbrev pub policies_per_read : ℕ
policies_per_read = 256

-- why a command can't be posted after these, if there is a reason: a rule refuses it, or the journal is full
abbrev pub refusal_due : List Command → Command → Option Refusal
refusal_due commands command = or_full (judge commands command)
  where
    or_full : Option Refusal → Option Refusal
    or_full (Some refusal) = Some refusal
    or_full None = if length commands == most_commands then Some Full else None

-- the reply is the one that is due to a caller's call after the earlier turns
abbrev pub IsDue : Opening → List Entry → ℕ → Call → Reply → Type 0
IsDue opening before caller (Post command) (Refused refusal) =
    refusal_due (commands_after opening before) command ≡ Some refusal
IsDue opening before caller (Post command) (Accepted position) =
    (refusal_due (commands_after opening before) command ≡ None)
    × (position ≡ length (commands_after opening before) + 1)
IsDue opening before caller (Post command) (Faulted count) =
    (refusal_due (commands_after opening before) command ≡ None) × IsFreshFault opening before count
IsDue opening before caller (Post command) Blank = Unit {0}
IsDue opening before caller Pin (PinRefused PinsFull) = most_pins ≤ length (live_positions before)
IsDue opening before caller Pin (Pinned position policies) =
    (length (live_positions before) < most_pins)
    × (position ≡ length (commands_after opening before))
    × (policies ≡ length (book (commands_after opening before)))
IsDue opening before caller (PinAt p) (PinRefused (Ahead count)) =
    (length (commands_after opening before) < p) × (count ≡ length (commands_after opening before))
IsDue opening before caller (PinAt p) (PinRefused (Trimmed floor)) =
    (p ≤ length (commands_after opening before)) × (p < floor_of before) × (floor ≡ floor_of before)
IsDue opening before caller (PinAt p) (PinRefused PinsFull) =
    (p ≤ length (commands_after opening before)) × (floor_of before ≤ p)
    × (most_pins ≤ length (live_positions before))
IsDue opening before caller (PinAt p) (Pinned position policies) =
    (p ≤ length (commands_after opening before)) × (floor_of before ≤ p)
    × (length (live_positions before) < most_pins) × (position ≡ p)
    × (policies ≡ length (book (take p (commands_after opening before))))
IsDue opening before caller (Read pin first) (Policies policies) =
    (held : ℕ × ℕ) × (live_pin before pin ≡ Some held) × IsOwnPin before caller pin × (first ≤ held.1)
    × (policies ≡ take policies_per_read (drop first (book (take held.0 (commands_after opening before)))))
IsDue opening before caller (Unpin pin) Unpinned =
    (held : ℕ × ℕ) × (live_pin before pin ≡ Some held) × IsOwnPin before caller pin
IsDue opening before caller Trim (Floor floor) =
    floor ≡ least_or (length (commands_after opening before)) (live_positions before)
IsDue _ _ _ _ _ = ⊥

-- each turn of rest has the reply that is due after the turns before it
abbrev pub IsLegalAfter : Opening → List Entry → List Entry → Type 0
IsLegalAfter opening before [] = Unit {0}
IsLegalAfter opening before (entry ∷ rest) =
    IsDue opening before entry.caller entry.call entry.reply × IsLegalAfter opening (before ++ entry ∷ []) rest

-- what an office can be opened on
pub record IsOpening (opening : Opening) : Type 0 where
  pub accepted : IsAccepted opening.commands
  pub valid : AllByRecursion IsValid opening.commands
  pub few : length opening.commands ≤ most_commands

-- a legal history of the office from its opening on
pub record IsLegal (opening : Opening) (history : List Entry) : Type 0 where
  pub opens : IsOpening opening
  pub due : IsLegalAfter opening [] history
