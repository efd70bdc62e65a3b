-- Every call has a reply that is due; apart from faults and refusals of memory it has only one
use Rattle.std.specs.Prelude.{◌≡◌, ℕ, ◌≤◌, List, Some}
use Rattle.schedule_laws.specs.Names.{Command, Entry, Opening, IsDue, IsOwnPin, live_pin, Post, Read, Unpin, Reply, Accepted, Refused, Faulted}
use Rattle.policy_types.specs.declared.refusal.Refusal.{Refusal}
use Rattle.policy_types.specs.declared.entry.Call.{Call}

-- a call that posts nothing
abbrev pub PostsNothing : Call → Type 0
PostsNothing (Post command) = ⊥
PostsNothing _ = Unit {0}

-- after the same turns, such a call of the same caller has at most one reply
abbrev pub OneReplyLaw : Type 0
OneReplyLaw = (opening : Opening) (before : List Entry) (caller : ℕ) (call : Call) (one other : Reply) → PostsNothing call
    → IsDue opening before caller call one → IsDue opening before caller call other → one ≡ other

-- a posting is accepted at one position
abbrev pub OnePositionLaw : Type 0
OnePositionLaw = (opening : Opening) (before : List Entry) (caller : ℕ) (command : Command) (one other : ℕ)
    → IsDue opening before caller (Post command) (Accepted one)
    → IsDue opening before caller (Post command) (Accepted other) → one ≡ other

-- or refused for one reason
abbrev pub OneRefusalLaw : Type 0
OneRefusalLaw = (opening : Opening) (before : List Entry) (caller : ℕ) (command : Command) (one other : Refusal)
    → IsDue opening before caller (Post command) (Refused one)
    → IsDue opening before caller (Post command) (Refused other) → one ≡ other

-- and a posting that is refused is neither accepted nor answered by a fault
abbrev pub RefusedOrNotLaw : Type 0
RefusedOrNotLaw = (opening : Opening) (before : List Entry) (caller : ℕ) (command : Command) (refusal : Refusal) (n : ℕ)
    → IsDue opening before caller (Post command) (Refused refusal)
    → (IsDue opening before caller (Post command) (Accepted n) → ⊥) × (IsDue opening before caller (Post command) (Faulted n) → ⊥)

-- what a call needs: for a read or an unpin, a live pin of the same caller; for a read, an index within the pin's
-- policies
abbrev pub MayCall : List Entry → ℕ → Call → Type 0
MayCall before caller (Read pin first) =
    (held : ℕ × ℕ) × (live_pin before pin ≡ Some held) × IsOwnPin before caller pin × (first ≤ held.1)
MayCall before caller (Unpin pin) = (held : ℕ × ℕ) × (live_pin before pin ≡ Some held) × IsOwnPin before caller pin
MayCall before caller _ = Unit {0}

-- every such call has a reply
abbrev pub SomeReplyLaw : Type 0
SomeReplyLaw = (opening : Opening) (before : List Entry) (caller : ℕ) (call : Call) → MayCall before caller call
    → (reply : Reply) × IsDue opening before caller call reply
