-- What the reads of a pin's policies do, whatever is made of the policies
use Rattle.std.specs.Prelude.{◌≡◌, ℕ, ◌+◌, ◌*◌, ◌/◌, ◌<◌, List, [], ◌∷◌, ◌++◌, length, map, take, drop, Option, None, Some, Result, Ok, Err}
use Rattle.snapshot_value.specs.Names.{Policy, policies_per_read, Placed, reads_of, Holding, OfficeOpening}
use Rattle.policy_types.specs.declared.entry.Call.{Call}
use Rattle.policy_types.specs.declared.entry.Call.TheVariants.{Read, Unpin}
use Rattle.memory_requests.specs.declared.evidence.NoMemory.{NoMemory as Refusal}
use Rattle.schedule_laws.specs.PinnedReads.{book_at}
use Rattle.office_state.specs.declared.held.Held.{Held}
use Rattle.snapshot_value.specs.Growing.{Grows}
use Rattle.snapshot_value.specs.Reading.{most_turns}
use Rattle.snapshot_value.specs.declared.valuation.ValueFault.{ValueFault}
use Rattle.snapshot_value.specs.declared.valuation.ValueFault.TheVariants.{Pin, NoMemory}

-- the calls of some turns
abbrev pub calls_of : List Placed → List Call
calls_of placed = map (λ (turn : Placed). turn.1.call) placed

-- the reads that so many policies need
abbrev pub reads_needed : ℕ → ℕ
reads_needed policies = (policies + 255) / policies_per_read

module _ {D W : Type 0} where
  -- the policies at a position, by what the pass has seen
  abbrev pub policies_at : Holding (OfficeOpening D W) → ℕ → List Policy
  policies_at pass position = after pass.opening
    where
      after : Option (OfficeOpening D W) → List Policy
      after None = []
      after (Some opened) = book_at opened.opening pass.seen position

  -- the read of a pin's k-th part
  pub record HasReadPart (pin : Held) (k : ℕ) (part : List Policy) (old new : Holding (OfficeOpening D W)) : Type 0 where
    pub read : Placed
    pub grows : Grows old new (read ∷ [])
    pub call : read.1.call ≡ Read pin.number (policies_per_read * k)
    pub stays : policies_at new pin.position ≡ policies_at old pin.position
    pub filled : part ≡ take policies_per_read (drop (policies_per_read * k) (policies_at old pin.position))

  -- the first k reads of a pin, after which something is true of the policies read
  pub record HasReadFirst (Has : List Policy → Type 0) (pin : Held) (k : ℕ) (old new : Holding (OfficeOpening D W)) : Type 0 where
    pub reads : List Placed
    pub grows : Grows old new reads
    pub calls : calls_of reads ≡ take k (reads_of pin.number pin.policies)
    pub stays : policies_at new pin.position ≡ policies_at old pin.position
    pub has : Has (take (policies_per_read * k) (policies_at old pin.position))

  -- the first reads of a pin, or none
  pub record HasReadSome (pin : Held) (old new : Holding (OfficeOpening D W)) : Type 0 where
    pub reads : List Placed
    pub grows : Grows old new reads
    pub many : ℕ
    pub calls : calls_of reads ≡ take many (reads_of pin.number pin.policies)

  -- all reads of a pin
  pub record HasReadEach (pin : Held) (old new : Holding (OfficeOpening D W)) : Type 0 where
    pub reads : List Placed
    pub grows : Grows old new reads
    pub calls : calls_of reads ≡ reads_of pin.number pin.policies

  module _ {Made : Type 0} (IsOf : ℕ → List Policy → Made → Type 0) where
    -- all reads of a pin, and what was made of its policies; or, if memory was refused, only some of the reads
    abbrev pub HasMadeOfReads : Held → Holding (OfficeOpening D W) → Holding (OfficeOpening D W) → Result Made Refusal → Type 0
    HasMadeOfReads pin old new (Ok made) = HasReadEach pin old new × IsOf pin.position (policies_at old pin.position) made
    HasMadeOfReads pin old new (Err lack) = HasReadSome pin old new

    -- what follows a pin, and what is returned
    abbrev pub FollowsReads : Held → Holding (OfficeOpening D W) → List Call → Result Made ValueFault → Type 0
    FollowsReads pin old calls (Ok made) =
        (calls ≡ reads_of pin.number pin.policies ++ Unpin pin.number ∷ []) × IsOf pin.position (policies_at old pin.position) made
    FollowsReads pin old calls (Err (NoMemory lack)) =
        (many : ℕ) × (calls ≡ take many (reads_of pin.number pin.policies) ++ Unpin pin.number ∷ [])
    FollowsReads pin old calls (Err (Pin refusal)) = ⊥

    -- something was made of a pin's policies, or memory was refused, and the pin was given up
    pub record HasMadeOfPin (pin : Held) (old new : Holding (OfficeOpening D W)) (answer : Result Made ValueFault) : Type 0 where
      pub later : List Placed
      pub grows : Grows old new later
      pub few : length later < most_turns
      pub follows : FollowsReads pin old (calls_of later) answer
