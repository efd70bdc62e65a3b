-- What a pin holds: the book at its position, whatever was posted between its reads
use Rattle.std.specs.Prelude.{◌≡◌, ℕ, ◌*◌, ◌≤◌, List, [], length, map, take, drop, slice_get, Some}
use Rattle.schedule_laws.specs.Names.{AllByRecursion, flat_map, Entry, book, Opening, IsLegal, commands_after, floor_of, live_pin, policies_per_read, Policy, Read, Reply, Pinned, Policies}
use Rattle.policy_machine.specs.Merge.{reads_of}

-- the book after the first commands of a history
abbrev pub book_at : Opening → List Entry → ℕ → List Policy
book_at opening history position = book (take position (commands_after opening history))

-- what a live pin holds can still be read: its position is from the floor up to the count of commands, and its
-- policies are those of the book at that position
abbrev pub LivePinLaw : Type 0
LivePinLaw = (opening : Opening) (history : List Entry) (pin position policies : ℕ) → IsLegal opening history
    → live_pin history pin ≡ Some (position, policies)
    → (floor_of history ≤ position) × (position ≤ length (commands_after opening history))
    × (policies ≡ length (book_at opening history position))

-- the turn at this place took a pin
abbrev pub IsPinnedAt : List Entry → ℕ → ℕ → ℕ → Type 0
IsPinnedAt history pin position policies =
    (entry : Entry) × (slice_get history pin ≡ Some entry) × (entry.reply ≡ Pinned position policies)

-- the turn is somewhere in the history
abbrev pub StandsIn : List Entry → Entry → Type 0
StandsIn history entry = (place : ℕ) × (slice_get history place ≡ Some entry)

-- the policies that a read answered
abbrev pub policies_told : Reply → List Policy
policies_told (Policies policies) = policies
policies_told _ = []

-- a read of a pin, at any place in the history, has the policies from its first index on in the book at the pin's
-- position
abbrev pub ReadLaw : Type 0
ReadLaw = (opening : Opening) (history : List Entry) (pin position policies first : ℕ) (read : Entry)
    → IsLegal opening history → IsPinnedAt history pin position policies
    → StandsIn history read → read.call ≡ Read pin first
    → policies_told read.reply ≡ take policies_per_read (drop first (book_at opening history position))

-- the first k reads of a pin, put together, are the first 256 k policies of that book
abbrev pub PinnedReadLaw : Type 0
PinnedReadLaw = (opening : Opening) (history : List Entry) (pin position policies k : ℕ) (reads : List Entry)
    → IsLegal opening history → IsPinnedAt history pin position policies
    → AllByRecursion (StandsIn history) reads
    → map (λ read. read.call) reads ≡ take k (reads_of pin policies)
    → flat_map (λ read. policies_told read.reply) reads ≡ take (policies_per_read * k) (book_at opening history position)

-- all reads of a pin, put together, are that book
abbrev pub WholePinnedReadLaw : Type 0
WholePinnedReadLaw = (opening : Opening) (history : List Entry) (pin position policies : ℕ) (reads : List Entry)
    → IsLegal opening history → IsPinnedAt history pin position policies
    → AllByRecursion (StandsIn history) reads
    → map (λ read. read.call) reads ≡ reads_of pin policies
    → flat_map (λ read. policies_told read.reply) reads ≡ book_at opening history position
