-- What a file can be when it is opened: a creation that didn't end, a journal, or neither.
use Rattle.std.specs.Prelude.{◌≡◌, ◌≢◌, ◌⊎◌, ℕ, ◌+◌, ◌<◌, ◌≤◌, List, [], ◌∷◌, ◌++◌, length, take, drop, slice_index}
use Rattle.policy_types.specs.Limits.{most_commands}
use Rattle.posting_journal.specs.Layout.{empty_journal, header, gate_place}
use Rattle.posting_journal.specs.Files.{IsMade, IsJournal}

-- An unfinished creation. Either no more than byte 0 is there; or byte 0 says that the creation goes on, and nothing
-- comes after the first gate; or everything but byte 0 is that of an empty journal, and byte 0 doesn't say yet that
-- the journal is made.
abbrev pub IsUnfinished : List ℕ → Type 0
IsUnfinished bytes =
    (length bytes ≤ 1)
    ⊎ ((length bytes ≤ 18) × (slice_index bytes 0 ≡ 0))
    ⊎ ((length bytes ≡ 18) × (take 16 (drop 1 bytes) ≡ header) × (slice_index bytes 17 ≢ 1) × (slice_index bytes 0 ≢ 1))

-- the file opens to these bodies
abbrev pub OpensToBodies : List ℕ → List (List ℕ) → Type 0
OpensToBodies bytes bodies = IsJournal bytes bodies ⊎ ((bodies ≡ []) × IsUnfinished bytes)

-- it is no journal: it is too short, or its creation didn't end, or it has another header
pub record IsForeign (bytes : List ℕ) : Type 0 where
  pub finished : ¬ IsUnfinished bytes
  pub other : (length bytes < 18) ⊎ (slice_index bytes 0 ≢ 1) ⊎ (take 16 (drop 1 bytes) ≢ header)

-- The gates up to that of record n are there and open, and n is the first record that is damaged: its body or the
-- gate after it is past the end, or it is one record too many.
pub record IsBadAt (bytes : List ℕ) (n : ℕ) : Type 0 where
  pub made : IsMade bytes
  pub gates : (k : ℕ) → k ≤ n → slice_index bytes (gate_place k) ≡ 1
  pub long : gate_place n < length bytes
  pub few : n ≤ most_commands
  pub here : (length bytes ≤ gate_place (n + 1)) ⊎ (n ≡ most_commands)

-- Byte 0 says that the creation goes on, and nothing comes after the first gate.
pub record IsBegun (bytes : List ℕ) : Type 0 where
  pub some : 0 < length bytes
  pub short : length bytes ≤ 18
  pub unfinished : slice_index bytes 0 ≡ 0

-- Everything but byte 0 is that of an empty journal, and byte 0 is being written.
pub record IsNearlyMade (bytes : List ℕ) : Type 0 where
  pub long : length bytes ≡ 18
  pub header : take 16 (drop 1 bytes) ≡ header
  pub closed : slice_index bytes 17 ≢ 1
  pub not_begun : slice_index bytes 0 ≢ 0
  pub not_made : slice_index bytes 0 ≢ 1

-- all but byte 0 is that of an empty journal, and byte 0 says that the creation goes on
abbrev pub IsReadyAndBegun : List ℕ → Type 0
IsReadyAndBegun bytes = bytes ≡ 0 ∷ header ++ 0 ∷ []

-- it has no bodies, and nothing comes after its first gate
abbrev pub IsEmptyJournal : List ℕ → Type 0
IsEmptyJournal bytes = IsJournal bytes [] × (bytes ≡ empty_journal)

-- a creation of which byte 0 doesn't say yet that it goes on
abbrev pub IsToBegin : List ℕ → Type 0
IsToBegin bytes = (length bytes ≤ 1) ⊎ IsNearlyMade bytes

-- the file opens to no bodies
abbrev pub IsEmpty : List ℕ → Type 0
IsEmpty bytes = OpensToBodies bytes []
