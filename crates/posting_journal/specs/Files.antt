-- The journal of a list of bodies, as a whole file. Bytes after the first closed gate have no meaning.
use Rattle.std.specs.Prelude.{◌≡◌, ◌≢◌, ◌⊎◌, ℕ, ◌+◌, ◌<◌, ◌≤◌, List, [], ◌∷◌, ◌++◌, length, take, drop, slice_index, slice_index_or}
use Rattle.policy_types.specs.Limits.{most_commands}
use Rattle.posting_journal.specs.Layout.{header, gate_place, body_place}

-- its creation has ended, and it has the header
pub record IsMade (bytes : List ℕ) : Type 0 where
  pub finished : slice_index bytes 0 ≡ 1
  pub header : take 16 (drop 1 bytes) ≡ header

-- The file is the journal of these bodies: its records are exactly these, in order, each with an open gate before its
-- body, and a closed gate ends them.
pub record IsJournal (bytes : List ℕ) (bodies : List (List ℕ)) : Type 0 where
  pub made : IsMade bytes
  pub records : (n : ℕ) → n < length bodies → (slice_index bytes (gate_place n) ≡ 1)
      × (take 64 (drop (gate_place n + 1) bytes) ≡ slice_index_or bodies n [])
  pub end : (gate_place (length bodies) < length bytes) × (slice_index bytes (gate_place (length bodies)) ≢ 1)
  pub few : length bodies ≤ most_commands

-- each record has its body, in order
abbrev pub HasRecords : List ℕ → List (List ℕ) → Type 0
HasRecords bytes bodies = (n : ℕ) → n < length bodies → (slice_index bytes (gate_place n) ≡ 1)
    × (take 64 (drop (body_place n) bytes) ≡ slice_index_or bodies n [])

-- the gate of a record is there, and closed
abbrev pub IsClosed : List ℕ → ℕ → Type 0
IsClosed bytes n = (gate_place n < length bytes) × (slice_index bytes (gate_place n) ≢ 1)

-- The file is the journal of these bodies, or, if the gate of the new body is open, of these and the new one. The new
-- body is whole after that gate, and a closed gate comes after it.
pub record IsStaged (bytes : List ℕ) (bodies : List (List ℕ)) (body : List ℕ) : Type 0 where
  pub made : IsMade bytes
  pub records : HasRecords bytes bodies
  pub whole : take 64 (drop (body_place (length bodies)) bytes) ≡ body
  pub end : IsClosed bytes (length bodies + 1)
  pub fewer : length bodies < most_commands

-- without the new body or with it
abbrev pub IsBeforeOrAfter : List (List ℕ) → List ℕ → List ℕ → Type 0
IsBeforeOrAfter bodies body bytes = IsJournal bytes bodies ⊎ IsJournal bytes (bodies ++ body ∷ [])
