-- What a piece of a journal's file holds.
use Rattle.std.specs.Prelude.{◌≡◌, ℕ, ◌+◌, ◌-◌, ◌*◌, ◌<◌, ◌≤◌, min, List, take, drop}
use Rattle.posting_journal.specs.Layout.{gate_place}
use Rattle.posting_journal.specs.declared.pieces.Stretch.{Stretch}

-- so many bytes were read into it, from the gate of a record on
pub record IsFilled (piece : Stretch) (first many : ℕ) : Type 0 where
  pub place : piece.from ≡ first
  pub size : piece.filled ≡ many

-- it holds nothing
abbrev pub IsEmptyPiece : Stretch → Type 0
IsEmptyPiece piece = piece.filled ≡ 0

-- what it holds is what this file has in its place
abbrev pub IsPartOf : Stretch → List ℕ → Type 0
IsPartOf piece file = take piece.filled piece.bytes ≡ take piece.filled (drop (gate_place piece.from) file)

-- it holds the gate of record n
abbrev pub HasGate : Stretch → ℕ → Type 0
HasGate piece n = (piece.from ≤ n) × (65 * (n - piece.from) < min piece.filled 65520)

-- it holds the body of record n
abbrev pub HasBody : Stretch → ℕ → Type 0
HasBody piece n = (piece.from ≤ n) × (65 * (n - piece.from) + 65 ≤ min piece.filled 65520)
