-- Worked files: a journal of two bodies, creations that didn't end, and files that are none; the bytes were put down by hand
-- from the table of the format
use Rattle.std.specs.Prelude.{ℕ, List, [], ◌∷◌, ◌++◌, replicate}
use Rattle.posting_journal.specs.Creation.{IsBadAt, IsForeign, IsUnfinished, OpensToBodies}
use Rattle.posting_journal.specs.Files.{IsJournal}

-- LIFEJRNL, 1 and 64 in two bytes each, and four zeros
abbrev pub header_by_hand : List ℕ
header_by_hand =
    0x4c ∷ 0x49 ∷ 0x46 ∷ 0x45 ∷ 0x4a ∷ 0x52 ∷ 0x4e ∷ 0x4c ∷
    0x00 ∷ 0x01 ∷ 0x00 ∷ 0x40 ∷ 0x00 ∷ 0x00 ∷ 0x00 ∷ 0x00 ∷ []

-- a body of sixty-four sevens, and one of zeros that ends with a nine
abbrev pub of_sevens : List ℕ
of_sevens = replicate 64 7

abbrev pub of_zeros_and_nine : List ℕ
of_zeros_and_nine = replicate 63 0 ++ 9 ∷ []

-- two records and a closed gate, and bytes after it that have no meaning
abbrev pub two_records : List ℕ
two_records = 1 ∷ header_by_hand ++ 1 ∷ of_sevens ++ 1 ∷ of_zeros_and_nine ++ 0 ∷ 5 ∷ []

abbrev pub TwoRecords : Type 0
TwoRecords = IsJournal two_records (of_sevens ∷ of_zeros_and_nine ∷ [])
    × (IsJournal two_records (of_sevens ∷ []) → ⊥)
    × (IsJournal two_records (of_zeros_and_nine ∷ of_sevens ∷ []) → ⊥)

-- a gate of 2 is closed, so there is no record
abbrev pub GateOfTwo : Type 0
GateOfTwo = OpensToBodies (1 ∷ header_by_hand ++ 2 ∷ of_sevens ++ 0 ∷ []) []

-- an empty file, one byte, ten zeros, a byte 0 that goes on, and all but byte 0
abbrev pub UnfinishedCreations : Type 0
UnfinishedCreations = IsUnfinished [] × IsUnfinished (5 ∷ []) × IsUnfinished (replicate 10 0)
    × IsUnfinished (0 ∷ header_by_hand ++ 1 ∷ []) × IsUnfinished (3 ∷ header_by_hand ++ 0 ∷ [])

-- a byte 0 that says something although there are only two bytes, a zero too many, an open gate, and the empty
-- journal
abbrev pub FinishedCreations : Type 0
FinishedCreations = (IsUnfinished (2 ∷ 0 ∷ []) → ⊥) × (IsUnfinished (replicate 19 0) → ⊥)
    × (IsUnfinished (3 ∷ header_by_hand ++ 1 ∷ []) → ⊥) × (IsUnfinished (1 ∷ header_by_hand ++ 0 ∷ []) → ⊥)

-- eighteen letters A, and a version 2
abbrev pub ForeignFiles : Type 0
ForeignFiles = IsForeign (replicate 18 65)
    × IsForeign (1 ∷ 0x4c ∷ 0x49 ∷ 0x46 ∷ 0x45 ∷ 0x4a ∷ 0x52 ∷ 0x4e ∷ 0x4c ∷ 0 ∷ 2 ∷ 0 ∷ 0x40 ∷ 0 ∷ 0 ∷ 0 ∷ 0 ∷ 0 ∷ [])
    × (IsForeign two_records → ⊥)

-- the first record lacks the gate after it, which would be byte 82; of two records the second lacks a byte
abbrev pub RecordsCutShort : Type 0
RecordsCutShort = IsBadAt (1 ∷ header_by_hand ++ 1 ∷ of_sevens) 0
    × IsBadAt (1 ∷ header_by_hand ++ 1 ∷ of_sevens ++ 1 ∷ replicate 63 0) 1
    × (IsBadAt two_records 1 → ⊥)
