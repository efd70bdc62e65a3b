-- Worked limits of a basis's files: 4 MiB are 4194304 bytes, and more than 1,000 rows are reported at row 1001
use Rattle.std.specs.Prelude.{◌≡◌, ℕ, List, Option, Some, length, codes}
use Rattle.basis_shelf.specs.declared.fault.BasisWord.TheVariants.{TooLong, TooManyRows}
use Rattle.basis_shelf.specs.FirstBad.{IsBadBook, IsBadTable}

-- a shelf that has these bytes under each name
abbrev pub shelf_of : List ℕ → List ℕ → Option (List ℕ)
shelf_of bytes name = Some bytes

-- the basis file is too long with one more byte than 4 MiB, which is reported at place 0
abbrev pub LongBases : Type 0
LongBases = ((bytes : List ℕ) → length bytes ≡ 4194305 → IsBadBook (shelf_of bytes) (codes "b.csv") TooLong 0)
    × ((bytes : List ℕ) → length bytes ≡ 4194304 → IsBadBook (shelf_of bytes) (codes "b.csv") TooLong 0 → ⊥)

-- and so is the table that row 7 is the first to name, which is reported at that row
abbrev pub LongTables : Type 0
LongTables = ((bytes : List ℕ) → length bytes ≡ 4194305 → IsBadTable (shelf_of bytes) (codes "q.xml") 7 TooLong 7)
    × ((bytes : List ℕ) → length bytes ≡ 4194304 → IsBadTable (shelf_of bytes) (codes "q.xml") 7 TooLong 7 → ⊥)
    × ((bytes : List ℕ) → IsBadTable (shelf_of bytes) (codes "q.xml") 7 TooLong 0 → ⊥)

-- at the row 1000 there are none too many
abbrev pub NotAtRow1000 : Type 0
NotAtRow1000 = (bytes : List ℕ) → IsBadBook (shelf_of bytes) (codes "b.csv") TooManyRows 1000 → ⊥
