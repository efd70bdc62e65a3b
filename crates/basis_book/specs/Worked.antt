-- Worked basis files: one of three rows, and one of each fault. Day 10957 is 2000-01-01, 14610 is 2010-01-01, 17896 is 2018-12-31
use Rattle.std.specs.Prelude.{List, [], ◌∷◌, codes, pos, replicate}
use Rattle.basis_book.specs.declared.row.BasisRow.{BasisRow}
use Rattle.basis_book.specs.declared.fault.BasisFault.TheVariants.{TooManyRows, BadBasisRow, NotRising}
use Rattle.basis_book.specs.File.{IsBasisFile, IsFileFault}
use Rattle.basis_book.specs.Rows.{IsRowsFault}

abbrev pub three_basis_rows : List BasisRow
three_basis_rows =
    (record { from_day = pos 10957; table = codes "q.xml"; bp = 0 })
    ∷ (record { from_day = pos 14610; table = codes "G-1_.x"; bp = 400 })
    ∷ (record { from_day = pos 17896; table = codes "q.xml"; bp = 2000 }) ∷ []

-- an empty line, quotes, a carriage return, and no line feed at the end
abbrev pub ThreeBasisRows : Type 0
ThreeBasisRows = IsBasisFile (codes "2000-01-01,q.xml,0\n\n\"2010-01-01\",G-1_.x,400\r\n2018-12-31,q.xml,2000") three_basis_rows

abbrev pub NoBasisRows : Type 0
NoBasisRows = IsBasisFile (codes "\n\n") []

-- a field too few, a field too many, a basis point too many, and a name that begins with a point
abbrev pub BadBasisRows : Type 0
BadBasisRows = IsFileFault (codes "2000-01-01,q.xml,0\n2010-01-01,q.xml\n") (BadBasisRow 2)
    × IsFileFault (codes "2000-01-01,q.xml,0,\n") (BadBasisRow 1)
    × IsFileFault (codes "2000-01-01,q.xml,2001\n") (BadBasisRow 1)
    × IsFileFault (codes "2000-01-01,.xml,0\n") (BadBasisRow 1)

-- the same day twice
abbrev pub FallingDays : Type 0
FallingDays = IsFileFault (codes "2000-01-01,q.xml,0\n2010-01-01,q.xml,1\n2010-01-01,q.xml,2\n") (NotRising 3)

-- a thousand and one rows, each of which is bad, and a thousand such rows
abbrev pub ManyRows : Type 0
ManyRows = IsRowsFault (replicate 1001 []) TooManyRows × (IsRowsFault (replicate 1000 []) TooManyRows → ⊥)
    × (IsRowsFault (replicate 1001 []) (BadBasisRow 1) → ⊥) × IsRowsFault (replicate 1000 []) (BadBasisRow 1)
