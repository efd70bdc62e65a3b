-- Worked shelves: a basis with its table, the first bad file, and the line that reports it
use Rattle.std.specs.Prelude.{◌≡◌, ◌++◌, ℕ, if◌then◌else◌, List, [], ◌∷◌, codes, pos, Option, Some, None}
use Rattle.std.specs.Str.{bytes_eq}
use Rattle.select_rates.specs.declared.any.AnyTable.TheVariants.{Aggregate}
use Rattle.basis_shelf.specs.Bases.{IsBasis}
use Rattle.basis_shelf.specs.FirstBad.{IsFirstBadFile}
use Rattle.basis_shelf.specs.Lines.{bad_basis_text}
use Rattle.basis_shelf.specs.declared.fault.BasisWord.TheVariants.{Absent, BadRow, AgeGap, NotDocument}

-- a shelf with a basis file, and with this as the table file q.xml, if there is one
abbrev pub shelf_with : List ℕ → Option (List ℕ) → List ℕ → Option (List ℕ)
shelf_with basis table name =
    if bytes_eq name (codes "b.csv") then Some basis else (if bytes_eq name (codes "q.xml") then table else None)

abbrev pub one_row : List ℕ
one_row = codes "2000-01-01,q.xml,400\n"

abbrev pub certain_death : List ℕ
certain_death = codes "<XTbML><Table><Values><Axis><Y t='60'>1</Y></Axis></Values></Table></XTbML>"

-- one row, and its table of one age
abbrev pub BasisOfOneRow : Type 0
BasisOfOneRow = IsBasis (shelf_with one_row (Some certain_death)) (codes "b.csv")
    ((record { from_day = pos 10957; table = Aggregate (record { first_age = 60; rates = 1000000000 ∷ [] }); bp = 400 }) ∷ [])

-- an absent basis file, a bad row, an absent table, and a table file that is no document
abbrev pub FirstBadFiles : Type 0
FirstBadFiles = IsFirstBadFile (shelf_with one_row None) (codes "a.csv") (record { name = codes "a.csv"; place = 0; word = Absent })
    × IsFirstBadFile (shelf_with (codes "2000-01-01,q.xml\n") None) (codes "b.csv") (record { name = codes "b.csv"; place = 1; word = BadRow })
    × IsFirstBadFile (shelf_with one_row None) (codes "b.csv") (record { name = codes "q.xml"; place = 1; word = Absent })
    × IsFirstBadFile (shelf_with one_row (Some (codes "<XTbML></Table>"))) (codes "b.csv")
    (record { name = codes "q.xml"; place = 7; word = NotDocument })

-- the same shelf, in other cases: its basis file isn't absent, and neither is its table
abbrev pub NoBadFiles : Type 0
NoBadFiles = (IsFirstBadFile (shelf_with one_row None) (codes "b.csv") (record { name = codes "b.csv"; place = 0; word = Absent }) → ⊥)
    × (IsFirstBadFile (shelf_with one_row None) (codes "a.csv") (record { name = codes "a.csv"; place = 1; word = Absent }) → ⊥)

abbrev pub BadBasisLines : Type 0
BadBasisLines = (bad_basis_text (record { name = codes "b.csv"; place = 0; word = Absent }) ≡ codes "badbasis,b.csv,0,absent" ++ 10 ∷ [])
    × (bad_basis_text (record { name = codes "q.xml"; place = 4194304; word = AgeGap }) ≡ codes "badbasis,q.xml,4194304,agegap" ++ 10 ∷ [])
