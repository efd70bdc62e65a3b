-- The rows of a basis file, each a list of fields: what they are read as, or the first fault.
use Rattle.std.specs.Prelude.{◌≡◌, ℕ, ◌+◌, ◌<◌, ◌≤◌, ⊤, List, [], ◌∷◌, ◌++◌, length, ℤ, ◌<ℤ◌, ◌≤ℤ◌}
use Rattle.std.specs.List.{AllZip}
use Rattle.basis_book.specs.declared.row.BasisRow.{BasisRow}
use Rattle.basis_book.specs.declared.fault.BasisFault.{BasisFault}
use Rattle.basis_book.specs.declared.fault.BasisFault.TheVariants.{TooManyRows, BadBasisRow, NotRising, NoMemory}
use Rattle.basis_book.specs.Row.{IsRow}

-- each day is after the one before it
abbrev pub DaysRise : List BasisRow → Type 0
DaysRise [] = ⊤
DaysRise (row ∷ []) = ⊤
DaysRise (row ∷ next ∷ rows) = (row.from_day <ℤ next.from_day) × DaysRise (next ∷ rows)

-- the day is after that of the last of the rows, if there is one
abbrev pub IsAfter : List BasisRow → ℤ → Type 0
IsAfter [] day = ⊤
IsAfter (row ∷ []) day = row.from_day <ℤ day
IsAfter (row ∷ next ∷ rows) day = IsAfter (next ∷ rows) day

-- the fields of each row spell a basis row, and their days rise
pub record AreRows (rows : List (List (List ℕ))) (found : List BasisRow) : Type 0 where
  pub each : AllZip IsRow rows found
  pub rise : DaysRise found

-- the rows before the n-th are valid and spell these basis rows, and the n-th row has these fields, which are wrong
-- in this way
pub record StopsAt (rows : List (List (List ℕ))) (n : ℕ) (IsWrong : List BasisRow → List (List ℕ) → Type 0) : Type 0 where
  pub before : List BasisRow
  pub fields : List (List ℕ)
  pub good : List (List (List ℕ))
  pub rest : List (List (List ℕ))
  pub split : rows ≡ good ++ fields ∷ rest
  pub number : n ≡ length good + 1
  pub right : AreRows good before
  pub wrong : IsWrong before fields

-- the day isn't after that of the last of the rows
pub record Falls (rows : List BasisRow) (day : ℤ) : Type 0 where
  pub before : List BasisRow
  pub last : BasisRow
  pub split : rows ≡ before ++ last ∷ []
  pub falls : day ≤ℤ last.from_day

-- The fault of the rows. That there are more than 1,000 comes before all other faults; then comes the first row that
-- is no basis row, or whose day isn't after the day before it. Memory may be refused for any rows.
abbrev pub IsRowsFault : List (List (List ℕ)) → BasisFault → Type 0
IsRowsFault rows TooManyRows = 1000 < length rows
IsRowsFault rows (BadBasisRow n) =
    (length rows ≤ 1000) × StopsAt rows n (λ before fields. (row : BasisRow) → IsRow fields row → ⊥)
IsRowsFault rows (NotRising n) =
    (length rows ≤ 1000)
    × StopsAt rows n (λ before fields. (row : BasisRow) × IsRow fields row × (DaysRise (before ++ row ∷ []) → ⊥))
IsRowsFault rows (NoMemory lack) = ⊤
