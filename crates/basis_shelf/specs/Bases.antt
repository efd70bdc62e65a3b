-- The basis that a basis file and the tables it names make.
use Rattle.std.specs.Prelude.{◌≡◌, ◌⊎◌, ℕ, ◌≤◌, List, length, map, Contains, Option, Ok}
use Rattle.std.specs.List.{AllZip}
use Rattle.csv.specs.Reading.{AreRecords, default_config, strip_bom}
use Rattle.csv.specs.declared.parser.State.TheVariants as st
use Rattle.basis_book.specs.Rows.{AreRows}
use Rattle.basis_shelf.specs.Names.{AnyTable, IsAnyAnswer, BasisRow, Dated}
use Rattle.basis_shelf.specs.Files.{IsFile}

-- the file of this name spells this table, by age alone or by age at issue and duration
abbrev pub IsTableNamed : (List ℕ → Option (List ℕ)) → List ℕ → AnyTable → Type 0
IsTableNamed files name table = (bytes : List ℕ) × IsFile files name bytes × IsAnyAnswer bytes (Ok table)

-- the file of this name spells a table
abbrev pub HasTable : (List ℕ → Option (List ℕ)) → List ℕ → Type 0
HasTable files name = (table : AnyTable) × IsTableNamed files name table

-- the file of this name is a right basis file, and these are its rows
abbrev pub AreRowsNamed : (List ℕ → Option (List ℕ)) → List ℕ → List BasisRow → Type 0
AreRowsNamed files name found =
    (bytes : List ℕ) × IsFile files name bytes
    × ((rows : List (List (List ℕ))) × AreRecords default_config st.StartRecord (strip_bom bytes) rows
    × (length rows ≤ 1000) × AreRows rows found)

-- a file that belongs to the basis of this name: the basis file, or the table of one of its rows
abbrev pub IsOfBasis : (List ℕ → Option (List ℕ)) → List ℕ → List ℕ → Type 0
IsOfBasis files name other =
    (other ≡ name)
    ⊎ ((rows : List BasisRow) × AreRowsNamed files name rows × Contains (map (λ (row : BasisRow). row.table) rows) other)

-- the basis file of this name is right, and each of its rows has its entry: of the row's day, with the table of the name in
-- the row, and of the row's basis points
pub record IsBasis (files : List ℕ → Option (List ℕ)) (name : List ℕ) (entries : List Dated) : Type 0 where
  pub rows : List BasisRow
  pub file : AreRowsNamed files name rows
  pub each :
      let IsEntry : BasisRow → Dated → Type 0 = λ row entry.
      (entry.from_day ≡ row.from_day) × IsTableNamed files row.table entry.table × (entry.bp ≡ row.bp) in
      AllZip IsEntry rows entries
