-- The first file of a basis that is absent, too long or refused: the basis file, or the table of the first row that
-- has none.
use Rattle.std.specs.Prelude.{◌≡◌, ℕ, ◌+◌, ◌⊎◌, List, ◌∷◌, ◌++◌, length, All, Option, None, Err, ◌<◌, IsSomeAnd}
use Rattle.basis_shelf.specs.Names.{AnyTable, BasisRow, TableKind, IsAnyAnswer, BasisFault}
use Rattle.csv.specs.Reading.{AreRecords, default_config, strip_bom}
use Rattle.csv.specs.declared.parser.State.TheVariants as st
use Rattle.basis_book.specs.Rows.{IsRowsFault}
use Rattle.basis_book.specs.declared.fault.BasisFault.TheVariants as fault
use Rattle.xtbml_subset.specs.declared.fault.TableKind.TheVariants as kind
use Rattle.xtbml_subset.specs.declared.fault.TableFault.TheVariants as table
use Rattle.basis_shelf.specs.declared.fault.BadBasis.{BadBasis}
use Rattle.basis_shelf.specs.declared.fault.BasisWord.{BasisWord}
use Rattle.basis_shelf.specs.declared.fault.BasisWord.TheVariants.{Absent, TooLong, BadRow, NotRising, TooManyRows, NotDocument, NoTable, Scaled, BadAge, AgeGap, BadRate, BadDuration, NoUltimate, UltimateGap}
use Rattle.basis_shelf.specs.Files.{IsFile}
use Rattle.basis_shelf.specs.Bases.{AreRowsNamed, IsTableNamed}

-- the word that says what is wrong with the basis file of this name, and the place
abbrev pub IsBadBook : (List ℕ → Option (List ℕ)) → List ℕ → BasisWord → ℕ → Type 0
IsBadBook files name word place = elim word [
  | Absent ↦ (files name ≡ None) × (place ≡ 0)
  | TooLong ↦ IsSomeAnd (files name) (λ bytes. 4194304 < length bytes) × (place ≡ 0)
  | BadRow ↦ rows_have (fault.BadBasisRow place)
  | NotRising ↦ rows_have (fault.NotRising place)
  | TooManyRows ↦ rows_have fault.TooManyRows × (place ≡ 1001)
  | _ ↦ ⊥
]
  where
    -- the file's rows have this fault
    rows_have : BasisFault → Type 0
    rows_have why =
        (bytes : List ℕ) × IsFile files name bytes
        × ((rows : List (List (List ℕ))) × AreRecords default_config st.StartRecord (strip_bom bytes) rows × IsRowsFault rows why)

-- the word that says what is wrong with the table file of this name, which the row of this number names first, and
-- the place
abbrev pub IsBadTable : (List ℕ → Option (List ℕ)) → List ℕ → ℕ → BasisWord → ℕ → Type 0
IsBadTable files name number word place = elim word [
  | Absent ↦ (files name ≡ None) × (place ≡ number)
  | TooLong ↦ IsSomeAnd (files name) (λ bytes. 4194304 < length bytes) × (place ≡ number)
  | BadRow ↦ ⊥
  | NotRising ↦ ⊥
  | TooManyRows ↦ ⊥
  | NotDocument ↦ spells_none kind.NotDocument
  | NoTable ↦ spells_none kind.NoTable
  | Scaled ↦ spells_none kind.Scaled
  | BadAge ↦ spells_none kind.BadAge
  | AgeGap ↦ spells_none kind.AgeGap
  | BadRate ↦ spells_none kind.BadRate
  | BadDuration ↦ spells_none kind.BadDuration
  | NoUltimate ↦ spells_none kind.NoUltimate
  | UltimateGap ↦ spells_none kind.UltimateGap
]
  where
    -- the file spells no table: what is wrong at the place, which is that of a byte
    spells_none : TableKind → Type 0
    spells_none what = (bytes : List ℕ) × IsFile files name bytes × IsAnyAnswer bytes (Err (table.Bad place what))

-- the first of the rows that has no table, and what is wrong with its table's file
pub record IsFirstBadRow (files : List ℕ → Option (List ℕ)) (rows : List BasisRow) (bad : BadBasis) : Type 0 where
  pub before : List BasisRow
  pub row : BasisRow
  pub after : List BasisRow
  pub split : rows ≡ before ++ row ∷ after
  pub tables : All (λ (other : BasisRow). (table : AnyTable) × IsTableNamed files other.table table) before
  pub name : bad.name ≡ row.table
  pub wrong : IsBadTable files row.table (length before + 1) bad.word bad.place

-- the basis file is bad; or it is right, and this is the table of the first row that has none
abbrev pub IsFirstBadFile : (List ℕ → Option (List ℕ)) → List ℕ → BadBasis → Type 0
IsFirstBadFile files name bad =
    ((bad.name ≡ name) × IsBadBook files name bad.word bad.place)
    ⊎ ((rows : List BasisRow) × AreRowsNamed files name rows × IsFirstBadRow files rows bad)
