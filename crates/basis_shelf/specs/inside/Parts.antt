-- What the parts of the fetching return.
use Rattle.std.specs.Prelude.{◌≡◌, ℕ, ⊤, ◌⊎◌, List, Option, IsSome, IfSome, Err}
use Rattle.memory_requests.specs.Evidence.{a_refusal}
use Rattle.basis_shelf.specs.Names.{AnyTable, BasisRow, Dated, TableKind, IsAnyAnswer, BasisFault, IsFileFault}
use Rattle.basis_book.specs.declared.fault.BasisFault.TheVariants as fault
use Rattle.xtbml_subset.specs.declared.fault.TableFault.{TableFault}
use Rattle.xtbml_subset.specs.declared.fault.TableFault.TheVariants as table
use Rattle.xtbml_subset.specs.declared.fault.TableKind.TheVariants as kind
use Rattle.basis_shelf.specs.declared.fault.BadBasis.{BadBasis}
use Rattle.basis_shelf.specs.declared.fault.BasisWord.{BasisWord}
use Rattle.basis_shelf.specs.declared.fault.BasisWord.TheVariants.{Absent, TooLong, BadRow, NotRising, TooManyRows, NotDocument, NoTable, Scaled, BadAge, AgeGap, BadRate, BadDuration, NoUltimate, UltimateGap}
use Rattle.basis_shelf.specs.declared.fault.NoBasis.{NoBasis}
use Rattle.basis_shelf.specs.declared.fault.NoBasis.TheVariants.{Bad, ReadFault, NoMemory}
use Rattle.basis_shelf.specs.Files.{IsAbsent, IsTooLong, IsFile}
use Rattle.basis_shelf.specs.Bases.{IsTableNamed}
use Rattle.basis_shelf.specs.FirstBad.{IsBadBook, IsBadTable}

-- a file is reported as bad, unless memory was refused
abbrev pub IsToldOfTable : List ℕ → ℕ → BasisWord → NoBasis → Type 0
IsToldOfTable name place word (Bad bad) = bad ≡ record { name = name; place = place; word = word }
IsToldOfTable name place word ReadFault = ⊥
IsToldOfTable name place word (NoMemory lack) = ⊤

-- a file is reported as absent or too long, at this place
abbrev pub IsUnread : (List ℕ → Option (List ℕ)) → List ℕ → ℕ → BadBasis → Type 0
IsUnread files name place bad =
    (bad.name ≡ name) × (bad.place ≡ place)
    × (((bad.word ≡ Absent) × IsAbsent files name) ⊎ ((bad.word ≡ TooLong) × IsTooLong files name))

-- the basis file of this name is reported as bad
abbrev pub IsBadBookFile : (List ℕ → Option (List ℕ)) → List ℕ → BadBasis → Type 0
IsBadBookFile files name bad = (bad.name ≡ name) × IsBadBook files name bad.word bad.place

-- a table file, which the row of this number names first, is reported as bad
abbrev pub IsBadTableFile : (List ℕ → Option (List ℕ)) → List ℕ → ℕ → BadBasis → Type 0
IsBadTableFile files name number bad = (bad.name ≡ name) × IsBadTable files name number bad.word bad.place

-- the fault of a basis file is reported
abbrev pub TellsRows : List ℕ → BasisFault → NoBasis → Type 0
TellsRows name fault.TooManyRows told = IsToldOfTable name 1001 TooManyRows told
TellsRows name (fault.BadBasisRow row) told = IsToldOfTable name row BadRow told
TellsRows name (fault.NotRising row) told = IsToldOfTable name row NotRising told
TellsRows name (fault.NoMemory lack) told = told ≡ NoMemory a_refusal

-- what may be wrong with a table of either kind: everything except that it is a select table
abbrev pub IsOfAny : TableKind → Type 0
IsOfAny kind.Select = ⊥
IsOfAny kind.NotDocument = ⊤
IsOfAny kind.NoTable = ⊤
IsOfAny kind.Scaled = ⊤
IsOfAny kind.BadAge = ⊤
IsOfAny kind.AgeGap = ⊤
IsOfAny kind.BadRate = ⊤
IsOfAny kind.BadDuration = ⊤
IsOfAny kind.NoUltimate = ⊤
IsOfAny kind.UltimateGap = ⊤

abbrev pub IsFaultOfAny : TableFault → Type 0
IsFaultOfAny (table.Bad at what) = IsOfAny what
IsFaultOfAny (table.NoMemory lack) = ⊤

-- the first has no word, since it never comes
abbrev pub word_of : TableKind → BasisWord
word_of kind.Select = NoTable
word_of kind.NotDocument = NotDocument
word_of kind.NoTable = NoTable
word_of kind.Scaled = Scaled
word_of kind.BadAge = BadAge
word_of kind.AgeGap = AgeGap
word_of kind.BadRate = BadRate
word_of kind.BadDuration = BadDuration
word_of kind.NoUltimate = NoUltimate
word_of kind.UltimateGap = UltimateGap

-- the fault of a table file is reported
abbrev pub TellsTable : List ℕ → TableFault → NoBasis → Type 0
TellsTable name (table.Bad at what) told = IsToldOfTable name at (word_of what) told
TellsTable name (table.NoMemory lack) told = told ≡ NoMemory a_refusal

-- each table is that of its name
abbrev pub AreTables : (List ℕ → Option (List ℕ)) → (List ℕ → Option AnyTable) → Type 0
AreTables files tables = (name : List ℕ) → IfSome (tables name) (IsTableNamed files name)

-- the names that had a table still have one
abbrev pub KeepsKnown : (List ℕ → Option AnyTable) → (List ℕ → Option AnyTable) → Type 0
KeepsKnown before now = (name : List ℕ) → IsSome (before name) → IsSome (now name)

-- the entry has the row's day, the table of the name in the row, and the row's basis points
abbrev pub IsEntry : (List ℕ → Option (List ℕ)) → BasisRow → Dated → Type 0
IsEntry files row entry =
    (entry.from_day ≡ row.from_day) × IsTableNamed files row.table entry.table × (entry.bp ≡ row.bp)

-- the file of this name is no right basis file, for this fault
abbrev pub AreNoRows : (List ℕ → Option (List ℕ)) → List ℕ → BasisFault → Type 0
AreNoRows files name why = (bytes : List ℕ) × IsFile files name bytes × IsFileFault bytes why

-- the file of this name spells no table: the byte place, and what is wrong there
abbrev pub IsNoTable : (List ℕ → Option (List ℕ)) → List ℕ → ℕ → TableKind → Type 0
IsNoTable files name at what = (bytes : List ℕ) × IsFile files name bytes × IsAnyAnswer bytes (Err (table.Bad at what))
