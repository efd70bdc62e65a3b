-- Each name on a shelf has a basis, or a first bad file.
use Rattle.basis_shelf.proofs.Names.{◌≡◌, ◌⊎◌, inl, inr, ℕ, ◌+◌, ◌<◌, ◌≤◌, List, [], ◌∷◌, ◌++◌, length, All, Option, Some, None, IsSomeAnd, Err, refl, sym, subst, append_assoc, AllZip, cases_lt, All-nil, All-push, AnyTable, TableKind, SpellsAny, IsAnyAnswer, BasisRow, Dated, IsBasisFile, BadBasis, BasisWord, IsAbsent, IsTooLong, IsFile, HasTable, AreRowsNamed, IsEntry, IsBasis, IsBadBook, IsBadTable, IsFirstBadRow, IsFirstBadFile, word_of}
use Rattle.xtbml_subset.specs.declared.fault.TableFault.TheVariants as table
use Rattle.basis_shelf.specs.declared.fault.BasisWord.TheVariants.{Absent, TooLong, BadRow, NotRising, TooManyRows}
use Rattle.basis_shelf.proofs.EitherAny.{any_or_fault}
use Rattle.basis_shelf.proofs.ToldTable.{bad_table}
use Rattle.basis_shelf.proofs.EitherBook.{HasFault, rows_or_fault}

-- ---- a file

abbrev Shelved : (List ℕ → Option (List ℕ)) → List ℕ → Type 0
Shelved files name = IsAbsent files name ⊎ (IsTooLong files name ⊎ ((bytes : List ℕ) × IsFile files name bytes))

shelved_by : (files : List ℕ → Option (List ℕ)) (name bytes : List ℕ) → files name ≡ Some bytes → (4194304 < length bytes) ⊎ (length bytes ≤ 4194304) → Shelved files name
shelved_by files name bytes e (inl long) = inr (inl (subst (λ (o : Option (List ℕ)). IsSomeAnd o (λ bytes. 4194304 < length bytes)) (sym e) long))
shelved_by files name bytes e (inr fits) = inr (inr (bytes, (e, fits)))

shelved : (files : List ℕ → Option (List ℕ)) (name : List ℕ) → Shelved files name
shelved files name = by (files name) refl
  where
    by : (file : Option (List ℕ)) → files name ≡ file → Shelved files name
    by None e = inl e
    by (Some bytes) e = shelved_by files name bytes e (cases_lt 4194304 (length bytes))

-- ---- the basis file

abbrev Book : (List ℕ → Option (List ℕ)) → List ℕ → Type 0
Book files name = ((rows : List BasisRow) × AreRowsNamed files name rows) ⊎ ((word : BasisWord) × (place : ℕ) × IsBadBook files name word place)

book_of : (files : List ℕ → Option (List ℕ)) (name bytes : List ℕ) → IsFile files name bytes → ((rows : List BasisRow) × IsBasisFile bytes rows) ⊎ HasFault bytes → Book files name
book_of files name bytes h (inl right) = inl (right.0, (bytes, h, right.1))
book_of files name bytes h (inr (inl bad)) = inr (BadRow, bad.0, (bytes, h, bad.1))
book_of files name bytes h (inr (inr (inl fall))) = inr (NotRising, fall.0, (bytes, h, fall.1))
book_of files name bytes h (inr (inr (inr many))) = inr (TooManyRows, 1001, ((bytes, h, many), refl))

book : (files : List ℕ → Option (List ℕ)) (name : List ℕ) → Shelved files name → Book files name
book files name (inl absent) = inr (Absent, 0, (absent, refl))
book files name (inr (inl long)) = inr (TooLong, 0, (long, refl))
book files name (inr (inr file)) = book_of files name file.0 file.1 (rows_or_fault file.0)

-- ---- the table of a row

abbrev Table : (List ℕ → Option (List ℕ)) → List ℕ → ℕ → Type 0
Table files name number = HasTable files name ⊎ ((word : BasisWord) × (place : ℕ) × IsBadTable files name number word place)

table_of : (files : List ℕ → Option (List ℕ)) (name : List ℕ) (number : ℕ) (bytes : List ℕ) → IsFile files name bytes
    → ((one : AnyTable) × SpellsAny bytes one) ⊎ ((at : ℕ) × (what : TableKind) × IsAnyAnswer bytes (Err (table.Bad at what))) → Table files name number
table_of files name number bytes h (inl t) = inl (t.0, (bytes, h, t.1))
table_of files name number bytes h (inr bad) = inr (word_of bad.1, bad.0, bad_table files name number bad.0 bad.1 (bytes, h, bad.2))

table_named : (files : List ℕ → Option (List ℕ)) (name : List ℕ) (number : ℕ) → Shelved files name → Table files name number
table_named files name number (inl absent) = inr (Absent, number, (absent, refl))
table_named files name number (inr (inl long)) = inr (TooLong, number, (long, refl))
table_named files name number (inr (inr file)) = table_of files name number file.0 file.1 (any_or_fault file.0)

-- ---- the tables of all rows

abbrev Has : (List ℕ → Option (List ℕ)) → BasisRow → Type 0
Has files row = HasTable files row.table

abbrev Tables : (List ℕ → Option (List ℕ)) → List BasisRow → List BasisRow → Type 0
Tables files before rest = ((entries : List Dated) × AllZip (IsEntry files) rest entries) ⊎ ((bad : BadBasis) × IsFirstBadRow files (before ++ rest) bad)

first_bad : (files : List ℕ → Option (List ℕ)) (before : List BasisRow) (row : BasisRow) (rest : List BasisRow) (word : BasisWord) (place : ℕ) → All (Has files) before
    → IsBadTable files row.table (length before + 1) word place → Tables files before (row ∷ rest)
first_bad files before row rest word place h wrong =
    inr (record { name = row.table; place = place; word = word }, record { before = before; row = row; after = rest; split = refl; tables = h; name = refl; wrong = wrong })

one_before : (files : List ℕ → Option (List ℕ)) (before : List BasisRow) (row : BasisRow) (rest : List BasisRow) → HasTable files row.table → Tables files (before ++ row ∷ []) rest → Tables files before (row ∷ rest)
one_before files before row rest t (inl e) =
    inl ((record { from_day = row.from_day; table = t.0; bp = row.bp }) ∷ e.0, ((refl, t.1, refl), e.1))
one_before files before row rest t (inr bad) = inr (bad.0, subst (λ (rows : List BasisRow). IsFirstBadRow files rows bad.0) (append_assoc before (row ∷ []) rest) bad.1)

tables : (files : List ℕ → Option (List ℕ)) (before rest : List BasisRow) → All (Has files) before → Tables files before rest
tables files before [] h = inl ([], tt)
tables files before (row ∷ rest) h = elim (table_named files row.table (length before + 1) (shelved files row.table)) [
  | inl t ↦ one_before files before row rest t (tables files (before ++ row ∷ []) rest (All-push (Has files) before row h t))
  | inr bad ↦ first_bad files before row rest bad.0 bad.1 h bad.2
]

-- ---- the shelf

abbrev Judged : (List ℕ → Option (List ℕ)) → List ℕ → Type 0
Judged files name = ((entries : List Dated) × IsBasis files name entries) ⊎ ((bad : BadBasis) × IsFirstBadFile files name bad)

judged_rows : (files : List ℕ → Option (List ℕ)) (name : List ℕ) (rows : List BasisRow) → AreRowsNamed files name rows → Tables files [] rows → Judged files name
judged_rows files name rows h (inl e) = inl (e.0, record { rows = rows; file = h; each = e.1 })
judged_rows files name rows h (inr bad) = inr (bad.0, inr (rows, h, bad.1))

judged : (files : List ℕ → Option (List ℕ)) (name : List ℕ) → Book files name → Judged files name
judged files name (inl right) = judged_rows files name right.0 right.1 (tables files [] right.0 (All-nil (Has files)))
judged files name (inr bad) = inr (record { name = name; place = bad.1; word = bad.0 }, inl (refl, bad.2))

pub basis_or_bad_file : (files : List ℕ → Option (List ℕ)) (name : List ℕ) → Judged files name
basis_or_bad_file files name = judged files name (book files name (shelved files name))
