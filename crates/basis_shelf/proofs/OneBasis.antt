-- A name has one basis, or one first bad file.
use Rattle.basis_shelf.proofs.Names.{◌≡◌, ℕ, ◌+◌, inl, inr, List, [], ◌∷◌, ◌++◌, length, All, ℤ, Option, Result, Ok, Err, refl, sym, ap, ◌∙◌, subst, AllZip, All-head, All-tail, AnyTable, BasisRow, Dated, BadBasis, BasisWord, HasTable, IsEntry, IsBasis, IsBadTable, IsFirstBadRow, IsFirstBadFile, IsBasisAnswer}
use Rattle.basis_book.proofs.ListCuts.{compare_cuts}
use Rattle.basis_shelf.proofs.OneTable.{one_table, one_bad_table, table_or_bad}
use Rattle.basis_shelf.proofs.OneBook.{one_rows, one_bad_book, rows_or_bad}

-- ---- the basis

abbrev entry : ℤ → AnyTable → ℕ → Dated
entry day table bp = record { from_day = day; table = table; bp = bp }

one_entry : (files : List ℕ → Option (List ℕ)) (row : BasisRow) (a b : Dated) → IsEntry files row a → IsEntry files row b → a ≡ b
one_entry files row a b h k =
    ap (λ (x : ℤ). entry x a.table a.bp) (h.0 ∙ sym k.0)
    ∙ ap (λ (x : AnyTable). entry b.from_day x a.bp) (one_table files row.table a.table b.table h.1 k.1)
    ∙ ap (λ (x : ℕ). entry b.from_day b.table x) (h.2 ∙ sym k.2)

one_list : (files : List ℕ → Option (List ℕ)) (rows : List BasisRow) (a b : List Dated) → AllZip (IsEntry files) rows a → AllZip (IsEntry files) rows b → a ≡ b
one_list files [] [] [] h k = refl
one_list files [] [] (y ∷ ys) h k = absurd k
one_list files [] (x ∷ xs) b h k = absurd h
one_list files (r ∷ rs) [] b h k = absurd h
one_list files (r ∷ rs) (x ∷ xs) [] h k = absurd k
one_list files (r ∷ rs) (x ∷ xs) (y ∷ ys) h k = let heads = one_entry files r x y h.0 k.0 in let tails = one_list files rs xs ys h.1 k.1 in cc

pub one_basis : (files : List ℕ → Option (List ℕ)) (name : List ℕ) (a b : List Dated) → IsBasis files name a → IsBasis files name b → a ≡ b
one_basis files name a b h k =
    let same = one_rows files name h.rows k.rows h.file k.file in
    one_list files k.rows a b (subst (λ (rows : List BasisRow). AllZip (IsEntry files) rows a) same h.each) k.each

-- ---- the first bad file

abbrev told : List ℕ → ℕ → BasisWord → BadBasis
told name place word = record { name = name; place = place; word = word }

same_bad : (a b : BadBasis) → a.name ≡ b.name → a.place ≡ b.place → a.word ≡ b.word → a ≡ b
same_bad a b name place word =
    ap (λ (x : List ℕ). told x a.place a.word) name ∙ ap (λ (x : ℕ). told b.name x a.word) place
    ∙ ap (λ (x : BasisWord). told b.name b.place x) word

pub at_cut : (P : BasisRow → Type 0) (before : List BasisRow) (row : BasisRow) (after : List BasisRow) → All P (before ++ row ∷ after) → P row
at_cut P [] row after h = All-head P row after h
at_cut P (x ∷ before) row after h = at_cut P before row after (All-tail P x (before ++ row ∷ after) h)

-- the row of the one bad table isn't among the rows that have tables before the other
not_before : (files : List ℕ → Option (List ℕ)) (rows : List BasisRow) (a b : BadBasis) (h : IsFirstBadRow files rows a) (k : IsFirstBadRow files rows b)
    (between : List BasisRow) → k.before ≡ h.before ++ h.row ∷ between → ⊥
not_before files rows a b h k between same =
    table_or_bad files h.row.table (length h.before + 1) a.place a.word
    (at_cut (λ (other : BasisRow). HasTable files other.table) h.before h.row between
    (subst (λ (xs : List BasisRow). All (λ (other : BasisRow). HasTable files other.table) xs) same k.tables)) h.wrong

one_at : (files : List ℕ → Option (List ℕ)) (rows : List BasisRow) (a b : BadBasis) (h : IsFirstBadRow files rows a) (k : IsFirstBadRow files rows b)
    → h.before ≡ k.before → h.row ≡ k.row → a ≡ b
one_at files rows a b h k before row =
    let there = subst (λ (xs : List BasisRow). IsBadTable files h.row.table (length xs + 1) a.word a.place) before h.wrong in
    let here = subst (λ (r : BasisRow). IsBadTable files r.table (length k.before + 1) a.word a.place) row there in
    let same = one_bad_table files k.row.table (length k.before + 1) a.place b.place a.word b.word here k.wrong in
    same_bad a b (h.name ∙ ap (λ (r : BasisRow). r.table) row ∙ sym k.name) same.1 same.0

one_row : (files : List ℕ → Option (List ℕ)) (rows : List BasisRow) (a b : BadBasis) → IsFirstBadRow files rows a → IsFirstBadRow files rows b → a ≡ b
one_row files rows a b h k =
    elim (compare_cuts h.before h.row h.after k.before k.row k.after (sym h.split ∙ k.split)) [
      | inl same ↦ one_at files rows a b h k same.0 same.1
      | inr other ↦ absurd (elim other [
        | inl t ↦ not_before files rows a b h k t.0 t.1
        | inr t ↦ not_before files rows b a k h t.0 t.1
      ])
    ]

pub one_first_bad : (files : List ℕ → Option (List ℕ)) (name : List ℕ) (a b : BadBasis) → IsFirstBadFile files name a → IsFirstBadFile files name b → a ≡ b
one_first_bad files name a b (inl h) (inl k) =
    let same = one_bad_book files name a.place b.place a.word b.word h.1 k.1 in
    same_bad a b (h.0 ∙ sym k.0) same.1 same.0
one_first_bad files name a b (inl h) (inr k) = absurd (rows_or_bad files name a.place a.word k.0 k.1 h.1)
one_first_bad files name a b (inr h) (inl k) = absurd (rows_or_bad files name b.place b.word h.0 h.1 k.1)
one_first_bad files name a b (inr h) (inr k) =
    one_row files k.0 a b (subst (λ (rows : List BasisRow). IsFirstBadRow files rows a) (one_rows files name h.0 k.0 h.1 k.1) h.2) k.2

-- ---- never both

has_at : (files : List ℕ → Option (List ℕ)) (before : List BasisRow) (row : BasisRow) (after : List BasisRow) (entries : List Dated)
    → AllZip (IsEntry files) (before ++ row ∷ after) entries → HasTable files row.table
has_at files [] row after [] h = absurd h
has_at files [] row after (e ∷ es) h = (e.table, h.0.1)
has_at files (x ∷ before) row after [] h = absurd h
has_at files (x ∷ before) row after (e ∷ es) h = has_at files before row after es h.1

basis_or_row : (files : List ℕ → Option (List ℕ)) (rows : List BasisRow) (entries : List Dated) (bad : BadBasis) → AllZip (IsEntry files) rows entries → IsFirstBadRow files rows bad → ⊥
basis_or_row files rows entries bad h k =
    table_or_bad files k.row.table (length k.before + 1) bad.place bad.word
    (has_at files k.before k.row k.after entries (subst (λ (xs : List BasisRow). AllZip (IsEntry files) xs entries) k.split h)) k.wrong

pub basis_or_bad : (files : List ℕ → Option (List ℕ)) (name : List ℕ) (entries : List Dated) (bad : BadBasis) → IsBasis files name entries → IsFirstBadFile files name bad → ⊥
basis_or_bad files name entries bad h (inl k) = rows_or_bad files name bad.place bad.word h.rows h.file k.1
basis_or_bad files name entries bad h (inr k) =
    let same = one_rows files name h.rows k.0 h.file k.1 in
    basis_or_row files k.0 entries bad (subst (λ (rows : List BasisRow). AllZip (IsEntry files) rows entries) same h.each) k.2

pub one_answer : (files : List ℕ → Option (List ℕ)) (name : List ℕ) (a b : Result (List Dated) BadBasis) → IsBasisAnswer files name a → IsBasisAnswer files name b → a ≡ b
one_answer files name (Ok a) (Ok b) h k = ap (λ (x : List Dated). Ok x) (one_basis files name a b h k)
one_answer files name (Ok a) (Err b) h k = absurd (basis_or_bad files name a b h k)
one_answer files name (Err a) (Ok b) h k = absurd (basis_or_bad files name b a k h)
one_answer files name (Err a) (Err b) h k = ap (λ (x : BadBasis). Err x) (one_first_bad files name a b h k)
