-- A basis file has one list of rows, or is bad in one way.
use Rattle.basis_shelf.proofs.Names.{◌≡◌, ℕ, ◌⊎◌, inl, inr, List, Option, Result, Ok, Err, refl, sym, ap, ◌∙◌, subst, BasisRow, IsBasisFile, IsFileFault, IsBookAnswer, GivesBook, BasisWord, IsAbsent, IsTooLong, AreRowsNamed, AreNoRows, IsBadBook}
use Rattle.basis_book.specs.declared.fault.BasisFault.{BasisFault}
use Rattle.basis_book.specs.declared.fault.BasisFault.TheVariants as fault
use Rattle.basis_book.proofs.Exact.{gives_due}
use Rattle.basis_shelf.specs.declared.fault.BasisWord.TheVariants.{Absent, TooLong, BadRow, NotRising, TooManyRows, NotDocument, NoTable, Scaled, BadAge, AgeGap, BadRate, BadDuration, NoUltimate, UltimateGap}
use Rattle.basis_shelf.proofs.OneTable.{one_file, not_absent, not_too_long, not_both}

-- ---- the bytes of a basis file

abbrev IsGiven : BasisFault → Type 0
IsGiven (fault.NoMemory lack) = ⊥
IsGiven (fault.BadBasisRow row) = Unit {0}
IsGiven (fault.NotRising row) = Unit {0}
IsGiven fault.TooManyRows = Unit {0}

due_why : (bytes : List ℕ) (why : BasisFault) → IsGiven why → IsFileFault bytes why → IsBookAnswer bytes (Err why)
due_why bytes (fault.NoMemory lack) g h = absurd g
due_why bytes (fault.BadBasisRow row) g h = h
due_why bytes (fault.NotRising row) g h = h
due_why bytes fault.TooManyRows g h = h

gives_why : (why : BasisFault) (answer : Result (List BasisRow) BasisFault) → IsGiven why → GivesBook (Err why) answer → answer ≡ Err why
gives_why (fault.NoMemory lack) answer g h = absurd g
gives_why (fault.BadBasisRow row) answer g h = h
gives_why (fault.NotRising row) answer g h = h
gives_why fault.TooManyRows answer g h = h

abbrev refused : BasisFault → Result (List BasisRow) BasisFault
refused why = Err why

abbrev read : List BasisRow → Result (List BasisRow) BasisFault
read rows = Ok rows

err_same : (why other : BasisFault) → refused other ≡ refused why → why ≡ other
err_same why other e = cc

one_why : (bytes : List ℕ) (why other : BasisFault) → IsGiven why → IsGiven other → IsFileFault bytes why → IsFileFault bytes other → why ≡ other
one_why bytes why other g k h l =
    err_same why other (gives_why why (Err other) g (gives_due bytes (Err why) tt h (Err other) (due_why bytes other k l)))

ok_or_err : (rows : List BasisRow) (why : BasisFault) → refused why ≡ read rows → ⊥
ok_or_err rows why e = absurd (cc)

rows_or_why : (bytes : List ℕ) (rows : List BasisRow) (why : BasisFault) → IsGiven why → IsBasisFile bytes rows → IsFileFault bytes why → ⊥
rows_or_why bytes rows why g h k = ok_or_err rows why (gives_due bytes (Ok rows) h tt (Err why) (due_why bytes why g k))

ok_same : (a b : List BasisRow) → read b ≡ read a → a ≡ b
ok_same a b e = cc

pub one_rows : (files : List ℕ → Option (List ℕ)) (name : List ℕ) (a b : List BasisRow) → AreRowsNamed files name a → AreRowsNamed files name b → a ≡ b
one_rows files name a b h k =
    let same = one_file files name h.0 k.0 h.1 k.1 in
    ok_same a b (gives_due k.0 (Ok a) (subst (λ (xs : List ℕ). IsBasisFile xs a) same h.2) tt (Ok b) k.2)

-- ---- a bad basis file

abbrev word_for : BasisFault → BasisWord
word_for (fault.NoMemory lack) = Absent
word_for (fault.BadBasisRow row) = BadRow
word_for (fault.NotRising row) = NotRising
word_for fault.TooManyRows = TooManyRows

abbrev place_for : BasisFault → ℕ
place_for (fault.NoMemory lack) = 0
place_for (fault.BadBasisRow row) = row
place_for (fault.NotRising row) = row
place_for fault.TooManyRows = 1001

abbrev Kinds : (List ℕ → Option (List ℕ)) → List ℕ → BasisWord → ℕ → Type 0
Kinds files name word place =
    ((word ≡ Absent) × (place ≡ 0) × IsAbsent files name)
    ⊎ (((word ≡ TooLong) × (place ≡ 0) × IsTooLong files name)
    ⊎ ((why : BasisFault) × (word ≡ word_for why) × (place ≡ place_for why) × IsGiven why × AreNoRows files name why))

kinds : (files : List ℕ → Option (List ℕ)) (name : List ℕ) (place : ℕ) (word : BasisWord) → IsBadBook files name word place → Kinds files name word place
kinds files name place Absent h = inl (refl, h.1, h.0)
kinds files name place TooLong h = inr (inl (refl, h.1, h.0))
kinds files name place BadRow h = inr (inr (fault.BadBasisRow place, refl, refl, tt, h))
kinds files name place NotRising h = inr (inr (fault.NotRising place, refl, refl, tt, h))
kinds files name place TooManyRows h = inr (inr (fault.TooManyRows, refl, h.1, tt, h.0))
kinds files name place NotDocument h = absurd h
kinds files name place NoTable h = absurd h
kinds files name place Scaled h = absurd h
kinds files name place BadAge h = absurd h
kinds files name place AgeGap h = absurd h
kinds files name place BadRate h = absurd h
kinds files name place BadDuration h = absurd h
kinds files name place NoUltimate h = absurd h
kinds files name place UltimateGap h = absurd h

one_kind : (files : List ℕ → Option (List ℕ)) (name : List ℕ) (p q : ℕ) (w v : BasisWord) → Kinds files name w p → Kinds files name v q → (w ≡ v) × (p ≡ q)
one_kind files name p q w v (inl h) (inl k) = (h.0 ∙ sym k.0, h.1 ∙ sym k.1)
one_kind files name p q w v (inl h) (inr (inl k)) = absurd (not_both files name h.2 k.2)
one_kind files name p q w v (inl h) (inr (inr k)) = absurd (not_absent files name k.4.0 k.4.1 h.2)
one_kind files name p q w v (inr (inl h)) (inl k) = absurd (not_both files name k.2 h.2)
one_kind files name p q w v (inr (inl h)) (inr (inl k)) = (h.0 ∙ sym k.0, h.1 ∙ sym k.1)
one_kind files name p q w v (inr (inl h)) (inr (inr k)) = absurd (not_too_long files name k.4.0 k.4.1 h.2)
one_kind files name p q w v (inr (inr h)) (inl k) = absurd (not_absent files name h.4.0 h.4.1 k.2)
one_kind files name p q w v (inr (inr h)) (inr (inl k)) = absurd (not_too_long files name h.4.0 h.4.1 k.2)
one_kind files name p q w v (inr (inr h)) (inr (inr k)) =
    let same = one_file files name h.4.0 k.4.0 h.4.1 k.4.1 in
    let why = one_why k.4.0 h.0 k.0 h.3 k.3 (subst (λ (xs : List ℕ). IsFileFault xs h.0) same h.4.2) k.4.2 in
    (h.1 ∙ ap (λ (f : BasisFault). word_for f) why ∙ sym k.1, h.2 ∙ ap (λ (f : BasisFault). place_for f) why ∙ sym k.2)

pub one_bad_book : (files : List ℕ → Option (List ℕ)) (name : List ℕ) (p q : ℕ) (w v : BasisWord) → IsBadBook files name w p → IsBadBook files name v q → (w ≡ v) × (p ≡ q)
one_bad_book files name p q w v h k = one_kind files name p q w v (kinds files name p w h) (kinds files name q v k)

rows_or_kind : (files : List ℕ → Option (List ℕ)) (name : List ℕ) (place : ℕ) (word : BasisWord) (rows : List BasisRow) → AreRowsNamed files name rows → Kinds files name word place → ⊥
rows_or_kind files name place word rows h (inl k) = not_absent files name h.0 h.1 k.2
rows_or_kind files name place word rows h (inr (inl k)) = not_too_long files name h.0 h.1 k.2
rows_or_kind files name place word rows h (inr (inr k)) =
    let same = one_file files name h.0 k.4.0 h.1 k.4.1 in
    rows_or_why k.4.0 rows k.0 k.3 (subst (λ (xs : List ℕ). IsBasisFile xs rows) same h.2) k.4.2

pub rows_or_bad : (files : List ℕ → Option (List ℕ)) (name : List ℕ) (place : ℕ) (word : BasisWord) (rows : List BasisRow) → AreRowsNamed files name rows → IsBadBook files name word place → ⊥
rows_or_bad files name place word rows h k = rows_or_kind files name place word rows h (kinds files name place word k)
