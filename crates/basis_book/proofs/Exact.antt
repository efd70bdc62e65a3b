-- A basis file has one answer at most.
use Rattle.std.specs.Prelude.{pos}
use Rattle.basis_book.proofs.Names.{◌≡◌, ℕ, ◌+◌, ◌<◌, ◌≤◌, ◌⊎◌, inl, inr, ℤ, List, [], ◌∷◌, ◌++◌, length, Some, None, Result, Ok, Err, IfOk, IfErr, refl, sym, ap, ◌∙◌, subst, arith, AreRecords, Reached, default_config, strip_bom, BasisRow, TooManyRows, BadBasisRow, NotRising, NoMemory, IsPoints, IsRow, DaysRise, IsAfter, AreRows, StopsAt, IsRowsFault}
use Rattle.std.specs.List.{AllZip}
use Rattle.csv.specs.Machine.{Read, next_record}
use Rattle.csv.specs.declared.parser.Config.{Config}
use Rattle.csv.specs.declared.parser.State.{State}
use Rattle.csv.specs.declared.parser.State.TheVariants as st
use Rattle.life_dates.specs.Calendar.{Date, IsDay, IsDate, day_number, days_in_month}
use Rattle.life_dates.specs.DayText.{IsDayText}
use Rattle.life_dates.proofs.TextLemmas.{read_exact}
use Rattle.basis_book.specs.declared.fault.BasisFault.{BasisFault}
use Rattle.basis_book.proofs.Additions.{DaysRise-push, rises_after}
use Rattle.basis_book.proofs.ListCuts.{compare_cuts}
use Rattle.basis_book.specs.File.{HasRows, IsBasisFile, IsFileFault, IsBookAnswer, GivesBook}

-- the records of a text are one list
one_reached : (cfg : Config) (s : State) (xs : List ℕ) (a b : List (List (List ℕ))) → AreRecords cfg s xs a → AreRecords cfg s xs b → a ≡ b
unfolding Reached
one_reached cfg s xs [] [] h k = refl
one_reached cfg s xs [] (r ∷ rs) h k = absurd (let none : next_record cfg s [] [] xs ≡ None = rw (h.2.0, h.2.1) h.3 in let some = k.2.1 in cc)
one_reached cfg s xs (r ∷ rs) [] h k = absurd (let none : next_record cfg s [] [] xs ≡ None = rw (k.2.0, k.2.1) k.3 in let some = h.2.1 in cc)
one_reached cfg s xs (r ∷ rs) (q ∷ qs) h k =
    let same : h.2.0 ≡ k.2.0 = let a = h.2.1 in let b = k.2.1 in cc in
    let heads : r ≡ q = h.2.2 ∙ ap (λ (p : Read). p.0) same ∙ sym k.2.2 in
    let there = subst (λ (p : Read). Reached cfg p.1 p.2 qs k.0 k.1) (sym same) k.2.3 in
    let tails : rs ≡ qs = one_reached cfg h.2.0.1 h.2.0.2 rs qs (h.0, h.1, h.2.3, h.3) (k.0, k.1, there, k.3) in
    cc

one_file : (bytes : List ℕ) (a b : List (List (List ℕ))) → HasRows bytes a → HasRows bytes b → a ≡ b
one_file bytes a b h k = one_reached default_config st.StartRecord (strip_bom bytes) a b h k

-- three fields spell one row
some_day : (a b : ℤ) → Some a ≡ Some b → a ≡ b
some_day a b e = cc

month_length : (y m : ℕ) → days_in_month (pos y) m ≤ 31
month_length y m = grind arith

small_day : (date : Date) → IsDate date → date.day < 100
small_day date d = omega (arith, d.day_high, month_length date.year date.month)

one_day : (text : List ℕ) (a b : ℤ) → IsDayText text a → IsDay a → IsDayText text b → IsDay b → a ≡ b
one_day text a b h da k db =
    let d = h.is_date in
    let read : Some (day_number h.date) ≡ Some b = read_exact (Some (day_number h.date)) h.date text d.year_high (omega (arith, d.month_high)) (small_day h.date d)
    ((d, rw h.is_number da), refl) h.is_text b db k in
    sym h.is_number ∙ some_day (day_number h.date) b read

one_points : (text : List ℕ) (a b : ℕ) → IsPoints text a → IsPoints text b → a ≡ b
one_points text a b h k = sym h.value ∙ k.value

abbrev basis_row : ℤ → List ℕ → ℕ → BasisRow
basis_row day table bp = record { from_day = day; table = table; bp = bp }

one_row : (fields : List (List ℕ)) (a b : BasisRow) → IsRow fields a → IsRow fields b → a ≡ b
one_row [] a b h k = absurd h
one_row (day ∷ []) a b h k = absurd h
one_row (day ∷ name ∷ []) a b h k = absurd h
one_row (day ∷ name ∷ points ∷ []) a b h k =
    ap (λ (x : ℤ). basis_row x a.table a.bp) (one_day day a.from_day b.from_day h.0 h.1 k.0 k.1)
    ∙ ap (λ (x : List ℕ). basis_row b.from_day x a.bp) (h.3 ∙ sym k.3)
    ∙ ap (λ (x : ℕ). basis_row b.from_day b.table x) (one_points points a.bp b.bp h.4 k.4)
one_row (day ∷ name ∷ points ∷ more ∷ rest) a b h k = absurd h

one_list : (rows : List (List (List ℕ))) (a b : List BasisRow) → AllZip IsRow rows a → AllZip IsRow rows b → a ≡ b
one_list [] [] [] h k = refl
one_list [] [] (y ∷ ys) h k = absurd k
one_list [] (x ∷ xs) b h k = absurd h
one_list (r ∷ rs) [] b h k = absurd h
one_list (r ∷ rs) (x ∷ xs) [] h k = absurd k
one_list (r ∷ rs) (x ∷ xs) (y ∷ ys) h k = let heads = one_row r x y h.0 k.0 in let tails = one_list rs xs ys h.1 k.1 in cc

-- right rows, cut at a row
pub record Cut (good : List (List (List ℕ))) (fields : List (List ℕ)) (found : List BasisRow) : Type 0 where
  pub before : List BasisRow
  pub row : BasisRow
  pub after : List BasisRow
  pub split : found ≡ before ++ row ∷ after
  pub right : AllZip IsRow good before
  pub is_row : IsRow fields row

cut_at : (good : List (List (List ℕ))) (fields : List (List ℕ)) (rest : List (List (List ℕ))) (found : List BasisRow) → AllZip IsRow (good ++ fields ∷ rest) found → Cut good fields found
cut_at [] fields rest [] h = absurd h
cut_at [] fields rest (x ∷ xs) h = record { before = []; row = x; after = xs; split = refl; right = tt; is_row = h.0 }
cut_at (g ∷ good) fields rest [] h = absurd h
cut_at (g ∷ good) fields rest (x ∷ xs) h =
    let c = cut_at good fields rest xs h.1 in
    record { before = x ∷ c.before; row = c.row; after = c.after; split = ap (λ t. x ∷ t) c.split; right = (h.0, c.right); is_row = c.is_row }

-- what is wrong with a row after right ones
abbrev IsBad : List BasisRow → List (List ℕ) → Type 0
IsBad before fields = (row : BasisRow) → IsRow fields row → ⊥

abbrev IsFall : List BasisRow → List (List ℕ) → Type 0
IsFall before fields = (row : BasisRow) × IsRow fields row × (DaysRise (before ++ row ∷ []) → ⊥)

abbrev IsWrong : List BasisRow → List (List ℕ) → Type 0
IsWrong before fields = IsBad before fields ⊎ IsFall before fields

-- no row of right rows is wrong
right_not_wrong : (good : List (List (List ℕ))) (fields : List (List ℕ)) (rest : List (List (List ℕ))) (before found : List BasisRow)
    → AreRows (good ++ fields ∷ rest) found → AreRows good before → IsWrong before fields → ⊥
right_not_wrong good fields rest before found h k wrong =
    let c = cut_at good fields rest found h.each in
    let same : c.before ≡ before = one_list good c.before before c.right k.each in
    let after : IsAfter c.before c.row.from_day = rises_after c.before c.row c.after (subst DaysRise c.split h.rise) in
    elim wrong [
      | inl bad ↦ bad c.row c.is_row
      | inr fall ↦
          let row : c.row ≡ fall.0 = one_row fields c.row fall.0 c.is_row fall.1 in
          fall.2 (DaysRise-push before fall.0 k.rise (subst (λ (r : BasisRow). IsAfter before r.from_day) row (subst (λ xs. IsAfter xs c.row.from_day) same after)))
    ]

-- two wrong rows after right ones are one row
one_stop : (rows : List (List (List ℕ))) (n m : ℕ) (W V : List BasisRow → List (List ℕ) → Type 0) (h : StopsAt rows n W) (k : StopsAt rows m V)
    → IsWrong h.before h.fields → IsWrong k.before k.fields → (n ≡ m) × ((h.fields ≡ k.fields) × (h.before ≡ k.before))
one_stop rows n m W V h k w v =
    elim (compare_cuts h.good h.fields h.rest k.good k.fields k.rest (sym h.split ∙ k.split)) [
      | inl same ↦
          let good = same.0 in
          (h.number ∙ ap (λ xs. length xs + 1) good ∙ sym k.number, (same.1, one_list k.good h.before k.before (subst (λ xs. AllZip IsRow xs h.before) good h.right.each) k.right.each))
      | inr other ↦ absurd (elim other [
        | inl t ↦ right_not_wrong h.good h.fields t.0 h.before k.before (subst (λ xs. AreRows xs k.before) t.1 k.right) h.right w
        | inr t ↦ right_not_wrong k.good k.fields t.0 k.before h.before (subst (λ xs. AreRows xs h.before) t.1 h.right) k.right v
      ])
    ]

no_wrong : (rows : List (List (List ℕ))) (n : ℕ) (W : List BasisRow → List (List ℕ) → Type 0) (found : List BasisRow) (s : StopsAt rows n W) → AreRows rows found → IsWrong s.before s.fields → ⊥
no_wrong rows n W found s h w = right_not_wrong s.good s.fields s.rest s.before found (subst (λ xs. AreRows xs found) s.split h) s.right w

bad_or_fall : (rows : List (List (List ℕ))) (n m : ℕ) → StopsAt rows n IsBad → StopsAt rows m IsFall → ⊥
bad_or_fall rows n m h k =
    let same = one_stop rows n m IsBad IsFall h k (inl h.wrong) (inr k.wrong) in
    let fall = k.wrong in
    h.wrong fall.0 (subst (λ f. IsRow f fall.0) (sym same.1.0) fall.1)

-- the fault of rows, but for memory
abbrev IsGiven : BasisFault → Type 0
IsGiven (NoMemory lack) = ⊥
IsGiven _ = Unit {0}

one_fault : (rows : List (List (List ℕ))) (f g : BasisFault) → IsGiven f → IsGiven g → IsRowsFault rows f → IsRowsFault rows g → f ≡ g
one_fault rows (NoMemory lack) g x y h k = absurd x
one_fault rows TooManyRows (NoMemory lack) x y h k = absurd y
one_fault rows TooManyRows TooManyRows x y h k = refl
one_fault rows TooManyRows (BadBasisRow m) x y h k = absurd (omega (arith, h, k.0))
one_fault rows TooManyRows (NotRising m) x y h k = absurd (omega (arith, h, k.0))
one_fault rows (BadBasisRow n) (NoMemory lack) x y h k = absurd y
one_fault rows (BadBasisRow n) TooManyRows x y h k = absurd (omega (arith, h.0, k))
one_fault rows (BadBasisRow n) (BadBasisRow m) x y h k =
    ap (λ (i : ℕ). BadBasisRow i) (one_stop rows n m IsBad IsBad h.1 k.1 (inl h.1.wrong) (inl k.1.wrong)).0
one_fault rows (BadBasisRow n) (NotRising m) x y h k = absurd (bad_or_fall rows n m h.1 k.1)
one_fault rows (NotRising n) (NoMemory lack) x y h k = absurd y
one_fault rows (NotRising n) TooManyRows x y h k = absurd (omega (arith, h.0, k))
one_fault rows (NotRising n) (BadBasisRow m) x y h k = absurd (bad_or_fall rows m n k.1 h.1)
one_fault rows (NotRising n) (NotRising m) x y h k =
    ap (λ (i : ℕ). NotRising i) (one_stop rows n m IsFall IsFall h.1 k.1 (inr h.1.wrong) (inr k.1.wrong)).0

right_or_fault : (rows : List (List (List ℕ))) (found : List BasisRow) (f : BasisFault) → IsGiven f → length rows ≤ 1000 → AreRows rows found → IsRowsFault rows f → ⊥
right_or_fault rows found (NoMemory lack) x few h k = x
right_or_fault rows found TooManyRows x few h k = omega (arith, k)
right_or_fault rows found (BadBasisRow n) x few h k = no_wrong rows n IsBad found k.1 h (inl k.1.wrong)
right_or_fault rows found (NotRising n) x few h k = no_wrong rows n IsFall found k.1 h (inr k.1.wrong)

-- a fault that is given, as it is stated of a file
of_file : (bytes : List ℕ) (f : BasisFault) → IsGiven f → IsFileFault bytes f → (rows : List (List (List ℕ))) × HasRows bytes rows × IsRowsFault rows f
of_file bytes (NoMemory lack) x h = absurd x
of_file bytes TooManyRows x h = h
of_file bytes (BadBasisRow n) x h = h
of_file bytes (NotRising n) x h = h

same_rows : (bytes : List ℕ) (a b : List BasisRow) → IsBasisFile bytes a → IsBasisFile bytes b → a ≡ b
same_rows bytes a b h k =
    let rows = one_file bytes h.0 k.0 h.1 k.1 in
    one_list k.0 a b (subst (λ xs. AllZip IsRow xs a) rows h.3.each) k.3.each

same_fault : (bytes : List ℕ) (f g : BasisFault) → IsGiven f → IsGiven g → IsFileFault bytes f → IsFileFault bytes g → f ≡ g
same_fault bytes f g x y h k =
    let a = of_file bytes f x h in
    let b = of_file bytes g y k in
    one_fault b.0 f g x y (subst (λ xs. IsRowsFault xs f) (one_file bytes a.0 b.0 a.1 b.1) a.2) b.2

not_right_and_wrong : (bytes : List ℕ) (found : List BasisRow) (f : BasisFault) → IsGiven f → IsBasisFile bytes found → IsFileFault bytes f → ⊥
not_right_and_wrong bytes found f x h k =
    let b = of_file bytes f x k in
    let rows = one_file bytes h.0 b.0 h.1 b.1 in
    right_or_fault b.0 found f x (subst (λ xs. length xs ≤ 1000) rows h.2) (subst (λ xs. AreRows xs found) rows h.3) b.2

-- a file has one answer
gives_found : (bytes : List ℕ) (found : List BasisRow) (r : Result (List BasisRow) BasisFault) → IsBasisFile bytes found → IfOk r (IsBasisFile bytes) → IfErr r (IsFileFault bytes) → GivesBook r (Ok found)
gives_found bytes found (Ok x) h ok err = ap (λ (y : List BasisRow). Ok y) (same_rows bytes found x h ok)
gives_found bytes found (Err (NoMemory lack)) h ok err = tt
gives_found bytes found (Err TooManyRows) h ok err = absurd (not_right_and_wrong bytes found TooManyRows tt h err)
gives_found bytes found (Err (BadBasisRow n)) h ok err = absurd (not_right_and_wrong bytes found (BadBasisRow n) tt h err)
gives_found bytes found (Err (NotRising n)) h ok err = absurd (not_right_and_wrong bytes found (NotRising n) tt h err)

gives_fault : (bytes : List ℕ) (f : BasisFault) (r : Result (List BasisRow) BasisFault) → IsGiven f → IsFileFault bytes f → IfOk r (IsBasisFile bytes) → IfErr r (IsFileFault bytes) → GivesBook r (Err f)
gives_fault bytes f (Ok x) g h ok err = absurd (not_right_and_wrong bytes x f g ok h)
gives_fault bytes f (Err (NoMemory lack)) g h ok err = tt
gives_fault bytes f (Err TooManyRows) g h ok err = ap (λ (y : BasisFault). Err y) (same_fault bytes f TooManyRows g tt h err)
gives_fault bytes f (Err (BadBasisRow n)) g h ok err = ap (λ (y : BasisFault). Err y) (same_fault bytes f (BadBasisRow n) g tt h err)
gives_fault bytes f (Err (NotRising n)) g h ok err = ap (λ (y : BasisFault). Err y) (same_fault bytes f (NotRising n) g tt h err)

pub gives_due : (bytes : List ℕ) (r : Result (List BasisRow) BasisFault) → IfOk r (IsBasisFile bytes) → IfErr r (IsFileFault bytes)
    → (answer : Result (List BasisRow) BasisFault) → IsBookAnswer bytes answer → GivesBook r answer
gives_due bytes r ok err (Ok found) h = gives_found bytes found r h ok err
gives_due bytes r ok err (Err (NoMemory lack)) h = absurd h
gives_due bytes r ok err (Err TooManyRows) h = gives_fault bytes TooManyRows r tt h ok err
gives_due bytes r ok err (Err (BadBasisRow n)) h = gives_fault bytes (BadBasisRow n) r tt h ok err
gives_due bytes r ok err (Err (NotRising n)) h = gives_fault bytes (NotRising n) r tt h ok err
