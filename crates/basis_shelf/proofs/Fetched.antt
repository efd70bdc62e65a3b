-- What was fetched so far, of files that the shelf's answers agree with.
use Rattle.basis_shelf.proofs.Names.{◌≡◌, ◌⊎◌, inl, inr, ℕ, ◌+◌, ◌<◌, ◌≤◌, Bool, true, false, cond, List, [], ◌∷◌, ◌++◌, length, map, take, drop, get_or, All, Option, Some, None, IsSome, IfSome, unwrap_or, Result, Ok, Err, IfOk, IfErr, refl, sym, ap, ◌∙◌, subst, arith, AllZip, cases_lt, take-append-drop, drop_more, length-take-le, All-head, All-tail, All-weaker, AnyTable, Aggregate, BasisRow, Dated, dated, IsFirstMissing, BadBasis, IsTableNamed, HasTable, AreRowsNamed, IsEntry, IsBasis, IsBadTable, IsFirstBadRow, IsFirstBadFile, IsBasisAnswer, GivesBasis, IfBad, IsBadTableFile, AreTables}
use Rattle.std.specs.Bool.{Decides}
use Rattle.basis_shelf.specs.declared.fault.NoBasis.{NoBasis}
use Rattle.basis_shelf.specs.declared.fault.NoBasis.TheVariants.{Bad, ReadFault, NoMemory}
use Rattle.basis_shelf.proofs.OneBasis.{one_answer, at_cut}

-- ---- a call that succeeded

rose_or_not : {T E : Type 0} → (before mid now : ℕ) (x : T) (e : E) (r : Result T E) → r ≡ Ok x → (mid < now → r ≡ Err e) → mid ≤ before → (mid < now) ⊎ (now ≤ mid) → now ≤ before
rose_or_not before mid now x e r is told so_far (inl rose) = absurd (let both = told rose in cc)
rose_or_not before mid now x e r is told so_far (inr not) = omega arith

-- it left the count of faults
pub not_risen : {T E : Type 0} → (before mid now : ℕ) (x : T) (e : E) → (mid < now → Ok x ≡ Err e) → mid ≤ before → now ≤ before
not_risen before mid now x e told so_far = rose_or_not before mid now x e (Ok x) refl told so_far (cases_lt mid now)

-- ---- one table more

pub known_still : (v : AnyTable) (o : Option AnyTable) (b : Bool) → IsSome o → IsSome (cond b (Some v) o)
known_still v o true h = refl
known_still v o false h = h

held_at : (files : List ℕ → Option (List ℕ)) (v : AnyTable) (name other : List ℕ) (o : Option AnyTable) (b : Bool) → Decides b (name ≡ other)
    → IsTableNamed files name v → IfSome o (IsTableNamed files other) → IfSome (cond b (Some v) o) (IsTableNamed files other)
held_at files v name other o true d h k = subst (λ (n : List ℕ). IsTableNamed files n v) (d.0 refl) h
held_at files v name other o false d h k = k

pub tables_still : (files : List ℕ → Option (List ℕ)) (v : AnyTable) (name : List ℕ) (before now : List ℕ → Option AnyTable) (same : List ℕ → List ℕ → Bool)
    → ((x y : List ℕ) → Decides (same x y) (x ≡ y)) → ((other : List ℕ) → now other ≡ cond (same name other) (Some v) (before other))
    → IsTableNamed files name v → AreTables files before → AreTables files now
tables_still files v name before now same decides is h right = λ other.
    subst (λ (o : Option AnyTable). IfSome o (IsTableNamed files other)) (sym (is other))
    (held_at files v name other (before other) (same name other) (decides name other) h (right other))

-- ---- the first row that has no table

cut_at : (rows : List BasisRow) (i : ℕ) (row : BasisRow) → i < length rows → row ≡ get_or rows i row → rows ≡ take i rows ++ row ∷ drop (i + 1) rows
cut_at rows i row h e =
    sym (take-append-drop i rows) ∙ ap (λ (rest : List BasisRow). take i rows ++ rest) (drop_more rows i row h ∙ ap (λ (r : BasisRow). r ∷ drop (i + 1) rows) (sym e))

has_table : (files : List ℕ → Option (List ℕ)) (name : List ℕ) (o : Option AnyTable) → IfSome o (IsTableNamed files name) → IsSome o → HasTable files name
has_table files name (Some v) h some = (v, h)
has_table files name None h some = absurd (cc)

first_row : (files : List ℕ → Option (List ℕ)) (rows : List BasisRow) (i : ℕ) (row : BasisRow) (t : List ℕ → Option AnyTable) (bad : BadBasis) → i < length rows → row ≡ get_or rows i row
    → All (λ (r : BasisRow). IsSome (t r.table)) (take i rows) → AreTables files t → IsBadTableFile files row.table (i + 1) bad → IsFirstBadRow files rows bad
first_row files rows i row t bad within is known right wrong = record {
  before = take i rows;
  row = row;
  after = drop (i + 1) rows;
  split = cut_at rows i row within is;
  tables = All-weaker (λ (r : BasisRow). IsSome (t r.table)) (λ (r : BasisRow). HasTable files r.table) (λ r some. has_table files r.table (t r.table) (right r.table) some) (take i rows) known;
  name = wrong.0;
  wrong = subst (λ (k : ℕ). IsBadTable files row.table (k + 1) bad.word bad.place) (sym (length-take-le i rows (omega arith))) wrong.1;
}

pub row_is_bad : (files : List ℕ → Option (List ℕ)) (rows : List BasisRow) (i : ℕ) (row : BasisRow) (t : List ℕ → Option AnyTable) (why : NoBasis) → i < length rows → row ≡ get_or rows i row
    → All (λ (r : BasisRow). IsSome (t r.table)) (take i rows) → AreTables files t → IfBad (IsBadTableFile files row.table (i + 1)) why
    → IfBad (IsFirstBadRow files rows) why
row_is_bad files rows i row t (Bad bad) within is known right wrong = first_row files rows i row t bad within is known right wrong
row_is_bad files rows i row t ReadFault within is known right wrong = tt
row_is_bad files rows i row t (NoMemory lack) within is known right wrong = tt

-- ---- the whole

pub none_missing : (t : List ℕ → Option AnyTable) (rows : List BasisRow) (n : ℕ) → All (λ (r : BasisRow). IsSome (t r.table)) rows → IsFirstMissing t rows n → ⊥
none_missing t rows n h k =
    k.missing (at_cut (λ (r : BasisRow). IsSome (t r.table)) k.before k.row k.after (subst (λ (xs : List BasisRow). All (λ (r : BasisRow). IsSome (t r.table)) xs) k.split h))

table_of : (files : List ℕ → Option (List ℕ)) (name : List ℕ) (o : Option AnyTable) (d : AnyTable) → IfSome o (IsTableNamed files name) → IsSome o → IsTableNamed files name (unwrap_or o d)
table_of files name (Some v) d h some = h
table_of files name None d h some = absurd (cc)

entry_of : (files : List ℕ → Option (List ℕ)) (t : List ℕ → Option AnyTable) (row : BasisRow) → AreTables files t → IsSome (t row.table) → IsEntry files row (dated t row)
entry_of files t row right some =
    (refl, table_of files row.table (t row.table) (Aggregate (record { first_age = 0; rates = [] })) (right row.table) some, refl)

entries_of : (files : List ℕ → Option (List ℕ)) (t : List ℕ → Option AnyTable) (rows : List BasisRow) → AreTables files t → All (λ (r : BasisRow). IsSome (t r.table)) rows
    → AllZip (IsEntry files) rows (map (dated t) rows)
entries_of files t [] right known = tt
entries_of files t (row ∷ rows) right known =
    let some = λ (r : BasisRow). IsSome (t r.table) in
    (entry_of files t row right (All-head some row rows known), entries_of files t rows right (All-tail some row rows known))

pub basis_is : (files : List ℕ → Option (List ℕ)) (name : List ℕ) (t : List ℕ → Option AnyTable) (rows : List BasisRow) (basis : List Dated) → basis ≡ map (dated t) rows
    → AreRowsNamed files name rows → AreTables files t → All (λ (r : BasisRow). IsSome (t r.table)) rows → IsBasis files name basis
basis_is files name t rows basis is file right known = record {
  rows = rows;
  file = file;
  each = subst (λ (entries : List Dated). AllZip (IsEntry files) rows entries) (sym is) (entries_of files t rows right known);
}

-- an answer that is right is the one that is due
pub gives_due : (files : List ℕ → Option (List ℕ)) (name : List ℕ) (given : Result (List Dated) NoBasis) (answer : Result (List Dated) BadBasis)
    → IfOk given (IsBasis files name) → IfErr given (IfBad (IsFirstBadFile files name)) → IsBasisAnswer files name answer → GivesBasis given answer
gives_due files name (Ok entries) answer right bad due = one_answer files name answer (Ok entries) due right
gives_due files name (Err (Bad first)) answer right bad due = one_answer files name answer (Err first) due bad
gives_due files name (Err ReadFault) answer right bad due = tt
gives_due files name (Err (NoMemory lack)) answer right bad due = tt
