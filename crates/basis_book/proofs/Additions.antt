-- One more row.
use Rattle.basis_book.proofs.Names.{◌≡◌, ℕ, suc, ◌+◌, ◌-◌, ◌≤◌, ◌<ℤ◌, ◌≤ℤ◌, ℤ, Bool, true, false, List, [], ◌∷◌, ◌++◌, length, Option, Some, None, is_some, Result, Ok, Err, is_ok, OnOk, All, MatchBool, refl, sym, ap, ◌∙◌, subst, arith, ints, BasisRow, TooManyRows, BadBasisRow, NotRising, NoMemory, All-nil, All-cons, AreBounded, IsRow, DaysRise, IsAfter, Falls, AreRows, StopsAt, IsRowsFault}
use Rattle.std.specs.List.{AllZip, slice_get}
use Rattle.std.specs.Int.Signed.{lt_z, lt_z_yes, lt_z_no}
use Rattle.std.proofs.lemmas.List.{length_push, append_assoc}
use Rattle.basis_book.specs.declared.fault.BasisFault.{BasisFault}

pub DaysRise-push : (rows : List BasisRow) (row : BasisRow) → DaysRise rows → IsAfter rows row.from_day → DaysRise (rows ++ row ∷ [])
DaysRise-push [] row h a = tt
DaysRise-push (r ∷ []) row h a = (a, tt)
DaysRise-push (r ∷ next ∷ rows) row h a = (h.0, DaysRise-push (next ∷ rows) row h.1 a)

AllZip_push : {A B : Type 0} (R : A → B → Type 0) (xs : List A) (ys : List B) (x : A) (y : B) → AllZip R xs ys → R x y → AllZip R (xs ++ x ∷ []) (ys ++ y ∷ [])
AllZip_push R [] [] x y h k = (k, tt)
AllZip_push R [] (b ∷ ys) x y h k = absurd h
AllZip_push R (a ∷ xs) [] x y h k = absurd h
AllZip_push R (a ∷ xs) (b ∷ ys) x y h k = (h.0, AllZip_push R xs ys x y h.1 k)

pub AreRows-push : (rows : List (List (List ℕ))) (found : List BasisRow) (fields : List (List ℕ)) (row : BasisRow) → AreRows rows found → IsRow fields row → IsAfter found row.from_day
    → AreRows (rows ++ fields ∷ []) (found ++ row ∷ [])
AreRows-push rows found fields row h k a = record { each = AllZip_push IsRow rows found fields row h.each k; rise = DaysRise-push found row h.rise a }

pub rises_after : (before : List BasisRow) (row : BasisRow) (after : List BasisRow) → DaysRise (before ++ row ∷ after) → IsAfter before row.from_day
rises_after [] row after h = tt
rises_after (b ∷ []) row after h = h.0
rises_after (b ∷ next ∷ before) row after h = rises_after (next ∷ before) row after h.1

after_the_last : (before : List BasisRow) (last : BasisRow) (day : ℤ) → IsAfter (before ++ last ∷ []) day → last.from_day <ℤ day
after_the_last [] last day h = h
after_the_last (b ∷ []) last day h = h
after_the_last (b ∷ next ∷ before) last day h = after_the_last (next ∷ before) last day h

not_both : (rows : List BasisRow) (day : ℤ) → IsAfter rows day → Falls rows day → ⊥
not_both rows day a f =
    let later : f.last.from_day <ℤ day = after_the_last f.before f.last day (subst (λ xs. IsAfter xs day) f.split a) in
    let earlier = f.falls in
    omega (arith, ints)

-- if the day of a row falls, the days don't rise
pub no_rise : (rows : List BasisRow) (row : BasisRow) → Falls rows row.from_day → DaysRise (rows ++ row ∷ []) → ⊥
no_rise rows row f rise = not_both rows row.from_day (rises_after rows row [] rise) f

pub falls_here : (rows : List (List (List ℕ))) (found : List BasisRow) (fields : List (List ℕ)) (row : BasisRow) (n : ℕ) → AreRows rows found → n ≡ length rows + 1 → n ≤ 1000
    → IsRow fields row → Falls found row.from_day → IsRowsFault (rows ++ fields ∷ []) (NotRising n)
falls_here rows found fields row n h e most k f = (
  omega (arith, length_push rows fields),
  record {
    before = found;
    fields = fields;
    good = rows;
    rest = [];
    split = refl;
    number = e;
    right = h;
    wrong = (row, k, no_rise found row f);
  },
)

-- a fault that was found stays the first, whatever row follows
StopsAt-more : (rows : List (List (List ℕ))) (n : ℕ) (IsWrong : List BasisRow → List (List ℕ) → Type 0) (next : List (List ℕ)) → StopsAt rows n IsWrong → StopsAt (rows ++ next ∷ []) n IsWrong
StopsAt-more rows n IsWrong next h = record {
  before = h.before;
  fields = h.fields;
  good = h.good;
  rest = h.rest ++ next ∷ [];
  split = ap (λ xs. xs ++ next ∷ []) h.split ∙ append_assoc h.good (h.fields ∷ h.rest) (next ∷ []);
  number = h.number;
  right = h.right;
  wrong = h.wrong;
}

pub IsFault-more : (rows : List (List (List ℕ))) (next : List (List ℕ)) (fault : BasisFault) → length (rows ++ next ∷ []) ≤ 1000 → IsRowsFault rows fault → IsRowsFault (rows ++ next ∷ []) fault
IsFault-more rows next TooManyRows few h = absurd (omega (arith, length_push rows next))
IsFault-more rows next (BadBasisRow n) few h = (few, StopsAt-more rows n (λ before fields. (row : BasisRow) → IsRow fields row → ⊥) next h.1)
IsFault-more rows next (NotRising n) few h =
    (few, StopsAt-more rows n (λ before fields. (row : BasisRow) × IsRow fields row × (DaysRise (before ++ row ∷ []) → ⊥)) next h.1)
IsFault-more rows next (NoMemory lack) few h = tt

-- the last of a list ends it
pub ends_with : {X : Type 0} (xs : List X) (x : X) → Some x ≡ slice_get xs (length xs - 1) → (before : List X) × (xs ≡ before ++ x ∷ [])
ends_with [] x e = cc
ends_with (a ∷ []) x e = ([], cc)
ends_with (a ∷ b ∷ xs) x e =
    let same : suc (suc (length xs)) - 1 ≡ suc (suc (length xs) - 1) = omega arith in
    let rest = ends_with (b ∷ xs) x (rw same at e) in
    (a ∷ rest.0, ap (λ t. a ∷ t) rest.1)

pub IsAfter-last : (before : List BasisRow) (last : BasisRow) (day : ℤ) → last.from_day <ℤ day → IsAfter (before ++ last ∷ []) day
IsAfter-last [] last day h = h
IsAfter-last (r ∷ []) last day h = h
IsAfter-last (r ∷ next ∷ rows) last day h = IsAfter-last (next ∷ rows) last day h

pub after_last : (rows : List BasisRow) (last : BasisRow) (day : ℤ) (b : Bool) → Some last ≡ slice_get rows (length rows - 1)
    → (b ≡ true → last.from_day <ℤ day) → (b ≡ false → day ≤ℤ last.from_day) → MatchBool b (IsAfter rows day) (Falls rows day)
after_last rows last day b e =
    let ends = ends_with rows last e in
    elim b as (λ v. (v ≡ true → last.from_day <ℤ day) → (v ≡ false → day ≤ℤ last.from_day) → MatchBool v (IsAfter rows day) (Falls rows day)) [
      | true ↦ λ yes no. subst (λ xs. IsAfter xs day) (sym ends.1) (IsAfter-last ends.0 last day (yes refl))
      | false ↦ λ yes no. record { before = ends.0; last = last; split = ends.1; falls = no refl }
    ]

pub lt_true : (a b : ℤ) → lt_z a b ≡ true → a <ℤ b
lt_true a b e = lt_z_yes (rw e tt)

pub lt_false : (a b : ℤ) → lt_z a b ≡ false → b ≤ℤ a
lt_false a b e = lt_z_no (rw e tt)

pub none_of : {X : Type 0} (o : Option X) → is_some o ≡ false → o ≡ None
none_of None h = refl
none_of (Some x) h = cc

pub OnOk_holds : {A E : Type 0} (r : Result A E) (P : Type 0) → is_ok r ≡ true → OnOk r P → P
OnOk_holds (Ok x) P e h = h
OnOk_holds (Err x) P e h = cc

row_points : (fields : List (List ℕ)) (row : BasisRow) → IsRow fields row → row.bp ≤ 2000
row_points [] row h = absurd h
row_points (day ∷ []) row h = absurd h
row_points (day ∷ name ∷ []) row h = absurd h
row_points (day ∷ name ∷ points ∷ []) row h = h.4.most
row_points (day ∷ name ∷ points ∷ more ∷ rest) row h = absurd h

same_length : (rows : List (List (List ℕ))) (found : List BasisRow) → AllZip IsRow rows found → length found ≡ length rows
same_length [] [] h = refl
same_length [] (y ∷ ys) h = absurd h
same_length (x ∷ xs) [] h = absurd h
same_length (x ∷ xs) (y ∷ ys) h = ap suc (same_length xs ys h.1)

few_points : (rows : List (List (List ℕ))) (found : List BasisRow) → AllZip IsRow rows found → All (λ (row : BasisRow). row.bp ≤ 2000) found
few_points [] [] h = All-nil (λ (row : BasisRow). row.bp ≤ 2000)
few_points [] (y ∷ ys) h = absurd h
few_points (x ∷ xs) [] h = absurd h
few_points (x ∷ xs) (y ∷ ys) h = All-cons (λ (row : BasisRow). row.bp ≤ 2000) y ys (row_points x y h.0) (few_points xs ys h.1)

pub AreBounded-rows : (rows : List (List (List ℕ))) (found : List BasisRow) → length rows ≤ 1000 → AreRows rows found → AreBounded found
AreBounded-rows rows found few h = record { few = omega (arith, same_length rows found h.each); points = few_points rows found h.each }
