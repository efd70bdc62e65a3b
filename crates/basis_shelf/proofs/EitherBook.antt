-- Each file is a right basis file, or has a first fault.
use Rattle.basis_shelf.proofs.Names.{◌≡◌, ◌≢◌, ◌⊎◌, inl, inr, ℕ, zero, suc, ◌+◌, ◌-◌, ◌<◌, ◌≤◌, Bool, true, false, cond, List, [], ◌∷◌, ◌++◌, length, All, Option, Some, None, refl, sym, ap, ◌∙◌, subst, arith, append_assoc, ℤ, pos, negsuc, ◌+ℤ◌, ◌-ℤ◌, ◌≤ℤ◌, ◌<ℤ◌, slice_index, cases_eq, cases_lt, cases_Bool, append-nil, All-nil, All-cons, All-head, All-tail, BasisRow, HasRows, IsBasisFile, IsFileFault}
use Rattle.std.specs.Char.{IsAsciiAlphanumeric, digit_value}
use Rattle.std.specs.Int.{IsInRange}
use Rattle.std.specs.Int.Signed.{lt_z}
use Rattle.std.specs.Str.Parse.{AllDigits, digits_value}
use Rattle.std.proofs.lemmas.Int.{ints}
use Rattle.csv.specs.Machine.{Read, next_record, step, is_end, ends_at_end, fields_after, field_after}
use Rattle.csv.specs.Reading.{Reached, AreRecords, default_config, strip_bom}
use Rattle.csv.specs.declared.parser.State.{State}
use Rattle.csv.specs.declared.parser.State.TheVariants as st
use Rattle.life_dates.specs.Calendar.{IsDay, IsTermDay}
use Rattle.life_dates.specs.DayText.{day_text, IsDayText}
use Rattle.life_dates.proofs.TextLemmas.{IsDayText-day_text, day_text-only}
use Rattle.basis_book.specs.declared.fault.BasisFault.TheVariants.{TooManyRows, BadBasisRow, NotRising}
use Rattle.basis_book.specs.Name.{IsName, IsNameByte}
use Rattle.basis_book.specs.Points.{IsPoints}
use Rattle.basis_book.specs.Row.{IsRow}
use Rattle.basis_book.specs.Rows.{IsAfter, DaysRise, Falls, AreRows, StopsAt}
use Rattle.basis_book.proofs.Additions.{AreRows-push, lt_true, lt_false, no_rise}
use Rattle.basis_shelf.proofs.EitherRate.{Decided, both, either, at_most, below}

-- there is one that is right, or none is
abbrev Found : {X : Type 0} → (X → Type 0) → Type 0
Found {X} Is = ((x : X) × Is x) ⊎ ((x : X) → Is x → ⊥)

-- ---- a day

same_text : (xs ys : List ℕ) → Decided (xs ≡ ys)
same_text [] [] = inl refl
same_text [] (y ∷ ys) = inr (λ e. cc)
same_text (x ∷ xs) [] = inr (λ e. cc)
same_text (x ∷ xs) (y ∷ ys) = elim (cases_eq x y) [
  | inl first ↦ elim (same_text xs ys) [
    | inl rest ↦ inl (cc)
    | inr differ ↦ inr (λ e. let rest : xs ≡ ys = cc in differ rest)
  ]
  | inr differ ↦ inr (λ e. let first : x ≡ y = cc in differ first)
]

-- the n-th day after 1900-01-01
abbrev day_after : ℕ → ℤ
day_after n = pos n -ℤ pos 25567

not_negative : (z : ℤ) → pos 0 ≤ℤ z → (n : ℕ) × (z ≡ pos n)
not_negative (pos n) h = (n, refl)
not_negative (negsuc n) h = absurd (omega (arith, ints))

day_is : (day : ℤ) → IsDay day → (n : ℕ) × (n < 109573) × (day ≡ day_after n)
day_is day h =
    let low : negsuc 25566 ≤ℤ day = h.0 in
    let high : day ≤ℤ pos 84005 = h.1 in
    let found = not_negative (day +ℤ pos 25567) (omega (arith, ints)) in
    let same : day +ℤ pos 25567 ≡ pos found.0 = found.1 in
    (found.0, omega (arith, ints), omega (arith, ints))

is_day : (n : ℕ) → n < 109573 → IsDay (day_after n)
is_day n small = (omega (arith, ints), omega (arith, ints))

is_term_day : (day : ℤ) → IsDay day → IsTermDay day
is_term_day day h =
    let low : negsuc 25566 ≤ℤ day = h.0 in
    let high : day ≤ℤ pos 84005 = h.1 in
    (low, omega (arith, ints))

-- by trying each
abbrev Days : List ℕ → ℕ → Type 0
Days text n = ((k : ℕ) × (k < n) × (text ≡ day_text (day_after k))) ⊎ ((k : ℕ) → k < n → text ≢ day_text (day_after k))

days : (text : List ℕ) (n : ℕ) → Days text n
days text zero = inr (λ k less. omega (arith, less))
days text (suc n) = on (days text n) (same_text text (day_text (day_after n)))
  where
    on : Days text n → Decided (text ≡ day_text (day_after n)) → Days text (suc n)
    on (inl found) e = inl (found.0, omega (arith, found.1), found.2)
    on (inr none) (inl e) = inl (n, omega arith, e)
    on (inr none) (inr other) = inr (λ k less. elim (cases_eq k n) [
      | inl same ↦ λ e. other (e ∙ ap (λ (i : ℕ). day_text (day_after i)) same)
      | inr differ ↦ none k (omega (arith, less, differ))
    ])

abbrev IsDayOf : List ℕ → ℤ → Type 0
IsDayOf text day = IsDayText text day × IsDay day

day_by : (text : List ℕ) → Days text 109573 → Found (IsDayOf text)
day_by text (inl d) =
    let day = day_after d.0 in
    let is : IsDay day = is_day d.0 d.1 in
    inl (day, (subst (λ (t : List ℕ). IsDayText t day) (sym d.2) (IsDayText-day_text day (is_term_day day is)), is))
day_by text (inr none) =
    inr (λ day h.
    let n = day_is day h.1 in
    none n.0 n.1 (day_text-only text day (is_term_day day h.1) h.0 ∙ ap day_text n.2))

day : (text : List ℕ) → Found (IsDayOf text)
day text = day_by text (days text 109573)

-- ---- a name

in_range : (low high b : ℕ) → Decided (IsInRange low high b)
in_range low high b = both (at_most low b) (at_most b high)

alphanumeric : (b : ℕ) → Decided (IsAsciiAlphanumeric b)
alphanumeric b = either (either (in_range 48 57 b) (in_range 65 90 b)) (in_range 97 122 b)

name_byte : (b : ℕ) → Decided (IsNameByte b)
name_byte b = either (alphanumeric b) (either (cases_eq b 46) (either (cases_eq b 95) (cases_eq b 45)))

name_bytes : (text : List ℕ) → Decided (All IsNameByte text)
name_bytes [] = inl (All-nil IsNameByte)
name_bytes (b ∷ text) = on (name_byte b) (name_bytes text)
  where
    on : Decided (IsNameByte b) → Decided (All IsNameByte text) → Decided (All IsNameByte (b ∷ text))
    on (inl h) (inl k) = inl (All-cons IsNameByte b text h k)
    on (inr bad) k = inr (λ all. bad (All-head IsNameByte b text all))
    on (inl h) (inr bad) = inr (λ all. bad (All-tail IsNameByte b text all))

name_by : (text : List ℕ) → Decided (1 ≤ length text) → Decided (length text ≤ 64) → Decided (IsAsciiAlphanumeric (slice_index text 0)) → Decided (All IsNameByte text) → Decided (IsName text)
name_by text (inl a) (inl b) (inl c) (inl d) = inl (record { some = a; short = b; first = c; each = d })
name_by text (inr bad) b c d = inr (λ h. bad h.some)
name_by text (inl a) (inr bad) c d = inr (λ h. bad h.short)
name_by text (inl a) (inl b) (inr bad) d = inr (λ h. bad h.first)
name_by text (inl a) (inl b) (inl c) (inr bad) = inr (λ h. bad h.each)

name : (text : List ℕ) → Decided (IsName text)
name text = name_by text (at_most 1 (length text)) (at_most (length text) 64) (alphanumeric (slice_index text 0)) (name_bytes text)

-- ---- basis points

all_digits : (text : List ℕ) → Decided (AllDigits 10 text)
all_digits [] = inl tt
all_digits (c ∷ text) = both (below (digit_value c) 10) (all_digits text)

plain : (text : List ℕ) → Decided (1 < length text) → Decided (slice_index text 0 ≡ 48) → Decided (1 < length text → slice_index text 0 ≢ 48)
plain text (inr short) e = inl (λ long. absurd (short long))
plain text (inl long) (inl same) = inr (λ h. h long same)
plain text (inl long) (inr other) = inl (λ more. other)

points_by : (text : List ℕ) → Decided (AllDigits 10 text) → Decided (1 ≤ length text) → Decided (1 < length text → slice_index text 0 ≢ 48) → Decided (digits_value 10 text ≤ 2000) → Found (IsPoints text)
points_by text (inl a) (inl b) (inl c) (inl d) = inl (digits_value 10 text, record { digits = a; some = b; plain = c; value = refl; most = d })
points_by text (inr bad) b c d = inr (λ n h. bad h.digits)
points_by text (inl a) (inr bad) c d = inr (λ n h. bad h.some)
points_by text (inl a) (inl b) (inr bad) d = inr (λ n h. bad h.plain)
points_by text (inl a) (inl b) (inl c) (inr bad) = inr (λ n h. bad (subst (λ (k : ℕ). k ≤ 2000) (sym h.value) h.most))

points : (text : List ℕ) → Found (IsPoints text)
points text = points_by text (all_digits text) (at_most 1 (length text)) (plain text (below 1 (length text)) (cases_eq (slice_index text 0) 48)) (at_most (digits_value 10 text) 2000)

-- ---- a row

row_by : (first second third : List ℕ) → Found (IsDayOf first) → Decided (IsName second) → Found (IsPoints third) → Found (IsRow (first ∷ second ∷ third ∷ []))
row_by first second third (inl d) (inl n) (inl p) = inl (record { from_day = d.0; table = second; bp = p.0 }, (d.1.0, d.1.1, n, refl, p.1))
row_by first second third (inr bad) n p = inr (λ row h. bad row.from_day (h.0, h.1))
row_by first second third (inl d) (inr bad) p = inr (λ row h. bad h.2)
row_by first second third (inl d) (inl n) (inr bad) = inr (λ row h. bad row.bp h.4)

row : (fields : List (List ℕ)) → Found (IsRow fields)
row [] = inr (λ found h. h)
row (a ∷ []) = inr (λ found h. h)
row (a ∷ b ∷ []) = inr (λ found h. h)
row (a ∷ b ∷ c ∷ []) = row_by a b c (day a) (name b) (points c)
row (a ∷ b ∷ c ∷ d ∷ rest) = inr (λ found h. h)

-- ---- the rows

earlier_or_not : (a b : ℤ) → (a <ℤ b) ⊎ (b ≤ℤ a)
earlier_or_not a b = elim (cases_Bool (lt_z a b)) [ inl e ↦ inl (lt_true a b e) | inr e ↦ inr (lt_false a b e) ]

after_one : (last : BasisRow) (on : ℤ) → (last.from_day <ℤ on) ⊎ (on ≤ℤ last.from_day) → IsAfter (last ∷ []) on ⊎ Falls (last ∷ []) on
after_one last on (inl less) = inl less
after_one last on (inr more) = inr (record { before = []; last = last; split = refl; falls = more })

falls_behind : (one : BasisRow) (rows : List BasisRow) (on : ℤ) → Falls rows on → Falls (one ∷ rows) on
falls_behind one rows on f = record { before = one ∷ f.before; last = f.last; split = ap (λ (xs : List BasisRow). one ∷ xs) f.split; falls = f.falls }

after_or_falls : (rows : List BasisRow) (on : ℤ) → IsAfter rows on ⊎ Falls rows on
after_or_falls [] on = inl tt
after_or_falls (one ∷ []) on = after_one one on (earlier_or_not one.from_day on)
after_or_falls (one ∷ next ∷ rows) on = elim (after_or_falls (next ∷ rows) on) [ inl a ↦ inl a | inr f ↦ inr (falls_behind one (next ∷ rows) on f) ]

abbrev Judged : List (List (List ℕ)) → Type 0
Judged rows = ((found : List BasisRow) × AreRows rows found) ⊎ (((n : ℕ) × StopsAt rows n (λ before fields. (row : BasisRow) → IsRow fields row → ⊥))
    ⊎ ((n : ℕ) × StopsAt rows n (λ before fields. (row : BasisRow) × IsRow fields row × (DaysRise (before ++ row ∷ []) → ⊥))))

judged : (good rest : List (List (List ℕ))) (found : List BasisRow) → AreRows good found → Judged (good ++ rest)
judged good [] found h = inl (found, subst (λ (rows : List (List (List ℕ))). AreRows rows found) (sym (append-nil good)) h)
judged good (fields ∷ rest) found h = elim (row fields) [
  | inr bad ↦ inr (inl (length good + 1, record { before = found; fields = fields; good = good; rest = rest; split = refl; number = refl; right = h; wrong = bad }))
  | inl r ↦ elim (after_or_falls found r.0.from_day) [
    | inr falls ↦ inr (inr (length good + 1, record { before = found; fields = fields; good = good; rest = rest; split = refl; number = refl; right = h; wrong = (r.0, r.1, no_rise found r.0 falls) }))
    | inl after ↦
        let more = judged (good ++ fields ∷ []) rest (found ++ r.0 ∷ []) (AreRows-push good found fields r.0 h r.1 after) in
        subst Judged (append_assoc good (fields ∷ []) rest) more
  ]
]

-- ---- the file

some_same : (a b : Read) → Some a ≡ Some b → a ≡ b
some_same a b e = cc

not_some : (p : Read) → None ≡ Some p → ⊥
not_some p e = absurd (cc)

-- a record that is read leaves fewer bytes
shorter : (s : State) (fields : List (List ℕ)) (field xs : List ℕ) (p : Read) → next_record default_config s fields field xs ≡ Some p → length p.2 ≤ length xs - 1
unfolding next_record
shorter s fields field [] p e = by (ends_at_end s) e
  where
    by : (b : Bool) → cond b (Some (fields ++ (field ∷ []), st.StartRecord, [])) None ≡ Some p → length p.2 ≤ 0 - 1
    by true e = subst (λ (q : Read). length q.2 ≤ 0 - 1) (some_same (fields ++ (field ∷ []), st.StartRecord, []) p e) (omega arith)
    by false e = absurd (not_some p e)
shorter s fields field (c ∷ rest) p e =
    by (is_end (step default_config s c).1) e
    (shorter (step default_config s c).0 (fields_after (step default_config s c).1 fields field) (field_after (step default_config s c).1 c field) rest p)
  where
    by : (b : Bool) → cond b (Some (fields_after (step default_config s c).1 fields field, (step default_config s c).0, rest))
        (next_record default_config (step default_config s c).0 (fields_after (step default_config s c).1 fields field) (field_after (step default_config s c).1 c field) rest) ≡ Some p
        → (next_record default_config (step default_config s c).0 (fields_after (step default_config s c).1 fields field) (field_after (step default_config s c).1 c field) rest ≡ Some p → length p.2 ≤ length rest - 1)
        → length p.2 ≤ length (c ∷ rest) - 1
    by true e more =
        subst (λ (q : Read). length q.2 ≤ length (c ∷ rest) - 1) (some_same (fields_after (step default_config s c).1 fields field, (step default_config s c).0, rest) p e) (omega arith)
    by false e more = let m = more e in omega (arith, m)

abbrev Records : State → List ℕ → Type 0
Records s xs = (rows : List (List (List ℕ))) × AreRecords default_config s xs rows

no_more : (s : State) (xs : List ℕ) → next_record default_config s [] [] xs ≡ None → Records s xs
unfolding Reached
no_more s xs e = ([], (s, xs, (refl, refl), e))

one_more : (s : State) (xs : List ℕ) (p : Read) → next_record default_config s [] [] xs ≡ Some p → Records p.1 p.2 → Records s xs
unfolding Reached
one_more s xs p e r = (p.0 ∷ r.0, (r.1.0, r.1.1, (p, e, refl, r.1.2), r.1.3))

-- at the end of the bytes there is one more record, or none
last_record : (s : State) → Records s []
unfolding next_record
last_record s = by (ends_at_end s) refl
  where
    by : (b : Bool) → ends_at_end s ≡ b → Records s []
    by false e = no_more s [] (ap (λ (t : Bool). cond t (Some ([] ∷ [], st.StartRecord, [])) None) e)
    by true e = one_more s [] ([] ∷ [], st.StartRecord, []) (ap (λ (t : Bool). cond t (Some ([] ∷ [], st.StartRecord, [])) None) e) (no_more st.StartRecord [] refl)

records : (n : ℕ) (s : State) (xs : List ℕ) → length xs ≤ n → Records s xs
records n s [] short = last_record s
records zero s (c ∷ xs) short = absurd (omega (arith, short))
records (suc n) s (c ∷ xs) short = by (next_record default_config s [] [] (c ∷ xs)) refl (λ state rest fits. records n state rest fits)
  where
    by : (r : Option Read) → next_record default_config s [] [] (c ∷ xs) ≡ r → ((state : State) (rest : List ℕ) → length rest ≤ n → Records state rest) → Records s (c ∷ xs)
    by None e more = no_more s (c ∷ xs) e
    by (Some p) e more = one_more s (c ∷ xs) p e (more p.1 p.2 (omega (arith, short, shorter s [] [] (c ∷ xs) p e)))

-- a fault of a basis file, at a row or in all
abbrev pub HasFault : List ℕ → Type 0
HasFault bytes = ((n : ℕ) × IsFileFault bytes (BadBasisRow n)) ⊎ (((n : ℕ) × IsFileFault bytes (NotRising n)) ⊎ IsFileFault bytes TooManyRows)

judged_file : (bytes : List ℕ) (rows : List (List (List ℕ))) → HasRows bytes rows → Decided (length rows ≤ 1000) → Judged rows → ((found : List BasisRow) × IsBasisFile bytes found) ⊎ HasFault bytes
judged_file bytes rows h (inr many) j = inr (inr (inr (rows, h, elim (cases_lt 1000 (length rows)) [ inl more ↦ more | inr less ↦ absurd (many less) ])))
judged_file bytes rows h (inl few) (inl right) = inl (right.0, (rows, h, few, right.1))
judged_file bytes rows h (inl few) (inr (inl bad)) = inr (inl (bad.0, (rows, h, (few, bad.1))))
judged_file bytes rows h (inl few) (inr (inr fall)) = inr (inr (inl (fall.0, (rows, h, (few, fall.1)))))

pub rows_or_fault : (bytes : List ℕ) → ((found : List BasisRow) × IsBasisFile bytes found) ⊎ HasFault bytes
rows_or_fault bytes =
    let r = records (length (strip_bom bytes)) st.StartRecord (strip_bom bytes) (omega arith) in
    judged_file bytes r.0 r.1 (at_most (length r.0) 1000) (judged [] r.0 [] (record { each = tt; rise = tt }))
