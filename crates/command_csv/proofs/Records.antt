-- The rows of a script, as the reader of rows comes to them
use Rattle.command_csv.proofs.Names.{◌≡◌, ℕ, zero, suc, ◌+◌, ◌-◌, ◌≤◌, Bool, true, false, List, [], ◌∷◌, ◌++◌, length, Some, None, refl, sym, ap, ◌∙◌, subst, arith, false≢true, Reached, records_from, records_next, default_config, strip_bom, is_bom, rows_of}
use Rattle.std.specs.Prelude.{if◌then◌else◌, ◌==◌}
use Rattle.std.proofs.lemmas.List.{append-nil}
use Rattle.std.proofs.lemmas.Option.{none-some}
use Rattle.csv.specs.Machine.{Read, next_record, step, is_end, ends_at_end, ends_with, after_end, in_field, start_field, start_record, fields_after, field_after}
use Rattle.csv.specs.declared.parser.State.{State}
use Rattle.csv.specs.declared.parser.State.TheVariants as st
use Rattle.csv.specs.declared.parser.Action.{Action}
use Rattle.csv.specs.declared.parser.Action.TheVariants as act
use Rattle.csv.specs.declared.parser.Terminator.TheVariants as term

-- if a step ends a record, the end of the text ends no further one
abbrev EndsWell : State × Action → Type 0
EndsWell p = is_end p.1 ≡ true → ends_at_end p.0 ≡ false

chosen : (test : Bool) (a b : State × Action) → EndsWell a → EndsWell b → EndsWell (if test then a else b)
chosen true a b h k = h
chosen false a b h k = k

after_end_quiet : (c : ℕ) → ends_at_end (after_end term.CRLF c) ≡ false
after_end_quiet c = by (c == 13)
  where
    by : (b : Bool) → ends_at_end (if b then st.AfterCr else st.StartRecord) ≡ false
    by true = refl
    by false = refl

in_field_ends : (c : ℕ) → EndsWell (in_field default_config c)
in_field_ends c =
    chosen (c == 44) (st.StartField, act.EndField) (if ends_with term.CRLF c then (after_end term.CRLF c, act.EndRecord) else (st.InField, act.Copy)) (λ h. absurd (false≢true h))
    (chosen (ends_with term.CRLF c) (after_end term.CRLF c, act.EndRecord) (st.InField, act.Copy) (λ h. after_end_quiet c) (λ h. absurd (false≢true h)))

start_field_ends : (c : ℕ) → EndsWell (start_field default_config c)
start_field_ends c = chosen (c == 34) (st.InQuoted, act.Skip) (in_field default_config c) (λ h. absurd (false≢true h)) (in_field_ends c)

start_record_ends : (c : ℕ) → EndsWell (start_record default_config c)
start_record_ends c = chosen (ends_with term.CRLF c) (st.StartRecord, act.Skip) (start_field default_config c) (λ h. absurd (false≢true h)) (start_field_ends c)

step_ends : (s : State) (c : ℕ) → EndsWell (step default_config s c)
step_ends st.StartRecord c = start_record_ends c
step_ends st.StartField c = start_field_ends c
step_ends st.InField c = in_field_ends c
step_ends st.InQuoted c = chosen (c == 34) (st.AfterQuote, act.Skip) (st.InQuoted, act.Copy) (λ h. absurd (false≢true h)) (λ h. absurd (false≢true h))
step_ends st.InEscape c = λ h. absurd (false≢true h)
step_ends st.AfterQuote c = chosen (c == 34) (st.InQuoted, act.Copy) (in_field default_config c) (λ h. absurd (false≢true h)) (in_field_ends c)
step_ends st.InComment c = chosen (c == 10) (st.StartRecord, act.Skip) (st.InComment, act.Skip) (λ h. absurd (false≢true h)) (λ h. absurd (false≢true h))
step_ends st.AfterCr c = chosen (c == 10) (st.StartRecord, act.Skip) (start_record default_config c) (λ h. absurd (false≢true h)) (start_record_ends c)

-- a record that is read leaves fewer bytes, and a state in which the end of the text ends no record
abbrev Leaves : ℕ → Read → Type 0
Leaves n p = (length p.2 ≤ n) × (ends_at_end p.1 ≡ false)

some_same : (a b : Read) → Some a ≡ Some b → a ≡ b
some_same a b e = cc

record_leaves : (s : State) (fields : List (List ℕ)) (field xs : List ℕ) (p : Read) → next_record default_config s fields field xs ≡ Some p → Leaves (length xs - 1) p
unfolding next_record
record_leaves s fields field [] p e = by (ends_at_end s) e
  where
    by : (b : Bool) → (if b then Some (fields ++ (field ∷ []), st.StartRecord, []) else None) ≡ Some p → Leaves (0 - 1) p
    by true e = subst (Leaves (0 - 1)) (some_same (fields ++ (field ∷ []), st.StartRecord, []) p e) (omega arith, refl)
    by false e = absurd (none-some p e)
record_leaves s fields field (c ∷ rest) p e =
    by (is_end (step default_config s c).1) refl e
    (record_leaves (step default_config s c).0 (fields_after (step default_config s c).1 fields field) (field_after (step default_config s c).1 c field) rest p)
  where
    by : (b : Bool) → is_end (step default_config s c).1 ≡ b
        → (if b then Some (fields_after (step default_config s c).1 fields field, (step default_config s c).0, rest)
        else next_record default_config (step default_config s c).0 (fields_after (step default_config s c).1 fields field) (field_after (step default_config s c).1 c field) rest) ≡ Some p
        → (next_record default_config (step default_config s c).0 (fields_after (step default_config s c).1 fields field) (field_after (step default_config s c).1 c field) rest ≡ Some p → Leaves (length rest - 1) p)
        → Leaves (length (c ∷ rest) - 1) p
    by true end e more =
        subst (Leaves (length (c ∷ rest) - 1)) (some_same (fields_after (step default_config s c).1 fields field, (step default_config s c).0, rest) p e) (omega arith, step_ends s c end)
    by false end e more = let m = more e in (omega (arith, m.0), m.1)

has_bytes : (s : State) (xs : List ℕ) (p : Read) → ends_at_end s ≡ false → next_record default_config s [] [] xs ≡ Some p → 1 ≤ length xs
unfolding next_record
has_bytes s [] p q e = absurd (none-some p (rw q at e))
has_bytes s (c ∷ xs) p q e = omega arith

-- each row takes a byte at least
pub rows_take : (s : State) (xs : List ℕ) (rows : List (List (List ℕ))) (s2 : State) (ys : List ℕ) → ends_at_end s ≡ false → Reached default_config s xs rows s2 ys → length rows + length ys ≤ length xs
unfolding Reached
rows_take s xs [] s2 ys q h = let same : length xs ≡ length ys = ap length h.1 in omega (arith, same)
rows_take s xs (r ∷ rs) s2 ys q h =
    let some = has_bytes s xs h.0 q h.1 in
    let left = record_leaves s [] [] xs h.0 h.1 in
    let more : length rs + length ys ≤ length h.0.2 = rows_take h.0.1 h.0.2 rs s2 ys left.1 h.3 in
    omega (arith, some, left.0, more)

-- the records of a text are those that were reached, and the records of what is left
records_reached : (n : ℕ) (s : State) (xs : List ℕ) (rows : List (List (List ℕ))) (s2 : State) (ys : List ℕ) (m : ℕ) → Reached default_config s xs rows s2 ys → n ≡ length rows + m
    → records_from default_config n s xs ≡ rows ++ records_from default_config m s2 ys
unfolding Reached records_from
records_reached n s xs [] s2 ys m h e =
    let same : n ≡ m = omega (arith, e) in
    let state : s ≡ s2 = h.0 in
    let text : xs ≡ ys = h.1 in
    cc
records_reached zero s xs (r ∷ rs) s2 ys m h e = absurd (omega (arith, e))
records_reached (suc n) s xs (r ∷ rs) s2 ys m h e =
    let more : records_from default_config n h.0.1 h.0.2 ≡ rs ++ records_from default_config m s2 ys = records_reached n h.0.1 h.0.2 rs s2 ys m h.3 (omega (arith, e)) in
    let first : r ≡ h.0.0 = h.2 in
    ap (records_next (records_from default_config n)) h.1 ∙ ap (λ (rest : List (List (List ℕ))). h.0.0 ∷ rest) more ∙ ap (λ (x : List (List ℕ)). x ∷ (rs ++ records_from default_config m s2 ys)) (sym first)

no_records : (m : ℕ) (s : State) (ys : List ℕ) → next_record default_config s [] [] ys ≡ None → records_from default_config m s ys ≡ []
unfolding records_from
no_records zero s ys e = refl
no_records (suc m) s ys e = ap (records_next (records_from default_config m)) e

-- the text without its mark is no longer
pub mark_shortens : (xs : List ℕ) → length (strip_bom xs) ≤ length xs
unfolding strip_bom
mark_shortens [] = omega arith
mark_shortens (a ∷ []) = omega arith
mark_shortens (a ∷ b ∷ []) = omega arith
mark_shortens (a ∷ b ∷ c ∷ rest) = by (is_bom a b c)
  where
    by : (mark : Bool) → length (if mark then rest else a ∷ b ∷ c ∷ rest) ≤ length (a ∷ b ∷ c ∷ rest)
    by true = omega arith
    by false = omega arith

-- the rows that were reached begin the rows of the script
pub rows_begin : (bytes : List ℕ) (rows : List (List (List ℕ))) (s : State) (ys : List ℕ) → Reached default_config st.StartRecord (strip_bom bytes) rows s ys → (after : List (List (List ℕ))) × (rows_of bytes ≡ rows ++ after)
rows_begin bytes rows s ys h =
    let few = rows_take st.StartRecord (strip_bom bytes) rows s ys refl h in
    let m = length (strip_bom bytes) + 1 - length rows in
    (records_from default_config m s ys, records_reached (length (strip_bom bytes) + 1) st.StartRecord (strip_bom bytes) rows s ys m h (omega (arith, few)))

-- if nothing is left they are its rows
pub rows_end : (bytes : List ℕ) (rows : List (List (List ℕ))) (s : State) (ys : List ℕ) → Reached default_config st.StartRecord (strip_bom bytes) rows s ys → next_record default_config s [] [] ys ≡ None → rows_of bytes ≡ rows
rows_end bytes rows s ys h none =
    let few = rows_take st.StartRecord (strip_bom bytes) rows s ys refl h in
    let m = length (strip_bom bytes) + 1 - length rows in
    records_reached (length (strip_bom bytes) + 1) st.StartRecord (strip_bom bytes) rows s ys m h (omega (arith, few))
    ∙ ap (λ (rest : List (List (List ℕ))). rows ++ rest) (no_records m s ys none) ∙ append-nil rows

-- there are no more of them than bytes
pub rows_few : (bytes : List ℕ) (rows : List (List (List ℕ))) (s : State) (ys : List ℕ) → Reached default_config st.StartRecord (strip_bom bytes) rows s ys → length rows ≤ length bytes
rows_few bytes rows s ys h = omega (arith, rows_take st.StartRecord (strip_bom bytes) rows s ys refl h, mark_shortens bytes)
