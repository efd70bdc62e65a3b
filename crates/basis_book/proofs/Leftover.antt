-- A row that is read leaves less of the text
use Rattle.basis_book.proofs.Names.{◌≡◌, ℕ, ◌+◌, ◌*◌, ◌<◌, Bool, true, false, List, [], ◌∷◌, ◌++◌, length, Option, Some, None, unwrap_or, refl, sym, subst, arith, Bor, Reached, default_config, strip_bom, reader_config, reader_state, source_of}
use Rattle.std.specs.Prelude.{if◌then◌else◌}
use Rattle.std.proofs.lemmas.Option.{none-some}
use Rattle.csv.specs.Reading.{ReadRecord}
use Rattle.csv.proofs.ReadFacts.{rows-more, rows-end as csv_end}
use Rattle.csv.specs.Machine.{Read, next_record, step, is_end, ends_at_end, fields_after, field_after}
use Rattle.csv.specs.declared.parser.State.{State}
use Rattle.csv.specs.declared.parser.State.TheVariants as st
use Rattle.csv.specs.declared.reader.Reader.{Reader}

-- the bytes that are left, twice, and one more where the end of the text ends a row
abbrev pub size : State → List ℕ → ℕ
size s xs = 2 * length xs + (if ends_at_end s then 1 else 0)

size_most : (s : State) (xs : List ℕ) → size s xs < 2 * length xs + 2
size_most s xs = by (ends_at_end s)
  where
    by : (b : Bool) → 2 * length xs + (if b then 1 else 0) < 2 * length xs + 2
    by true = omega arith
    by false = omega arith

some_same : (a b : Read) → Some a ≡ Some b → a ≡ b
some_same a b e = cc

record_shortens : (s : State) (fields : List (List ℕ)) (field xs : List ℕ) (p : Read) → next_record default_config s fields field xs ≡ Some p → size p.1 p.2 < size s xs
unfolding next_record
record_shortens s fields field [] p e = by (ends_at_end s) e
  where
    by : (b : Bool) → (if b then Some (fields ++ (field ∷ []), st.StartRecord, []) else None) ≡ Some p → size p.1 p.2 < 2 * 0 + (if b then 1 else 0)
    by true e = subst (λ (q : Read). size q.1 q.2 < 1) (some_same (fields ++ (field ∷ []), st.StartRecord, []) p e) (omega arith)
    by false e = absurd (none-some p e)
record_shortens s fields field (c ∷ rest) p e =
    by (is_end (step default_config s c).1) e
    (record_shortens (step default_config s c).0 (fields_after (step default_config s c).1 fields field) (field_after (step default_config s c).1 c field) rest p)
  where
    most : size (step default_config s c).0 rest < 2 * length rest + 2
    most = size_most (step default_config s c).0 rest

    by : (b : Bool) → (if b then Some (fields_after (step default_config s c).1 fields field, (step default_config s c).0, rest)
        else next_record default_config (step default_config s c).0 (fields_after (step default_config s c).1 fields field) (field_after (step default_config s c).1 c field) rest) ≡ Some p
        → (next_record default_config (step default_config s c).0 (fields_after (step default_config s c).1 fields field) (field_after (step default_config s c).1 c field) rest ≡ Some p → size p.1 p.2 < size (step default_config s c).0 rest)
        → size p.1 p.2 < size s (c ∷ rest)
    by true e more = subst (λ (q : Read). size q.1 q.2 < size s (c ∷ rest)) (some_same (fields_after (step default_config s c).1 fields field, (step default_config s c).0, rest) p e) (omega (arith, most))
    by false e more = omega (arith, most, more e)

-- how much is left of a reader's text
abbrev pub left_size : Reader (Bor (List ℕ)) → ℕ
left_size rows = size (reader_state rows) (unwrap_or (source_of (λ (s : Bor (List ℕ)). Some s.now) rows) [])

pub row_shortens : (s s2 : State) (xs ys : List ℕ) (row : List (List ℕ)) → Reached default_config s xs (row ∷ []) s2 ys → size s2 ys < size s xs
unfolding Reached
row_shortens s s2 xs ys row h =
    let p : Read = h.0 in
    let same : s2 ≡ p.1 = sym h.3.0 in
    let left : ys ≡ p.2 = sym h.3.1 in
    rw (same, left) (record_shortens s [] [] xs p h.1)

abbrev left_in : Bor (List ℕ) → Option (List ℕ)
left_in s = Some s.now

pub found : (old new : Reader (Bor (List ℕ))) (there wanted : Bool) (row : List (List ℕ)) → there ≡ wanted → ReadRecord left_in old new there row → ReadRecord left_in old new wanted row
found old new there wanted row e r = subst (λ (b : Bool). ReadRecord left_in old new b row) e r

-- one more row is reached, and less is left
pub more_read : (bytes : List ℕ) (old new : Reader (Bor (List ℕ))) (left : List ℕ) (rows : List (List (List ℕ))) (row : List (List ℕ)) → reader_config old ≡ default_config → source_of left_in old ≡ Some left
    → Reached default_config st.StartRecord (strip_bom bytes) rows (reader_state old) left → ReadRecord left_in old new true row
    → (rest : List ℕ) × (source_of left_in new ≡ Some rest) × Reached default_config st.StartRecord (strip_bom bytes) (rows ++ row ∷ []) (reader_state new) rest × (left_size new < left_size old)
unfolding Reached
more_read bytes old new left rows row config source reached r =
    let more = rows-more left_in old new row default_config st.StartRecord (strip_bom bytes) left rows config source reached r in
    let one = rows-more left_in old new row default_config (reader_state old) left left [] config source (refl, refl) r in
    let less = row_shortens (reader_state old) (reader_state new) left one.0 row one.2 in
    (more.0, more.1, more.2, rw (source, one.1) less)

-- if no row is read, none is left
pub none_left : (old new : Reader (Bor (List ℕ))) (left : List ℕ) (row : List (List ℕ)) → reader_config old ≡ default_config → source_of left_in old ≡ Some left
    → ReadRecord left_in old new false row → next_record default_config (reader_state old) [] [] left ≡ None
none_left old new left row config source r = csv_end left_in old new row default_config left config source r
