-- What the worked scripts rest on
use Rattle.command_csv.proofs.Names.{◌≡◌, ℕ, zero, suc, ◌<◌, ◌≤◌, List, [], ◌∷◌, ◌++◌, map, refl, sym, subst, arith, lit≤, codes, pos, decimal, replicate, AllZip, decimal_injective, ints, Now, Line, Post, Value, Trim, IsId, IsCommandDay, day_text, ClerkLine, rows_of, by_first, at_text, row_fields, IsClerk, IsPosition, AreWorkers, IsScriptLine, IsLineRow, AreLineRows, IsFirstBadField, Reads, lanes_of, most_valuations, valuations_in, Ends, Then, WorkersOn, PositionOn, KindMayStandBehind, KindForm, kind_spelling, form_of}
use Rattle.command_csv.specs.declared.kind.Kind.TheVariants as kind
use Rattle.command_csv.specs.Worked.{SaysLines}
use Rattle.command_csv.proofs.Clerks.{lanes_of_first}
use Rattle.command_csv.proofs.Forms.{carries_all, kind_carries, day_possible, end_possible, workers_possible, any_kind_possible, row_possible, goes_on, stops}
use Rattle.command_csv.proofs.Lines.{bad_field, entry_of}
use Rattle.command_csv.proofs.Words.{kind_word_injective}

pub row_of : (clerk : ℕ) (line : Line) → IsClerk clerk → IsScriptLine line → IsLineRow (row_fields (entry_of clerk line)) (entry_of clerk line)
row_of clerk line clerk_in h = (record { clerk_in = clerk_in; right = h }, refl)

pub row_is : (line : Line) → IsScriptLine line → IsLineRow (row_fields (by_first line)) (by_first line)
row_is line h = row_of 1 line (lit≤ tt, lit≤ tt) h

-- the rows are those of the lines
pub reads : (script : List ℕ) (entries : List ClerkLine) (rows : List (List (List ℕ))) → rows_of script ≡ rows → AreLineRows rows entries → Reads script (lanes_of entries)
reads script entries rows e h = record { entries = entries; rows = subst (λ (found : List (List (List ℕ))). AreLineRows found entries) (sym e) h; by_clerk = refl }

pub says : (script : List ℕ) (lines : List Line) (rows : List (List (List ℕ))) → rows_of script ≡ rows → AreLineRows rows (map by_first lines) → SaysLines script lines
says script lines rows e h = subst (Reads script) (lanes_of_first lines) (reads script (map by_first lines) rows e h)

one_is_few : (line : Line) → valuations_in (line ∷ []) ≤ most_valuations
one_is_few (Post c) = omega arith
one_is_few (Value on at workers) = omega arith
one_is_few Trim = omega arith

pub says_one : (script : List ℕ) (line : Line) → rows_of script ≡ row_fields (by_first line) ∷ [] → IsScriptLine line → SaysLines script (line ∷ [])
says_one script line e h = says script (line ∷ []) (row_fields (by_first line) ∷ []) e record { each = (row_is line h, tt); few = one_is_few line }

-- a row whose first field is a number, and no clerk's
pub bad_clerk : (valued n : ℕ) (rest : List (List ℕ)) → n ≤ 9 → (IsClerk n → ⊥) → IsFirstBadField valued (decimal n ∷ rest) 1
bad_clerk valued n rest small none =
    bad_field valued (decimal n ∷ rest) 0 1 refl
    (stops IsClerk decimal (λ clerk. KindForm valued) (row_possible valued).0 (decimal n ∷ rest) (row_possible valued).1
    (λ clerk h e.
    let same : decimal n ≡ decimal clerk = cc in
    let number : n ≡ clerk = decimal_injective n clerk (omega (arith, small)) (omega (arith, h)) same in
    none (subst IsClerk (sym number) h)))

-- a lapse without a day
pub no_day : (id : ℕ) → IsId id → IsFirstBadField 0 (decimal 1 ∷ codes "lapse" ∷ decimal id ∷ []) 4
no_day id h =
    bad_field 0 (decimal 1 ∷ codes "lapse" ∷ decimal id ∷ []) 3 4 refl
    (goes_on IsClerk decimal (λ clerk. KindForm 0) 1 (codes "lapse" ∷ decimal id ∷ []) 2 (lit≤ tt, lit≤ tt) (carries_all IsClerk decimal (KindForm 0) 1)
    (goes_on (KindMayStandBehind 0) kind_spelling form_of kind.Lapse (decimal id ∷ []) 1 tt (kind_carries 0 kind.Lapse)
    (goes_on IsId decimal (λ i. Then IsCommandDay day_text (λ day. Ends)) id [] 0 h (carries_all IsId decimal (Then IsCommandDay day_text (λ day. Ends)) id)
    (stops IsCommandDay day_text (λ day. Ends) (day_possible Ends end_possible).0 [] (day_possible Ends end_possible).1 (λ day day_in e. cc)))))

-- a valuation without workers
pub no_workers : IsFirstBadField 0 (decimal 1 ∷ codes "value" ∷ day_text (pos 18628) ∷ codes "now" ∷ []) 5
no_workers =
    bad_field 0 (decimal 1 ∷ codes "value" ∷ day_text (pos 18628) ∷ codes "now" ∷ []) 4 5 refl
    (goes_on IsClerk decimal (λ clerk. KindForm 0) 1 (codes "value" ∷ day_text (pos 18628) ∷ codes "now" ∷ []) 3 (lit≤ tt, lit≤ tt) (carries_all IsClerk decimal (KindForm 0) 1)
    (goes_on (KindMayStandBehind 0) kind_spelling form_of kind.Value (day_text (pos 18628) ∷ codes "now" ∷ []) 2 (omega arith) (kind_carries 0 kind.Value)
    (goes_on IsCommandDay day_text (λ on. PositionOn) (pos 18628) (codes "now" ∷ []) 1 (omega (arith, ints), omega (arith, ints)) (carries_all IsCommandDay day_text PositionOn (pos 18628))
    (goes_on IsPosition at_text (λ at. WorkersOn) Now [] 0 tt (carries_all IsPosition at_text WorkersOn Now)
    (stops AreWorkers decimal (λ workers. Ends) workers_possible.0 [] workers_possible.1 (λ workers h e. cc))))))

-- a row many times
pub rows_again : (n : ℕ) (row : List (List ℕ)) (entry : ClerkLine) → IsLineRow row entry → AllZip IsLineRow (replicate n row) (replicate n entry)
rows_again zero row entry h = tt
rows_again (suc n) row entry h = (h, rows_again n row entry h)

-- rows, and others after them
pub rows_both : (rows others : List (List (List ℕ))) (entries more : List ClerkLine) → AllZip IsLineRow rows entries → AllZip IsLineRow others more → AllZip IsLineRow (rows ++ others) (entries ++ more)
rows_both [] others [] more h g = g
rows_both [] others (e ∷ es) more h g = absurd h
rows_both (x ∷ xs) others [] more h g = absurd h
rows_both (x ∷ xs) others (e ∷ es) more h g = (h.0, rows_both xs others es more h.1 g)

-- a valuation after as many as there may be
pub no_room : (clerk : ℕ) (rest : List (List ℕ)) → IsClerk clerk → IsFirstBadField most_valuations (decimal clerk ∷ codes "value" ∷ rest) 2
no_room clerk rest clerk_in =
    bad_field most_valuations (decimal clerk ∷ codes "value" ∷ rest) 1 2 refl
    (goes_on IsClerk decimal (λ n. KindForm most_valuations) clerk (codes "value" ∷ rest) 0 clerk_in (carries_all IsClerk decimal (KindForm most_valuations) clerk)
    (stops (KindMayStandBehind most_valuations) kind_spelling form_of (any_kind_possible most_valuations).0 (codes "value" ∷ rest) (any_kind_possible most_valuations).1
    (λ k h e.
    let word : kind_spelling k ≡ kind_spelling kind.Value = cc in
    let full : most_valuations < most_valuations = subst (KindMayStandBehind most_valuations) (kind_word_injective k kind.Value word) h in
    omega (arith, full))))
