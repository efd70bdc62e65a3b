-- The row that a day of issue picks.
use Rattle.basis_book.proofs.Names.{◌≡◌, ℕ, ◌+◌, ◌<◌, ◌<ℤ◌, ◌≤ℤ◌, ℤ, List, ◌∷◌, ◌++◌, length, map, take, drop, get_or, Option, None, Some, IsSome, All, unwrap_or, slice_get, option_map, [], sym, ap, ◌∙◌, subst, arith, take-append-drop, take_more, drop_more, map-append, map_push, length-map, length-take-le, All-cons, All-map, BasisRow, Dated, dated, IsPicked, IsFirstMissing}
use Rattle.std.proofs.lemmas.Option.{slice_get-get_or, slice_get-map, slice_get_within}
use Rattle.select_rates.specs.declared.any.AnyTable.{AnyTable}
use Rattle.basis_book.specs.inside.Placed.{ArePlaces}

-- a list at a place
cut_at : (rows : List BasisRow) (i : ℕ) (row : BasisRow) → i < length rows → row ≡ get_or rows i row → rows ≡ take i rows ++ row ∷ drop (i + 1) rows
cut_at rows i row h e =
    sym (take-append-drop i rows) ∙ ap (λ (rest : List BasisRow). take i rows ++ rest) (drop_more rows i row h ∙ ap (λ (r : BasisRow). r ∷ drop (i + 1) rows) (sym e))

pub later_more : (rows : List BasisRow) (issued : ℤ) (i : ℕ) (row : BasisRow) → i < length rows → row ≡ get_or rows i row → issued <ℤ row.from_day
    → All (λ (r : BasisRow). issued <ℤ r.from_day) (drop (i + 1) rows) → All (λ (r : BasisRow). issued <ℤ r.from_day) (drop i rows)
later_more rows issued i row h e after rest =
    subst (λ (xs : List BasisRow). All (λ (r : BasisRow). issued <ℤ r.from_day) xs) (sym (drop_more rows i row h ∙ ap (λ (r : BasisRow). r ∷ drop (i + 1) rows) (sym e)))
    (All-cons (λ (r : BasisRow). issued <ℤ r.from_day) row (drop (i + 1) rows) after rest)

pub picked_at : (t : List ℕ → Option AnyTable) (rows : List BasisRow) (issued : ℤ) (i : ℕ) (row : BasisRow) → i < length rows → row ≡ get_or rows i row → row.from_day ≤ℤ issued
    → All (λ (r : BasisRow). issued <ℤ r.from_day) (drop (i + 1) rows) → IsPicked (map (dated t) rows) issued i (dated t row)
picked_at t rows issued i row h e begun rest = record {
  before = map (dated t) (take i rows);
  after = map (dated t) (drop (i + 1) rows);
  split = ap (λ (xs : List BasisRow). map (dated t) xs) (cut_at rows i row h e) ∙ map-append (dated t) (take i rows) (row ∷ drop (i + 1) rows);
  place = sym (length-map (take i rows) (dated t) ∙ length-take-le i rows (omega arith));
  begun = begun;
  later = All-map (λ (other : Dated). issued <ℤ other.from_day) (dated t) (drop (i + 1) rows) rest;
}

pub none_begun : (t : List ℕ → Option AnyTable) (rows : List BasisRow) (issued : ℤ) → All (λ (r : BasisRow). issued <ℤ r.from_day) rows
    → All (λ (entry : Dated). issued <ℤ entry.from_day) (map (dated t) rows)
none_begun t rows issued h = All-map (λ (other : Dated). issued <ℤ other.from_day) (dated t) rows h

-- ---- the places of the tables

pub places_long : (at : ℕ → Option AnyTable) (t : List ℕ → Option AnyTable) (rows : List BasisRow) (places : List ℕ) → ArePlaces at t rows places → length places ≡ length rows
places_long at t rows places placed =
    sym (length-map places at) ∙ ap (λ (xs : List (Option AnyTable)). length xs) placed ∙ length-map rows (λ (row : BasisRow). t row.table)

pub places_more : (at : ℕ → Option AnyTable) (t : List ℕ → Option AnyTable) (rows : List BasisRow) (places : List ℕ) (i : ℕ) (row : BasisRow) (place : ℕ) → i < length rows
    → row ≡ get_or rows i row → at place ≡ t row.table → ArePlaces at t (take i rows) places → ArePlaces at t (take (i + 1) rows) (places ++ place ∷ [])
places_more at t rows places i row place h e same placed =
    let table = λ (r : BasisRow). t r.table in
    let front : take (i + 1) rows ≡ take i rows ++ row ∷ [] = take_more rows i row h ∙ ap (λ (r : BasisRow). take i rows ++ r ∷ []) (sym e) in
    map_push at places place ∙ ap (λ (xs : List (Option AnyTable)). xs ++ at place ∷ []) placed ∙ ap (λ (x : Option AnyTable). map table (take i rows) ++ x ∷ []) same
    ∙ sym (map_push table (take i rows) row) ∙ ap (λ (xs : List BasisRow). map table xs) (sym front)

pub table_at : (at : ℕ → Option AnyTable) (t : List ℕ → Option AnyTable) (rows : List BasisRow) (places : List ℕ) (i : ℕ) (row : BasisRow) → i < length rows
    → row ≡ get_or rows i row → ArePlaces at t rows places → at (get_or places i 0) ≡ t row.table
table_at at t rows places i row h e placed =
    let table = λ (r : BasisRow). t r.table in
    let place = get_or places i 0 in
    let within : i < length places = omega (arith, places_long at t rows places placed) in
    let left : slice_get (map at places) i ≡ Some (at place) = slice_get-map at places i ∙ ap (option_map at) (slice_get-get_or places i 0 within) in
    let right : slice_get (map table rows) i ≡ Some (t row.table) =
    slice_get-map table rows i ∙ ap (option_map table) (slice_get-get_or rows i row h ∙ ap (λ (r : BasisRow). Some r) (sym e)) in
    let both : Some (at place) ≡ Some (t row.table) = sym left ∙ ap (λ (xs : List (Option AnyTable)). slice_get xs i) placed ∙ right in
    cc

pub has_place : (tables : List AnyTable) (place : ℕ) (o : Option AnyTable) → slice_get tables place ≡ o → IsSome o → place < length tables
has_place tables place None e some = cc
has_place tables place (Some table) e some = slice_get_within tables place table e

pub table_is : (o : Option AnyTable) (table d : AnyTable) → Some table ≡ o → table ≡ unwrap_or o d
table_is o table d e = ap (λ (x : Option AnyTable). unwrap_or x d) e

pub missing_at : (t : List ℕ → Option AnyTable) (rows : List BasisRow) (i : ℕ) (row : BasisRow) (n : ℕ) → i < length rows → row ≡ get_or rows i row → n ≡ i + 1
    → All (λ (r : BasisRow). IsSome (t r.table)) (take i rows) → (IsSome (t row.table) → ⊥) → IsFirstMissing t rows n
missing_at t rows i row n h e number known none = record {
  before = take i rows;
  row = row;
  after = drop (i + 1) rows;
  split = cut_at rows i row h e;
  number = number ∙ ap (λ (k : ℕ). k + 1) (sym (length-take-le i rows (omega arith)));
  known = known;
  missing = none;
}
