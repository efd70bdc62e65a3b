-- What a shelf was asked for.
use Rattle.basis_shelf.proofs.Names.{◌≡◌, ◌≤◌, ◌<◌, ℕ, List, [], ◌∷◌, ◌++◌, length, map, get_or, All, Contains, Option, inl, inr, refl, sym, ap, subst, ◌∙◌, arith, append_assoc, length-map, get_or-map, All-nil, All-cons, All-weaker, All-append, AsksOnly, ARow, AreRowsNamed, IsOfBasis}

pub asks_none : (Allowed : List ℕ → Type 0) (before : List (List ℕ)) → AsksOnly Allowed before before
asks_none Allowed before = ([], refl, All-nil Allowed)

pub asks_one : (Allowed : List ℕ → Type 0) (name : List ℕ) (before now : List (List ℕ)) → Allowed name → now ≡ name ∷ before → AsksOnly Allowed before now
asks_one Allowed name before now may is = (name ∷ [], is, All-cons Allowed name [] may (All-nil Allowed))

pub asks_weaker : (One Other : List ℕ → Type 0) (before now : List (List ℕ)) → ((name : List ℕ) → One name → Other name) → AsksOnly One before now → AsksOnly Other before now
asks_weaker One Other before now weaker asks = (asks.0, asks.1, All-weaker One Other weaker asks.0 asks.2)

pub asks_more : (Allowed : List ℕ → Type 0) (before mid now : List (List ℕ)) → AsksOnly Allowed before mid → AsksOnly Allowed mid now → AsksOnly Allowed before now
asks_more Allowed before mid now first later =
    (later.0 ++ first.0, later.1 ∙ ap (λ (names : List (List ℕ)). later.0 ++ names) first.1 ∙ sym (append_assoc later.0 first.0 before), All-append Allowed later.0 first.0 later.2 first.2)

-- a row's table is one of the tables of the rows
pub table_in : (rows : List ARow) (i : ℕ) (row : ARow) → i < length rows → row ≡ get_or rows i row → Contains (map (λ (r : ARow). r.table) rows) row.table
table_in rows i row within is =
    let many = length-map rows (λ (r : ARow). r.table) in
    (i, omega arith, get_or-map (λ (r : ARow). r.table) rows i row row.table within ∙ sym (ap (λ (r : ARow). r.table) is))

-- one row more
pub asks_row : (rows : List ARow) (i : ℕ) (row : ARow) (before mid now : List (List ℕ)) → i < length rows → row ≡ get_or rows i row
    → AsksOnly (Contains (map (λ (r : ARow). r.table) rows)) before mid → AsksOnly (λ name. name ≡ row.table) mid now
    → AsksOnly (Contains (map (λ (r : ARow). r.table) rows)) before now
asks_row rows i row before mid now within is first later =
    asks_more (Contains (map (λ (r : ARow). r.table) rows)) before mid now first
    (asks_weaker (λ name. name ≡ row.table) (Contains (map (λ (r : ARow). r.table) rows)) mid now
    (λ name same. subst (λ (n : List ℕ). Contains (map (λ (r : ARow). r.table) rows) n) (sym same) (table_in rows i row within is)) later)

-- the basis file, and then tables of its rows
pub asks_basis : (files : List ℕ → Option (List ℕ)) (name : List ℕ) (rows : List ARow) (before mid now : List (List ℕ)) → AreRowsNamed files name rows
    → mid ≡ name ∷ before → AsksOnly (Contains (map (λ (r : ARow). r.table) rows)) mid now → AsksOnly (IsOfBasis files name) before now
asks_basis files name rows before mid now are first later =
    asks_more (IsOfBasis files name) before mid now (asks_one (IsOfBasis files name) name before mid (inl refl) first)
    (asks_weaker (Contains (map (λ (r : ARow). r.table) rows)) (IsOfBasis files name) mid now (λ other is. inr (rows, are, is)) later)
