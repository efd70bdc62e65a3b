-- Each file spells a table, or has a first fault.
use Rattle.basis_shelf.proofs.Names.{◌≡◌, ◌⊎◌, inl, inr, ℕ, ◌+◌, Bool, true, false, cond, List, [], ◌∷◌, Option, Some, None, Result, Ok, Err, refl, sym, codes, MatchBool, bytes_eq, Rates, TableKind, NotDocument, NoTable, Scaled, BadAge, AgeGap, BadRate, TableFault, Bad, NoMemory, fault_at, Node, IsDocument, node_asks, RateElement, first, ok_or, ◌>=>◌, within, rooted, path, rates_in, rates_of, age_of, is_due, InTurn, ReadsAll, ReadsRate, ReadsRated, IsAged, ReadsRow, ReadsRates, first_age, IsUnscaled, IsScale, Parts, parts_of, IsTableBy, table_by_root, SpellsTable, IsTableAnswer, whole_document}
use Rattle.xtbml_subset.specs.declared.class.Class.TheVariants.{White}
use Rattle.xtbml_subset.specs.Classes.{is_in, InClass}
use Rattle.xtbml_subset.specs.Texts.{trimmed}
use Rattle.xtbml_subset.proofs.Final.{fault_due}
use Rattle.basis_shelf.proofs.EitherRate.{Decided, both, either, rate_or_none, is_rate_or_not}

-- a value is right, or a fault at a place is
abbrev pub Answered : {A : Type 0} → (Result A TableFault → Type 0) → Type 0
Answered {A} Is = ((value : A) × Is (Ok value)) ⊎ ((at : ℕ) × (what : TableKind) × Is (Err (Bad at what)))

-- ---- one check after the other

pub in_turn : {A B : Type 0} (First : Result A TableFault → Type 0) (Rest : A → Result B TableFault → Type 0) → Answered First
    → ((value : A) → First (Ok value) → Answered (Rest value)) → Answered (InTurn First Rest)
in_turn First Rest (inl f) more = elim (more f.0 f.1) [
  | inl r ↦ inl (r.0, (Ok f.0, f.1, r.1))
  | inr bad ↦ inr (bad.0, bad.1, (Ok f.0, f.1, bad.2))
]
in_turn First Rest (inr bad) more = inr (bad.0, bad.1, (Err (Bad bad.0 bad.1), bad.2, refl))

pub reads_all : {S A B : Type 0} (One : S → A → Result (S × B) TableFault → Type 0) → ((due : S) (item : A) → Answered (One due item)) → (items : List A) (due : S)
    → Answered (ReadsAll One due items)
reads_all One each [] due = inl ([], refl)
reads_all {S} {A} {B} One each (item ∷ items) due =
    in_turn (One due item) (λ one all. InTurn (λ rest. ReadsAll One one.0 items rest) (λ values whole. whole ≡ Ok (one.1 ∷ values)) all) (each due item)
    (λ one h. in_turn (λ rest. ReadsAll One one.0 items rest) (λ values whole. whole ≡ Ok (one.1 ∷ values)) (reads_all One each items one.0)
    (λ values k. inl (one.1 ∷ values, refl)))

-- ---- the factor

is_true : (b : Bool) → Decided (b ≡ true)
is_true true = inl refl
is_true false = inr (λ e. cc)

white : (text : List ℕ) → Decided (InClass White text)
white [] = inl tt
white (b ∷ text) = both (is_true (is_in White b)) (white text)

unscaled : (text : Option (List ℕ)) → Decided (IsUnscaled text)
unscaled None = inr (λ h. h)
unscaled (Some text) = either (white text) (either (is_rate_or_not (trimmed text) 0) (is_rate_or_not (trimmed text) 1000000000))

scale_by : (row : RateElement) → Decided (IsUnscaled row.text) → Answered (IsScale (Some row))
scale_by row (inl h) = inl (tt, h)
scale_by row (inr scaled) = inr (row.at, Scaled, (scaled, refl))

pub scale : (factor : Option RateElement) → Answered (IsScale factor)
scale None = inl (tt, refl)
scale (Some row) = scale_by row (unscaled row.text)

-- ---- the rows

pub reads : (text : Option (List ℕ)) → (rate : Option ℕ) × ReadsRate text rate
reads None = (None, refl)
reads (Some text) = elim (rate_or_none (trimmed text)) [ inl r ↦ (Some r.0, r.1) | inr none ↦ (None, none) ]

pub rated_by : {S : Type 0} (row : RateElement) (next : S) → (rate : Option ℕ) × ReadsRate row.text rate → Answered (ReadsRated row next)
rated_by row next (None, h) = inr (row.at, BadRate, (None, h, refl))
rated_by row next (Some rate, h) = inl ((next, rate), (Some rate, h, refl))

aged_by : (row : RateElement) (age : ℕ) (is : Bool)
    → Answered (λ (read : Result (Option ℕ × ℕ) TableFault). MatchBool is (ReadsRated row (Some (age + 1)) read) (read ≡ Err (Bad row.at AgeGap)))
aged_by row age true = rated_by row (Some (age + 1)) (reads row.text)
aged_by row age false = inr (row.at, AgeGap, refl)

aged : (due : Option ℕ) (row : RateElement) (age : Option ℕ) → Answered (IsAged due row age)
aged due row None = inr (row.at, BadAge, refl)
aged due row (Some age) = aged_by row age (is_due due age)

row_read : (due : Option ℕ) (row : RateElement) → Answered (ReadsRow due row)
row_read due row = aged due row (age_of row.label)

pub rates : (rows : List RateElement) → Answered (ReadsRates rows)
rates rows =
    in_turn (ReadsAll ReadsRow None rows) (λ (found : List ℕ) (made : Result Rates TableFault). made ≡ Ok (record { first_age = first_age rows; rates = found }))
    (reads_all ReadsRow row_read rows None)
    (λ found h. inl (record { first_age = first_age rows; rates = found }, refl))

-- ---- the path to the rates

-- a fault of the file has a place
abbrev pub IsPlaced : {A : Type 0} → Result A TableFault → Type 0
IsPlaced (Ok value) = Unit {0}
IsPlaced (Err (Bad at what)) = Unit {0}
IsPlaced (Err (NoMemory lack)) = ⊥

pub placed_then : {A B : Type 0} (r : Result A TableFault) (more : A → Result B TableFault) → IsPlaced r → ((value : A) → IsPlaced (more value)) → IsPlaced (r >=> more)
placed_then (Ok value) more h k = k value
placed_then (Err (Bad at what)) more h k = tt
placed_then (Err (NoMemory lack)) more h k = absurd h

placed_first : (at : ℕ) (nodes : List Node) → IsPlaced (ok_or (first nodes) (Bad at NoTable))
placed_first at [] = tt
placed_first at (node ∷ nodes) = tt

placed_within : (name : List ℕ) (parent : Node) → IsPlaced (within node_asks name parent)
unfolding within
placed_within name parent = placed_first (node_asks.row parent).at (node_asks.children name parent)

placed_root : (root : Node) → IsPlaced (rooted node_asks root)
placed_root root = by (bytes_eq root.tag.name (codes "XTbML"))
  where
    by : (b : Bool) → IsPlaced {A = Node} (cond b (Ok root) (Err (Bad (node_asks.row root).at NoTable)))
    by true = tt
    by false = tt

pub placed_path : (root : Node) → IsPlaced (path node_asks root)
unfolding path
placed_path root =
    placed_then (rooted node_asks root >=> λ top. within node_asks (codes "Table") top)
    (λ table. within node_asks (codes "Values") table >=> (λ values. within node_asks (codes "Axis") values) >=> λ axis. Ok (table, axis))
    (placed_then (rooted node_asks root) (λ top. within node_asks (codes "Table") top) (placed_root root) (λ top. placed_within (codes "Table") top))
    (λ table. placed_then (within node_asks (codes "Values") table >=> λ values. within node_asks (codes "Axis") values) (λ axis. Ok (table, axis))
    (placed_then (within node_asks (codes "Values") table) (λ values. within node_asks (codes "Axis") values) (placed_within (codes "Values") table) (λ values. placed_within (codes "Axis") values))
    (λ axis. tt))

placed_in : (axis : Node) (inner rates : List Node) → IsPlaced (rates_in node_asks axis inner rates)
placed_in axis (x ∷ inner) rates = tt
placed_in axis [] [] = tt
placed_in axis [] (rate ∷ rates) = tt

pub placed_rates : (axis : Node) → IsPlaced (rates_of node_asks axis)
unfolding rates_of
placed_rates axis = placed_in axis (node_asks.children (codes "Axis") axis) (node_asks.children (codes "Y") axis)

placed_parts : (root : Node) → IsPlaced (parts_of node_asks root)
placed_parts root = placed_then (path node_asks root) _ (placed_path root) (λ found. placed_then (rates_of node_asks found.1) _ (placed_rates found.1) (λ rates. tt))

-- ---- the table

pub table : (parts : Result Parts TableFault) → IsPlaced parts → Answered (IsTableBy parts)
table (Err (Bad at what)) h = inr (at, what, refl)
table (Err (NoMemory lack)) h = absurd h
table (Ok parts) h = in_turn (IsScale parts.factor) (λ none read. ReadsRates parts.rows read) (scale parts.factor) (λ none s. rates parts.rows)

-- what a file is
abbrev Judged : List ℕ → Type 0
Judged bytes = ((rates : Rates) × SpellsTable bytes rates) ⊎ ((at : ℕ) × (what : TableKind) × IsTableAnswer bytes (Err (Bad at what)))

judged_root : (bytes : List ℕ) (root : Node) → IsDocument bytes root → Answered (IsTableBy (parts_of node_asks root)) → Judged bytes
judged_root bytes root d (inl t) = inl (t.0, (root, d, table_by_root node_asks root (Ok t.0) t.1))
judged_root bytes root d (inr bad) = inr (bad.0, bad.1, inl (root, d, table_by_root node_asks root (Err (Bad bad.0 bad.1)) bad.2))

judged_by : (bytes : List ℕ) (at : Option ℕ) → at ≡ fault_at bytes → Judged bytes
judged_by bytes (Some at) e = inr (at, NotDocument, fault_due bytes at e)
judged_by bytes None e =
    let d = whole_document bytes (sym e) in
    judged_root bytes d.0 d.1 (table (parts_of node_asks d.0) (placed_parts d.0))

pub table_or_fault : (bytes : List ℕ) → Judged bytes
table_or_fault bytes = judged_by bytes (fault_at bytes) refl
