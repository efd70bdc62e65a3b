-- The checks find the same of the elements that are found as of the document, and one answer.
use Rattle.xtbml_subset.proofs.Names.{◌≡◌, ℕ, ◌+◌, Bool, true, false, cond, List, [], ◌∷◌, map, Option, Some, None, Result, Ok, Err, refl, sym, ap, subst, ◌∙◌, codes, MatchBool, bytes_eq, Rates, NoTable, Select, TableFault, Bad, trimmed, Tag, Found, children_at, row_of, found_asks, Node, named_in, node_row, node_asks, RateElement, first, ◌>=>◌, option_map, ok_or, within, rooted, path, rates_in, rates_of, in_first, factor_of, age_of, is_due, ReadsRate, rated, IsAged, ReadsAll, ReadsRow, ReadsRates, IsScale, Parts, aggregate_parts, parts_of, first_age, IsTableBy}
use Rattle.decimal_text.proofs.CallerLemmas.{one_rate}
use Rattle.xtbml_subset.proofs.Matching.{Matches, AllMatch, children_match, row_match}
use Rattle.xtbml_subset.proofs.ReadingRuns.{Single, then_single, all_single}

-- ---- what is found is what the document has

-- both are values that are tied, or one fault
abbrev pub SameBy : {A B : Type 0} → (A → B → Type 0) → Result A TableFault → Result B TableFault → Type 0
SameBy R (Ok a) (Ok b) = R a b
SameBy R (Err e) (Err f) = e ≡ f
SameBy R (Ok a) (Err f) = ⊥
SameBy R (Err e) (Ok b) = ⊥

pub then_same : {A B C D : Type 0} (R : A → B → Type 0) (S : C → D → Type 0) (r : Result A TableFault) (s : Result B TableFault)
    (k : A → Result C TableFault) (l : B → Result D TableFault) → SameBy R r s → ((a : A) (b : B) → R a b → SameBy S (k a) (l b)) → SameBy S (r >=> k) (s >=> l)
then_same R S (Ok a) (Ok b) k l same more = more a b same
then_same R S (Err e) (Err f) k l same more = same
then_same R S (Ok a) (Err f) k l same more = absurd same
then_same R S (Err e) (Ok b) k l same more = absurd same

pub equal_by : {A : Type 0} (r s : Result A TableFault) → SameBy (λ a b. a ≡ b) r s → r ≡ s
equal_by (Ok a) (Ok b) same = cc
equal_by (Err e) (Err f) same = cc
equal_by (Ok a) (Err f) same = absurd same
equal_by (Err e) (Ok b) same = absurd same

abbrev Tied : ℕ → Found → Node → Type 0
Tied total f node = Matches total f node

first_same : (total : ℕ) (fs : List Found) (ns : List Node) (e f : TableFault) → AllMatch total fs ns → e ≡ f → SameBy (Tied total) (ok_or (first fs) e) (ok_or (first ns) f)
first_same total [] [] e f all same = same
first_same total [] (n ∷ ns) e f all same = absurd all
first_same total (x ∷ fs) [] e f all same = absurd all
first_same total (x ∷ fs) (n ∷ ns) e f all same = all.0

place_same : (total : ℕ) (f : Found) (node : Node) → Matches total f node → (row_of total f).at ≡ (node_row node).at
place_same total f node m = m.at_is

within_same : (total : ℕ) (name : List ℕ) (f : Found) (node : Node) → Matches total f node → SameBy (Tied total) (within (found_asks total) name f) (within node_asks name node)
unfolding within
within_same total name f node m =
    first_same total (children_at name f) (named_in name node.inner) (Bad (row_of total f).at NoTable) (Bad (node_row node).at NoTable) (children_match total f node name m)
    (ap (λ (n : ℕ). Bad n NoTable) m.at_is)

rooted_same : (total : ℕ) (f : Found) (node : Node) → Matches total f node → SameBy (Tied total) (rooted (found_asks total) f) (rooted node_asks node)
rooted_same total f node m =
    let P : Bool → Type 0 = λ t. bytes_eq node.tag.name (codes "XTbML") ≡ t
    → SameBy (Tied total) (cond (bytes_eq f.tag.name (codes "XTbML")) (Ok f) (Err (Bad (row_of total f).at NoTable))) (cond t (Ok node) (Err (Bad (node_row node).at NoTable))) in
    let names : bytes_eq f.tag.name (codes "XTbML") ≡ bytes_eq node.tag.name (codes "XTbML") = ap (λ (tag : Tag). bytes_eq tag.name (codes "XTbML")) m.tag_is in
    let faults : Bad (row_of total f).at NoTable ≡ Bad (node_row node).at NoTable = ap (λ (n : ℕ). Bad n NoTable) m.at_is in
    let both : P (bytes_eq node.tag.name (codes "XTbML")) = elim (bytes_eq node.tag.name (codes "XTbML")) as P [
      | true ↦ λ e.
          let t = names ∙ e in
          subst (λ (b : Bool). SameBy (Tied total) (cond b (Ok f) (Err (Bad (row_of total f).at NoTable))) (Ok node)) (sym t) m
      | false ↦ λ e.
          let t = names ∙ e in
          subst (λ (b : Bool). SameBy (Tied total) (cond b (Ok f) (Err (Bad (row_of total f).at NoTable))) (Err (Bad (node_row node).at NoTable))) (sym t) faults
    ] in
    both refl

abbrev pub TiedPairs : ℕ → Found × Found → Node × Node → Type 0
TiedPairs total fs ns = Matches total fs.0 ns.0 × Matches total fs.1 ns.1

pub path_same : (total : ℕ) (f : Found) (node : Node) → Matches total f node → SameBy (TiedPairs total) (path (found_asks total) f) (path node_asks node)
unfolding path
path_same total f node m =
    then_same (Tied total) (TiedPairs total)
    (rooted (found_asks total) f >=> λ top. within (found_asks total) (codes "Table") top)
    (rooted node_asks node >=> λ top. within node_asks (codes "Table") top)
    (λ table. within (found_asks total) (codes "Values") table >=> (λ values. within (found_asks total) (codes "Axis") values) >=> λ axis. Ok (table, axis))
    (λ table. within node_asks (codes "Values") table >=> (λ values. within node_asks (codes "Axis") values) >=> λ axis. Ok (table, axis))
    (then_same (Tied total) (Tied total) (rooted (found_asks total) f) (rooted node_asks node) (λ top. within (found_asks total) (codes "Table") top) (λ top. within node_asks (codes "Table") top)
    (rooted_same total f node m) (λ a b t. within_same total (codes "Table") a b t))
    (λ table node_table tied.
    then_same (Tied total) (TiedPairs total)
    (within (found_asks total) (codes "Values") table >=> λ values. within (found_asks total) (codes "Axis") values)
    (within node_asks (codes "Values") node_table >=> λ values. within node_asks (codes "Axis") values)
    (λ axis. Ok (table, axis))
    (λ axis. Ok (node_table, axis))
    (then_same (Tied total) (Tied total) (within (found_asks total) (codes "Values") table) (within node_asks (codes "Values") node_table)
    (λ values. within (found_asks total) (codes "Axis") values) (λ values. within node_asks (codes "Axis") values)
    (within_same total (codes "Values") table node_table tied) (λ a b t. within_same total (codes "Axis") a b t))
    (λ a b t. (tied, t)))

rates_in_same : (total : ℕ) (f : Found) (node : Node) (inner ys : List Found) (node_inner node_ys : List Node) → Matches total f node → AllMatch total inner node_inner → AllMatch total ys node_ys
    → SameBy (AllMatch total) (rates_in (found_asks total) f inner ys) (rates_in node_asks node node_inner node_ys)
rates_in_same total f node [] [] [] [] m all_inner all = ap (λ (n : ℕ). Bad n NoTable) m.at_is
rates_in_same total f node [] (y ∷ ys) [] (n ∷ ns) m all_inner all = all
rates_in_same total f node [] [] [] (n ∷ ns) m all_inner all = absurd all
rates_in_same total f node [] (y ∷ ys) [] [] m all_inner all = absurd all
rates_in_same total f node (x ∷ inner) ys (n ∷ ns) node_ys m all_inner all = ap (λ (k : ℕ). Bad k Select) all_inner.0.at_is
rates_in_same total f node [] ys (n ∷ ns) node_ys m all_inner all = absurd all_inner
rates_in_same total f node (x ∷ inner) ys [] node_ys m all_inner all = absurd all_inner

rates_same : (total : ℕ) (f : Found) (node : Node) → Matches total f node → SameBy (AllMatch total) (rates_of (found_asks total) f) (rates_of node_asks node)
unfolding rates_of
rates_same total f node m =
    rates_in_same total f node (children_at (codes "Axis") f) (children_at (codes "Y") f) (named_in (codes "Axis") node.inner) (named_in (codes "Y") node.inner) m
    (children_match total f node (codes "Axis") m) (children_match total f node (codes "Y") m)

first_row : (total : ℕ) (fs : List Found) (ns : List Node) → AllMatch total fs ns
    → option_map (λ f. row_of total f) (first fs) ≡ option_map (λ n. node_row n) (first ns)
first_row total [] [] all = refl
first_row total [] (n ∷ ns) all = absurd all
first_row total (f ∷ fs) [] all = absurd all
first_row total (f ∷ fs) (n ∷ ns) all = ap (λ (row : RateElement). Some row) (row_match total f n all.0)

pub in_first_same : (total : ℕ) (name : List ℕ) (fs : List Found) (ns : List Node) → AllMatch total fs ns → AllMatch total (in_first (found_asks total) name fs) (in_first node_asks name ns)
in_first_same total name [] [] all = tt
in_first_same total name [] (n ∷ ns) all = absurd all
in_first_same total name (f ∷ fs) [] all = absurd all
in_first_same total name (f ∷ fs) (n ∷ ns) all = children_match total f n name all.0

pub factor_same : (total : ℕ) (fs : List Found) (ns : List Node) → AllMatch total fs ns → factor_of (found_asks total) fs ≡ factor_of node_asks ns
unfolding factor_of
factor_same total fs ns all =
    let about = in_first_same total (codes "MetaData") fs ns all in
    first_row total (in_first (found_asks total) (codes "ScalingFactor") (in_first (found_asks total) (codes "MetaData") fs))
    (in_first node_asks (codes "ScalingFactor") (in_first node_asks (codes "MetaData") ns))
    (in_first_same total (codes "ScalingFactor") (in_first (found_asks total) (codes "MetaData") fs) (in_first node_asks (codes "MetaData") ns) about)

pub rows_same : (total : ℕ) (fs : List Found) (ns : List Node) → AllMatch total fs ns → map (λ f. row_of total f) fs ≡ map (λ n. node_row n) ns
rows_same total [] [] all = refl
rows_same total [] (n ∷ ns) all = absurd all
rows_same total (f ∷ fs) [] all = absurd all
rows_same total (f ∷ fs) (n ∷ ns) all =
    let one = row_match total f n all.0 in
    let others = rows_same total fs ns all.1 in
    cc

pub aggregate_same : (total : ℕ) (fs : Found × Found) (ns : Node × Node) → TiedPairs total fs ns → aggregate_parts (found_asks total) fs ≡ aggregate_parts node_asks ns
aggregate_same total fs ns tied =
    equal_by (aggregate_parts (found_asks total) fs) (aggregate_parts node_asks ns)
    (then_same (AllMatch total) (λ a b. a ≡ b) (rates_of (found_asks total) fs.1) (rates_of node_asks ns.1)
    (λ rates. Ok (record { factor = factor_of (found_asks total) (fs.0 ∷ []); rows = map (λ x. row_of total x) rates }))
    (λ rates. Ok (record { factor = factor_of node_asks (ns.0 ∷ []); rows = map (λ x. node_row x) rates }))
    (rates_same total fs.1 ns.1 tied.1)
    (λ a b all.
    let factors = factor_same total (fs.0 ∷ []) (ns.0 ∷ []) (tied.0, tt) in
    let rows = rows_same total a b all in
    cc))

-- one value or fault is tied to itself
pub by_equal : {A : Type 0} (r s : Result A TableFault) → r ≡ s → SameBy (λ a b. a ≡ b) r s
by_equal (Ok a) (Ok b) e = cc
by_equal (Ok a) (Err b) e = absurd cc
by_equal (Err a) (Ok b) e = absurd cc
by_equal (Err a) (Err b) e = cc

pub parts_same : (total : ℕ) (f : Found) (node : Node) → Matches total f node → parts_of (found_asks total) f ≡ parts_of node_asks node
parts_same total f node m =
    equal_by (parts_of (found_asks total) f) (parts_of node_asks node)
    (then_same (TiedPairs total) (λ a b. a ≡ b) (path (found_asks total) f) (path node_asks node)
    (λ found. aggregate_parts (found_asks total) found)
    (λ found. aggregate_parts node_asks found)
    (path_same total f node m)
    (λ fs ns tied. by_equal (aggregate_parts (found_asks total) fs) (aggregate_parts node_asks ns) (aggregate_same total fs ns tied)))

-- ---- one answer

pub reads_one : (text : Option (List ℕ)) (o p : Option ℕ) → ReadsRate text o → ReadsRate text p → o ≡ p
reads_one None o p a b = a ∙ sym b
reads_one (Some text) None None a b = refl
reads_one (Some text) None (Some q) a b = absurd (a q b)
reads_one (Some text) (Some r) None a b = absurd (b r a)
reads_one (Some text) (Some r) (Some q) a b = ap (λ (n : ℕ). Some n) (one_rate (trimmed text) r q a b)

pub by_bool : (t : Bool) (P Q R S : Type 0) (X : Type 0) → MatchBool t P Q → MatchBool t R S → (P → R → X) → (Q → S → X) → X
by_bool true P Q R S X a b holds other = holds a b
by_bool false P Q R S X a b holds other = other a b

aged_one : (due : Option ℕ) (row : RateElement) (age : Option ℕ) → Single (IsAged due row age)
aged_one due row None a b h k = h ∙ sym k
aged_one due row (Some age) a b h k =
    by_bool (is_due due age) _ _ _ _ (a ≡ b) h k
    (λ x y. x.2 ∙ ap (λ (o : Option ℕ). rated row.at (Some (age + 1)) o) (reads_one row.text x.0 y.0 x.1 y.1) ∙ sym y.2)
    (λ x y. x ∙ sym y)

pub rates_single : (rows : List RateElement) → Single (ReadsRates rows)
rates_single rows =
    then_single (λ one. ReadsAll ReadsRow None rows one) (λ (rates : List ℕ) (made : Result Rates TableFault). made ≡ Ok (record { first_age = first_age rows; rates = rates }))
    (all_single ReadsRow (λ due row. aged_one due row (age_of row.label)) rows None)
    (λ rates x y p q. p ∙ sym q)

pub scale_one : (factor : Option RateElement) (a b : Result (Unit {0}) TableFault) → IsScale factor a → IsScale factor b → a ≡ b
scale_one None a b h k = h ∙ sym k
scale_one (Some row) (Ok x) (Ok y) h k = refl
scale_one (Some row) (Ok x) (Err f) h k = absurd (k.0 h)
scale_one (Some row) (Err e) (Ok y) h k = absurd (h.0 k)
scale_one (Some row) (Err e) (Err f) h k = let same : e ≡ f = h.1 ∙ sym k.1 in ap (λ (x : TableFault). Err x) same

pub table_one : (parts : Result Parts TableFault) → Single (IsTableBy parts)
table_one (Err fault) = λ a b h k. h ∙ sym k
table_one (Ok parts) = then_single (λ one. IsScale parts.factor one) (λ none read. ReadsRates parts.rows read) (scale_one parts.factor) (λ none. rates_single parts.rows)
