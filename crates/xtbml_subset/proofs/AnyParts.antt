-- By the path that was found and the axes in its axis, which checks are made.
use Rattle.xtbml_subset.proofs.Names.{◌≡◌, ℕ, List, [], ◌∷◌, Result, Ok, Err, refl, sym, ap, subst, ◌∙◌, codes, Rates, Selected, TableFault, Asks, ◌>=>◌, Parts, path, aggregate_parts, parts_of, IsTableBy, in_first, drop, Further, select_parts, IsSelectBy, AnyParts, aggregate, selected, parts_by_axes, any_parts_of, aggregated, as_select, IsAnyBy, Found, children_at, siblings_at, found_asks, ElementPath, hit, IsFirstIn, IsFirstUnder, IsFound}
use Rattle.select_rates.specs.declared.any.AnyTable.TheVariants.{Select, Aggregate}

one_of_either : (answer : Result Rates TableFault) → Further (λ one whole. whole ≡ Ok (Aggregate one)) answer (aggregated answer)
one_of_either (Ok one) = refl
one_of_either (Err fault) = refl

select_of_either : (answer : Result Selected TableFault) → Further (λ one whole. whole ≡ Ok (Select one)) answer (as_select answer)
select_of_either (Ok one) = refl
select_of_either (Err fault) = refl

-- the answer of a table by age alone, as one of either kind
pub lifted : (parts : Result Parts TableFault) (answer : Result Rates TableFault) → IsTableBy parts answer → IsAnyBy (parts >=> λ one. Ok (aggregate one)) (aggregated answer)
lifted (Err fault) answer h = ap (λ (r : Result Rates TableFault). aggregated r) h
lifted (Ok parts) answer h = (answer, h, one_of_either answer)

abbrev any_from : {N : Type 0} → Asks N → N → Result (N × N) TableFault → Result AnyParts TableFault
any_from asks root found = found >=> λ one. parts_by_axes asks root one (asks.children (codes "Axis") one.1)

pub any_pathless : (total : ℕ) (root : Found) (fault : TableFault) → Err fault ≡ path (found_asks total) root → IsAnyBy (any_parts_of (found_asks total) root) (Err fault)
any_pathless total root fault e =
    subst (λ (r : Result (Found × Found) TableFault). IsAnyBy (any_from (found_asks total) root r) (Err fault)) e refl

pub any_selected : (total : ℕ) (root table axis inner : Found) (more others : List Found) (answer : Result Selected TableFault) → Ok (table, axis) ≡ path (found_asks total) root
    → children_at (codes "Axis") axis ≡ inner ∷ more → children_at (codes "Table") root ≡ table ∷ others → IsSelectBy (select_parts (found_asks total) others table axis) answer
    → IsAnyBy (any_parts_of (found_asks total) root) (as_select answer)
any_selected total root table axis inner more others answer e axes tables is =
    let asks = found_asks total in
    let by_tables : IsAnyBy (parts_by_axes asks root (table, axis) (inner ∷ more)) (as_select answer)
    = subst (λ (ts : List Found). IsAnyBy (Ok (selected (select_parts asks (drop 1 ts) table axis))) (as_select answer)) (sym tables) (answer, is, select_of_either answer) in
    let by_axes : IsAnyBy (parts_by_axes asks root (table, axis) (children_at (codes "Axis") axis)) (as_select answer)
    = subst (λ (xs : List Found). IsAnyBy (parts_by_axes asks root (table, axis) xs) (as_select answer)) (sym axes) by_tables in
    subst (λ (r : Result (Found × Found) TableFault). IsAnyBy (any_from asks root r) (as_select answer)) e by_axes

pub any_aggregate : (total : ℕ) (root table axis : Found) (answer : Result Rates TableFault) → Ok (table, axis) ≡ path (found_asks total) root → children_at (codes "Axis") axis ≡ []
    → IsTableBy (parts_of (found_asks total) root) answer → IsAnyBy (any_parts_of (found_asks total) root) (aggregated answer)
any_aggregate total root table axis answer e axes is =
    let asks = found_asks total in
    let here : IsTableBy (aggregate_parts asks (table, axis)) answer
    = subst (λ (r : Result (Found × Found) TableFault). IsTableBy (r >=> λ one. aggregate_parts asks one) answer) (sym e) is in
    let by_axes : IsAnyBy (parts_by_axes asks root (table, axis) (children_at (codes "Axis") axis)) (aggregated answer)
    = subst (λ (xs : List Found). IsAnyBy (parts_by_axes asks root (table, axis) xs) (aggregated answer)) (sym axes) (lifted (aggregate_parts asks (table, axis)) answer here) in
    subst (λ (r : Result (Found × Found) TableFault). IsAnyBy (any_from asks root r) (aggregated answer)) e by_axes

-- ---- what the searches found

pub axes_of_values : (total : ℕ) (root table values axis : Found) (found : ElementPath) → IsFound root found → found.table ≡ hit table → found.values ≡ hit values → found.axis ≡ hit axis
    → in_first (found_asks total) (codes "Axis") (children_at (codes "Values") table) ≡ axis ∷ siblings_at (codes "Axis") axis
axes_of_values total root table values axis found is t v a =
    let under_table : IsFirstIn (codes "Values") table found.values = subst (λ s. IsFirstUnder (codes "Values") s found.values) t is.values in
    let in_table : children_at (codes "Values") table ≡ values ∷ siblings_at (codes "Values") values = subst (λ s. IsFirstIn (codes "Values") table s) v under_table in
    let under_values : IsFirstIn (codes "Axis") values found.axis = subst (λ s. IsFirstUnder (codes "Axis") s found.axis) v is.axis in
    let in_values : children_at (codes "Axis") values ≡ axis ∷ siblings_at (codes "Axis") axis = subst (λ s. IsFirstIn (codes "Axis") values s) a under_values in
    ap (λ (fs : List Found). in_first (found_asks total) (codes "Axis") fs) in_table ∙ in_values

pub tables_of_root : (root table : Found) (found : ElementPath) → IsFound root found → found.table ≡ hit table → children_at (codes "Table") root ≡ table ∷ siblings_at (codes "Table") table
tables_of_root root table found is t = subst (λ s. IsFirstIn (codes "Table") root s) t is.table

pub axes_of_axis : (root axis inner : Found) (found : ElementPath) → IsFound root found → found.axis ≡ hit axis → found.inner ≡ hit inner
    → children_at (codes "Axis") axis ≡ inner ∷ siblings_at (codes "Axis") inner
axes_of_axis root axis inner found is a i =
    let under : IsFirstIn (codes "Axis") axis found.inner = subst (λ s. IsFirstUnder (codes "Axis") s found.inner) a is.inner in
    subst (λ s. IsFirstIn (codes "Axis") axis s) i under
