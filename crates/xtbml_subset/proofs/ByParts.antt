-- The answer for a root is the answer by what is left of its document.
use Rattle.xtbml_subset.proofs.Names.{◌≡◌, ℕ, List, [], ◌∷◌, Result, Ok, Err, map, refl, sym, subst, codes, MatchOption, MatchResult, slice_get, drop, Rates, AnyTable, NoTable, TableFault, Bad, Asks, factor_of, ultimate_of, InTurn, ReadsRates, IsScale, IsSelectTable, first_child, IsAggregateTable, IsTable, IsAnyTable, ◌>=>◌, within, rooted, path, rates_in, rates_of, Parts, parts_of, aggregate_parts, IsTableBy, AnyParts, aggregate, parts_by_axes, any_parts_of, IsAnyBy}
use Rattle.select_rates.specs.declared.any.AnyTable.TheVariants.{Select, Aggregate}
use Rattle.xtbml_subset.specs.declared.fault.TableKind.TheVariants as kind

-- ---- the path

child_within : {N : Type 0} (asks : Asks N) (name : List ℕ) (found : Result N TableFault) → first_child asks name found ≡ (found >=> λ parent. within asks name parent)
unfolding within
child_within asks name (Ok parent) = refl
child_within asks name (Err fault) = refl

abbrev first_table : {N : Type 0} → Asks N → N → Result N TableFault
first_table asks root = first_child asks (codes "Table") (rooted asks root)

abbrev first_axis : {N : Type 0} → Asks N → N → Result N TableFault
first_axis asks table = first_child asks (codes "Axis") (first_child asks (codes "Values") (Ok table))

abbrev both : {N : Type 0} → Result N TableFault → (N → Result N TableFault) → Result (N × N) TableFault
both table axis_of = table >=> λ one. axis_of one >=> λ axis. Ok (one, axis)

same_path : {N : Type 0} (asks : Asks N) (root : N) → both (first_table asks root) (first_axis asks) ≡ path asks root
unfolding path within
same_path asks root = λ i.
    child_within asks (codes "Table") (rooted asks root) i
    >=> λ table. child_within asks (codes "Axis") (within asks (codes "Values") table) i >=> λ axis. Ok (table, axis)

-- ---- by the axes in the axis

abbrev ByAxes : {N : Type 0} → Asks N → N → N → N → List N → Result AnyTable TableFault → Type 0
ByAxes asks root table axis axes answer =
    MatchOption (slice_get axes 0)
    (InTurn (IsAggregateTable asks table axis) (λ one whole. whole ≡ Ok (Aggregate one)) answer)
    (λ inner. InTurn (IsSelectTable asks (drop 1 (asks.children (codes "Table") root)) table axis) (λ one whole. whole ≡ Ok (Select one)) answer)

abbrev OneOf : Result AnyTable TableFault → Result Rates TableFault → Type 0
OneOf answer one = MatchResult one (λ table. answer ≡ Ok (Aggregate table)) (λ fault. answer ≡ Err fault)

parts_in : (parts : Result Parts TableFault) (answer : Result AnyTable TableFault) → (one : Result Rates TableFault) × IsTableBy parts one × OneOf answer one
    → IsAnyBy (parts >=> λ p. Ok (aggregate p)) answer
parts_in (Err fault) answer h = subst (OneOf answer) h.1 h.2
parts_in (Ok parts) answer h = h

parts_out : (parts : Result Parts TableFault) (answer : Result AnyTable TableFault) → IsAnyBy (parts >=> λ p. Ok (aggregate p)) answer
    → (one : Result Rates TableFault) × IsTableBy parts one × OneOf answer one
parts_out (Err fault) answer h = (Err fault, refl, h)
parts_out (Ok parts) answer h = h

abbrev with_rates : {N : Type 0} → Asks N → N → Result (List N) TableFault → Result Parts TableFault
with_rates asks table rates = rates >=> λ ys. Ok (record { factor = factor_of asks (table ∷ []); rows = map (λ node. asks.row node) ys })

abbrev ByRates : {N : Type 0} → Asks N → N → N → List N → Result Rates TableFault → Type 0
ByRates asks table axis ys one =
    MatchOption (slice_get ys 0) (one ≡ Err (Bad (asks.row axis).at NoTable))
    (λ first. InTurn (IsScale (factor_of asks (table ∷ []))) (λ none read. ReadsRates (map (λ node. asks.row node) ys) read) one)

rates_to : {N : Type 0} (asks : Asks N) (table axis : N) (ys : List N) (one : Result Rates TableFault) → ByRates asks table axis ys one → IsTableBy (with_rates asks table (rates_in asks axis [] ys)) one
rates_to asks table axis [] one h = h
rates_to asks table axis (y ∷ ys) one h = h

rates_from : {N : Type 0} (asks : Asks N) (table axis : N) (ys : List N) (one : Result Rates TableFault) → IsTableBy (with_rates asks table (rates_in asks axis [] ys)) one → ByRates asks table axis ys one
rates_from asks table axis [] one h = h
rates_from asks table axis (y ∷ ys) one h = h

no_axes : {N : Type 0} (asks : Asks N) (table axis : N) → asks.children (codes "Axis") axis ≡ []
    → with_rates asks table (rates_in asks axis [] (asks.children (codes "Y") axis)) ≡ aggregate_parts asks (table, axis)
unfolding rates_of
no_axes {N} asks table axis e =
    subst (λ (axes : List N). with_rates asks table (rates_in asks axis [] (asks.children (codes "Y") axis)) ≡ with_rates asks table (rates_in asks axis axes (asks.children (codes "Y") axis)))
    (sym e) refl

-- an axis in the axis says that the table is select
pub axes_refused : {N : Type 0} (asks : Asks N) (found : N × N) (inner : N) (more : List N) → asks.children (codes "Axis") found.1 ≡ inner ∷ more
    → aggregate_parts asks found ≡ Err (Bad (asks.row inner).at kind.Select)
unfolding rates_of
axes_refused asks found inner more e = rw e refl

abbrev ByAxis : {N : Type 0} → Asks N → N → N → List N → Result Rates TableFault → Type 0
ByAxis asks table axis axes answer = MatchOption (slice_get axes 0) (IsAggregateTable asks table axis answer) (λ inner. answer ≡ Err (Bad (asks.row inner).at kind.Select))

axes_to : {N : Type 0} (asks : Asks N) (root table axis : N) (axes : List N) (answer : Result AnyTable TableFault) → asks.children (codes "Axis") axis ≡ axes
    → ByAxes asks root table axis axes answer → IsAnyBy (parts_by_axes asks root (table, axis) axes) answer
unfolding ultimate_of
axes_to asks root table axis [] answer e h =
    let is = rates_to asks table axis (asks.children (codes "Y") axis) h.0 h.1 in
    parts_in (aggregate_parts asks (table, axis)) answer
    (h.0, subst (λ (parts : Result Parts TableFault). IsTableBy parts h.0) (no_axes asks table axis e) is, h.2)
axes_to asks root table axis (inner ∷ more) answer e h = h

axes_from : {N : Type 0} (asks : Asks N) (root table axis : N) (axes : List N) (answer : Result AnyTable TableFault) → asks.children (codes "Axis") axis ≡ axes
    → IsAnyBy (parts_by_axes asks root (table, axis) axes) answer → ByAxes asks root table axis axes answer
unfolding ultimate_of
axes_from asks root table axis [] answer e h =
    let o = parts_out (aggregate_parts asks (table, axis)) answer h in
    let is = subst (λ (parts : Result Parts TableFault). IsTableBy parts o.0) (sym (no_axes asks table axis e)) o.1 in
    (o.0, rates_from asks table axis (asks.children (codes "Y") axis) o.0 is, o.2)
axes_from asks root table axis (inner ∷ more) answer e h = h

axis_to : {N : Type 0} (asks : Asks N) (table axis : N) (axes : List N) (answer : Result Rates TableFault) → asks.children (codes "Axis") axis ≡ axes
    → ByAxis asks table axis axes answer → IsTableBy (aggregate_parts asks (table, axis)) answer
axis_to asks table axis [] answer e h =
    subst (λ (parts : Result Parts TableFault). IsTableBy parts answer) (no_axes asks table axis e) (rates_to asks table axis (asks.children (codes "Y") axis) answer h)
axis_to asks table axis (inner ∷ more) answer e h =
    subst (λ (parts : Result Parts TableFault). IsTableBy parts answer) (sym (axes_refused asks (table, axis) inner more e)) h

axis_from : {N : Type 0} (asks : Asks N) (table axis : N) (axes : List N) (answer : Result Rates TableFault) → asks.children (codes "Axis") axis ≡ axes
    → IsTableBy (aggregate_parts asks (table, axis)) answer → ByAxis asks table axis axes answer
axis_from asks table axis [] answer e h =
    rates_from asks table axis (asks.children (codes "Y") axis) answer (subst (λ (parts : Result Parts TableFault). IsTableBy parts answer) (sym (no_axes asks table axis e)) h)
axis_from asks table axis (inner ∷ more) answer e h =
    subst (λ (parts : Result Parts TableFault). IsTableBy parts answer) (axes_refused asks (table, axis) inner more e) h

-- ---- by the path

abbrev Found : {N A : Type 0} → Result N TableFault → (N → Result N TableFault) → (N → N → Type 0) → Result A TableFault → Type 0
Found table axis_of Holds answer =
    MatchResult table (λ one. MatchResult (axis_of one) (λ axis. Holds one axis) (λ fault. answer ≡ Err fault)) (λ fault. answer ≡ Err fault)

path_to : {N A P : Type 0} (By : Result P TableFault → Type 0) (Holds : N → N → Type 0) (answer : Result A TableFault) (table : Result N TableFault) (axis_of : N → Result N TableFault)
    (parts : N × N → Result P TableFault) → ((fault : TableFault) → answer ≡ Err fault → By (Err fault)) → ((one axis : N) → Holds one axis → By (parts (one, axis)))
    → Found table axis_of Holds answer → By (both table axis_of >=> parts)
path_to By Holds answer (Err fault) axis_of parts stops goes h = stops fault h
path_to {N} By Holds answer (Ok one) axis_of parts stops goes h = at (axis_of one) h
  where
    at : (axis : Result N TableFault) → MatchResult axis (λ found. Holds one found) (λ fault. answer ≡ Err fault) → By ((axis >=> λ found. Ok (one, found)) >=> parts)
    at (Ok axis) k = goes one axis k
    at (Err fault) k = stops fault k

path_from : {N A P : Type 0} (By : Result P TableFault → Type 0) (Holds : N → N → Type 0) (answer : Result A TableFault) (table : Result N TableFault) (axis_of : N → Result N TableFault)
    (parts : N × N → Result P TableFault) → ((fault : TableFault) → By (Err fault) → answer ≡ Err fault) → ((one axis : N) → By (parts (one, axis)) → Holds one axis)
    → By (both table axis_of >=> parts) → Found table axis_of Holds answer
path_from By Holds answer (Err fault) axis_of parts stops goes h = stops fault h
path_from {N} By Holds answer (Ok one) axis_of parts stops goes h = at (axis_of one) h
  where
    at : (axis : Result N TableFault) → By ((axis >=> λ found. Ok (one, found)) >=> parts) → MatchResult axis (λ found. Holds one found) (λ fault. answer ≡ Err fault)
    at (Ok axis) k = goes one axis k
    at (Err fault) k = stops fault k

-- ---- of either kind

abbrev parts_at : {N : Type 0} → Asks N → N → N × N → Result AnyParts TableFault
parts_at asks root found = parts_by_axes asks root found (asks.children (codes "Axis") found.1)

pub by_parts : {N : Type 0} (asks : Asks N) (root : N) (answer : Result AnyTable TableFault) → IsAnyTable asks root answer → IsAnyBy (any_parts_of asks root) answer
by_parts {N} asks root answer h =
    subst (λ (found : Result (N × N) TableFault). IsAnyBy (found >=> parts_at asks root) answer) (same_path asks root)
    (path_to (λ parts. IsAnyBy parts answer) (λ table axis. ByAxes asks root table axis (asks.children (codes "Axis") axis) answer) answer (first_table asks root) (first_axis asks) (parts_at asks root)
    (λ fault e. e) (λ table axis k. axes_to asks root table axis (asks.children (codes "Axis") axis) answer refl k) h)

pub by_root : {N : Type 0} (asks : Asks N) (root : N) (answer : Result AnyTable TableFault) → IsAnyBy (any_parts_of asks root) answer → IsAnyTable asks root answer
by_root {N} asks root answer h =
    path_from (λ parts. IsAnyBy parts answer) (λ table axis. ByAxes asks root table axis (asks.children (codes "Axis") axis) answer) answer (first_table asks root) (first_axis asks) (parts_at asks root)
    (λ fault e. e) (λ table axis k. axes_from asks root table axis (asks.children (codes "Axis") axis) answer refl k)
    (subst (λ (found : Result (N × N) TableFault). IsAnyBy (found >=> parts_at asks root) answer) (sym (same_path asks root)) h)

-- ---- by age alone

pub table_by_parts : {N : Type 0} (asks : Asks N) (root : N) (answer : Result Rates TableFault) → IsTable asks root answer → IsTableBy (parts_of asks root) answer
table_by_parts {N} asks root answer h =
    subst (λ (found : Result (N × N) TableFault). IsTableBy (found >=> λ one. aggregate_parts asks one) answer) (same_path asks root)
    (path_to (λ parts. IsTableBy parts answer) (λ table axis. ByAxis asks table axis (asks.children (codes "Axis") axis) answer) answer (first_table asks root) (first_axis asks) (λ one. aggregate_parts asks one)
    (λ fault e. e) (λ table axis k. axis_to asks table axis (asks.children (codes "Axis") axis) answer refl k) h)

pub table_by_root : {N : Type 0} (asks : Asks N) (root : N) (answer : Result Rates TableFault) → IsTableBy (parts_of asks root) answer → IsTable asks root answer
table_by_root {N} asks root answer h =
    path_from (λ parts. IsTableBy parts answer) (λ table axis. ByAxis asks table axis (asks.children (codes "Axis") axis) answer) answer (first_table asks root) (first_axis asks) (λ one. aggregate_parts asks one)
    (λ fault e. e) (λ table axis k. axis_from asks table axis (asks.children (codes "Axis") axis) answer refl k)
    (subst (λ (found : Result (N × N) TableFault). IsTableBy (found >=> λ one. aggregate_parts asks one) answer) (sym (same_path asks root)) h)
