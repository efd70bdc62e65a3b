-- The checks of a select table find the same of the elements that are found as of the document.
use Rattle.xtbml_subset.proofs.Names.{◌≡◌, ℕ, Bool, true, false, cond, List, [], ◌∷◌, map, Option, Result, Ok, refl, ap, ◌∙◌, codes, TableFault, Found, children_at, row_of, found_asks, Node, named_in, node_row, node_asks, RateElement, ◌>=>◌, path, Parts, in_first, drop, slice_get, is_some, issue_axes, durations_of, filled, Issue, issue_age_of, SelectParts, ultimate_of, select_parts, aggregate, selected, parts_by_axes, any_parts_of}
use Rattle.xtbml_subset.proofs.Matching.{Matches, AllMatch, children_match, row_match}
use Rattle.xtbml_subset.proofs.Judging.{TiedPairs, then_same, equal_by, path_same, in_first_same, factor_same, rows_same, aggregate_same, by_equal}

behind_same : (total : ℕ) (fs : List Found) (ns : List Node) → AllMatch total fs ns → AllMatch total (drop 1 fs) (drop 1 ns)
behind_same total [] [] all = tt
behind_same total [] (n ∷ ns) all = absurd all
behind_same total (f ∷ fs) [] all = absurd all
behind_same total (f ∷ fs) (n ∷ ns) all = all.1

some_same : (total : ℕ) (fs : List Found) (ns : List Node) → AllMatch total fs ns → is_some (slice_get fs 0) ≡ is_some (slice_get ns 0)
some_same total [] [] all = refl
some_same total [] (n ∷ ns) all = absurd all
some_same total (f ∷ fs) [] all = absurd all
some_same total (f ∷ fs) (n ∷ ns) all = refl

cond_same : (total : ℕ) (b c : Bool) (fs gs : List Found) (ns ms : List Node) → b ≡ c → AllMatch total fs ns → AllMatch total gs ms → AllMatch total (cond b fs gs) (cond c ns ms)
cond_same total true true fs gs ns ms e all others = all
cond_same total false false fs gs ns ms e all others = others
cond_same total true false fs gs ns ms e all others = absurd cc
cond_same total false true fs gs ns ms e all others = absurd cc

durations_same : (total : ℕ) (f : Found) (n : Node) → Matches total f n → AllMatch total (durations_of (found_asks total) f) (durations_of node_asks n)
unfolding durations_of
durations_same total f n m =
    let rates = children_match total f n (codes "Y") m in
    cond_same total (is_some (slice_get (children_at (codes "Y") f) 0)) (is_some (slice_get (named_in (codes "Y") n.inner) 0)) (children_at (codes "Y") f)
    (in_first (found_asks total) (codes "Y") (children_at (codes "Axis") f)) (named_in (codes "Y") n.inner) (in_first node_asks (codes "Y") (named_in (codes "Axis") n.inner))
    (some_same total (children_at (codes "Y") f) (named_in (codes "Y") n.inner) rates)
    rates
    (in_first_same total (codes "Y") (children_at (codes "Axis") f) (named_in (codes "Axis") n.inner) (children_match total f n (codes "Axis") m))

abbrev issue_with : RateElement → List RateElement → Issue
issue_with row rates = record { at = row.at; label = row.label; rates = filled rates }

issue_same : (total : ℕ) (f : Found) (n : Node) → Matches total f n → issue_age_of (found_asks total) f ≡ issue_age_of node_asks n
issue_same total f n m =
    let durations = rows_same total (durations_of (found_asks total) f) (durations_of node_asks n) (durations_same total f n m) in
    ap (λ (row : RateElement). issue_with row (map (λ x. row_of total x) (durations_of (found_asks total) f))) (row_match total f n m)
    ∙ ap (λ (rows : List RateElement). issue_with (node_row n) rows) durations

issues_same : (total : ℕ) (fs : List Found) (ns : List Node) → AllMatch total fs ns → map (λ f. issue_age_of (found_asks total) f) fs ≡ map (λ n. issue_age_of node_asks n) ns
issues_same total [] [] all = refl
issues_same total [] (n ∷ ns) all = absurd all
issues_same total (f ∷ fs) [] all = absurd all
issues_same total (f ∷ fs) (n ∷ ns) all =
    ap (λ (issue : Issue). issue ∷ map (λ x. issue_age_of (found_asks total) x) fs) (issue_same total f n all.0)
    ∙ ap (λ (issues : List Issue). issue_age_of node_asks n ∷ issues) (issues_same total fs ns all.1)

axes_same : (total : ℕ) (table axis : Found) (node_table node_axis : Node) → Matches total table node_table → Matches total axis node_axis
    → AllMatch total (issue_axes (found_asks total) table axis) (issue_axes node_asks node_table node_axis)
unfolding issue_axes
axes_same total table axis node_table node_axis t a =
    cond_same total (is_some (row_of total axis).label) (is_some (node_row node_axis).label)
    (in_first (found_asks total) (codes "Axis") (children_at (codes "Values") table)) (children_at (codes "Axis") axis)
    (in_first node_asks (codes "Axis") (named_in (codes "Values") node_table.inner)) (named_in (codes "Axis") node_axis.inner)
    (ap (λ (row : RateElement). is_some row.label) (row_match total axis node_axis a))
    (in_first_same total (codes "Axis") (children_at (codes "Values") table) (named_in (codes "Values") node_table.inner) (children_match total table node_table (codes "Values") t))
    (children_match total axis node_axis (codes "Axis") a)

ultimate_same : (total : ℕ) (fs : List Found) (ns : List Node) → AllMatch total fs ns
    → map (λ x. row_of total x) (ultimate_of (found_asks total) fs) ≡ map (λ x. node_row x) (ultimate_of node_asks ns)
unfolding ultimate_of
ultimate_same total fs ns all =
    let values = in_first_same total (codes "Values") fs ns all in
    let axes = in_first_same total (codes "Axis") (in_first (found_asks total) (codes "Values") fs) (in_first node_asks (codes "Values") ns) values in
    rows_same total (in_first (found_asks total) (codes "Y") (in_first (found_asks total) (codes "Axis") (in_first (found_asks total) (codes "Values") fs)))
    (in_first node_asks (codes "Y") (in_first node_asks (codes "Axis") (in_first node_asks (codes "Values") ns)))
    (in_first_same total (codes "Y") (in_first (found_asks total) (codes "Axis") (in_first (found_asks total) (codes "Values") fs))
    (in_first node_asks (codes "Axis") (in_first node_asks (codes "Values") ns)) axes)

abbrev parts_with : ℕ → Option RateElement → Option RateElement → List Issue → List RateElement → SelectParts
parts_with at factor ultimate_factor issues ultimate =
    record { at = at; factor = factor; ultimate_factor = ultimate_factor; issues = issues; ultimate = ultimate }

select_same : (total : ℕ) (fs : List Found) (table axis : Found) (ns : List Node) (node_table node_axis : Node) → AllMatch total fs ns → Matches total table node_table → Matches total axis node_axis
    → select_parts (found_asks total) fs table axis ≡ select_parts node_asks ns node_table node_axis
select_same total fs table axis ns node_table node_axis all t a =
    let at = ap (λ (row : RateElement). row.at) (row_match total table node_table t) in
    let factors = factor_same total (table ∷ []) (node_table ∷ []) (t, tt) in
    let seconds = factor_same total fs ns all in
    let issues = issues_same total (issue_axes (found_asks total) table axis) (issue_axes node_asks node_table node_axis) (axes_same total table axis node_table node_axis t a) in
    let rates = ultimate_same total fs ns all in
    let given = select_parts (found_asks total) fs table axis in
    let wanted = select_parts node_asks ns node_table node_axis in
    let whole : parts_with given.at given.factor given.ultimate_factor given.issues given.ultimate
    ≡ parts_with wanted.at wanted.factor wanted.ultimate_factor wanted.issues wanted.ultimate = cc in
    whole

by_axes_same : (total : ℕ) (f : Found) (node : Node) (fs : Found × Found) (ns : Node × Node) (axes : List Found) (node_axes : List Node) → Matches total f node → TiedPairs total fs ns → AllMatch total axes node_axes
    → parts_by_axes (found_asks total) f fs axes ≡ parts_by_axes node_asks node ns node_axes
by_axes_same total f node fs ns [] [] m tied all = ap (λ (r : Result Parts TableFault). r >=> λ parts. Ok (aggregate parts)) (aggregate_same total fs ns tied)
by_axes_same total f node fs ns [] (n ∷ node_axes) m tied all = absurd all
by_axes_same total f node fs ns (x ∷ axes) [] m tied all = absurd all
by_axes_same total f node fs ns (x ∷ axes) (n ∷ node_axes) m tied all =
    ap (λ (parts : SelectParts). Ok (selected parts))
    (select_same total (drop 1 (children_at (codes "Table") f)) fs.0 fs.1 (drop 1 (named_in (codes "Table") node.inner)) ns.0 ns.1
    (behind_same total (children_at (codes "Table") f) (named_in (codes "Table") node.inner) (children_match total f node (codes "Table") m)) tied.0 tied.1)

pub any_same : (total : ℕ) (f : Found) (node : Node) → Matches total f node → any_parts_of (found_asks total) f ≡ any_parts_of node_asks node
any_same total f node m =
    equal_by (any_parts_of (found_asks total) f) (any_parts_of node_asks node)
    (then_same (TiedPairs total) (λ a b. a ≡ b) (path (found_asks total) f) (path node_asks node)
    (λ found. parts_by_axes (found_asks total) f found (children_at (codes "Axis") found.1))
    (λ found. parts_by_axes node_asks node found (named_in (codes "Axis") found.1.inner))
    (path_same total f node m)
    (λ fs ns tied. by_equal (parts_by_axes (found_asks total) f fs (children_at (codes "Axis") fs.1)) (parts_by_axes node_asks node ns (named_in (codes "Axis") ns.1.inner))
    (by_axes_same total f node fs ns (children_at (codes "Axis") fs.1) (named_in (codes "Axis") ns.1.inner) m tied (children_match total fs.1 ns.1 (codes "Axis") tied.1))))
