-- That a table is select is no fault of a table of either kind.
use Rattle.basis_shelf.proofs.Names.{◌≡◌, ◌⊎◌, inl, inr, ℕ, ◌+◌, Bool, true, false, cond, List, [], ◌∷◌, Option, Some, None, Result, Ok, Err, refl, sym, subst, codes, MatchBool, bytes_eq, Rates, AnyTable, NotDocument, NoTable, Scaled, BadAge, AgeGap, BadRate, BadDuration, NoUltimate, UltimateGap, TableFault, Bad, NoMemory, Node, node_asks, RateElement, first, ok_or, ◌>=>◌, within, rooted, path, rates_in, rates_of, aggregate_parts, age_of, is_due, InTurn, ReadsAll, short_number, ◌>>=◌, ReadsRated, rated, IsAged, ReadsRow, ReadsRates, first_age, is_duration, timed, IsTimed, IsIssuedAt, first_issue_age, without_gap, IsScale, Parts, IsTableBy, SelectParts, IsSelectBy, AnyParts, aggregate, selected, parts_by_axes, any_parts_of, IsAnyBy, by_parts, Aggregate, Select, IsAnyAnswer, Unless, IsFaultOfAny}
use Rattle.select_rates.specs.Select.{Selected}
use Rattle.xtbml_subset.specs.declared.period.Attained.{Attained}
use Rattle.xtbml_subset.specs.SelectChecks.{Issue, ReadsDuration, ReadsPeriod, ReadsUltimate, first_gap, IsJoinedBy}
use Rattle.xtbml_subset.specs.inside.Steps.{ReadsIssue}

-- a fault isn't that the table is select
abbrev Told : {A : Type 0} → Result A TableFault → Type 0
Told (Ok value) = Unit {0}
Told (Err fault) = IsFaultOfAny fault

abbrev Never : {A : Type 0} → (Result A TableFault → Type 0) → Type 0
Never {A} Is = (answer : Result A TableFault) → Is answer → Told answer

told_is : {A : Type 0} (answer other : Result A TableFault) → Told other → answer ≡ other → Told answer
told_is {A = A} answer other h e = subst (λ (r : Result A TableFault). Told r) (sym e) h

never_turn : {A B : Type 0} (First : Result A TableFault → Type 0) (Rest : A → Result B TableFault → Type 0) → Never First → ((value : A) → Never (Rest value))
    → Never (InTurn First Rest)
never_turn First Rest f more answer (Ok value, h, k) = more value answer k
never_turn First Rest f more answer (Err fault, h, k) = told_is answer (Err fault) (f (Err fault) h) k

never_all : {S A B : Type 0} (One : S → A → Result (S × B) TableFault → Type 0) → ((due : S) (item : A) → Never (One due item)) → (items : List A) (due : S)
    → Never (ReadsAll One due items)
never_all One each [] due answer h = told_is answer (Ok []) tt h
never_all One each (item ∷ items) due answer h =
    never_turn (One due item) (λ one all. InTurn (λ rest. ReadsAll One one.0 items rest) (λ values whole. whole ≡ Ok (one.1 ∷ values)) all) (each due item)
    (λ one. never_turn (λ rest. ReadsAll One one.0 items rest) (λ values whole. whole ≡ Ok (one.1 ∷ values)) (never_all One each items one.0)
    (λ values whole k. told_is whole (Ok (one.1 ∷ values)) tt k)) answer h

-- ---- the factor

scale : (factor : Option RateElement) → Never (IsScale factor)
scale None answer h = told_is answer (Ok tt) tt h
scale (Some row) (Ok none) h = tt
scale (Some row) (Err fault) h = subst IsFaultOfAny (sym h.1) tt

-- ---- the rows

told_rated : {S : Type 0} (at : ℕ) (next : S) (rate : Option ℕ) → Told (rated at next rate)
told_rated at next None = tt
told_rated at next (Some rate) = tt

rated_never : {S : Type 0} (row : RateElement) (next : S) → Never (ReadsRated row next)
rated_never row next answer h = told_is answer (rated row.at next h.0) (told_rated row.at next h.0) h.2

aged_by : (row : RateElement) (age : ℕ) (is : Bool)
    → Never (λ (read : Result (Option ℕ × ℕ) TableFault). MatchBool is (ReadsRated row (Some (age + 1)) read) (read ≡ Err (Bad row.at AgeGap)))
aged_by row age true answer h = rated_never row (Some (age + 1)) answer h
aged_by row age false answer h = told_is answer (Err (Bad row.at AgeGap)) tt h

aged : (due : Option ℕ) (row : RateElement) (age : Option ℕ) → Never (IsAged due row age)
aged due row None answer h = told_is answer (Err (Bad row.at BadAge)) tt h
aged due row (Some age) answer h = aged_by row age (is_due due age) answer h

rates : (items : List RateElement) → Never (ReadsRates items)
rates items answer h =
    never_turn (ReadsAll ReadsRow None items) (λ (found : List ℕ) (made : Result Rates TableFault). made ≡ Ok (record { first_age = first_age items; rates = found }))
    (never_all ReadsRow (λ due row. aged due row (age_of row.label)) items None)
    (λ found made k. told_is made (Ok (record { first_age = first_age items; rates = found })) tt k) answer h

-- ---- an age at issue

timed_rate : (due : Attained) (row : RateElement) (duration : ℕ) (is : Bool)
    → Never (λ (read : Result (Attained × ℕ) TableFault). MatchBool is (ReadsRated row (timed due.age duration) read) (read ≡ Err (Bad row.at BadDuration)))
timed_rate due row duration true answer h = rated_never row (timed due.age duration) answer h
timed_rate due row duration false answer h = told_is answer (Err (Bad row.at BadDuration)) tt h

timed_or : (due : Attained) (row : RateElement) (duration : Option ℕ) → Never (IsTimed due row duration)
timed_or due row None answer h = told_is answer (Err (Bad row.at BadDuration)) tt h
timed_or due row (Some duration) answer h = timed_rate due row duration (is_duration due duration) answer h

period : (at age : ℕ) (items : List RateElement) → Never (ReadsPeriod at age items)
period at age [] answer h = told_is answer (Err (Bad at BadDuration)) tt h
period at age (row ∷ items) answer h =
    never_turn (ReadsAll ReadsDuration (record { duration = None; age = age }) (row ∷ items)) (λ rates whole. whole ≡ Ok (Some (age + 1), rates))
    (never_all ReadsDuration (λ due one. timed_or due one (one.label >>= λ text. short_number text)) (row ∷ items) (record { duration = None; age = age }))
    (λ rates whole k. told_is whole (Ok (Some (age + 1), rates)) tt k) answer h

issued_if : (issue : Issue) (age : ℕ) (is : Bool)
    → Never (λ (read : Result (Option ℕ × List ℕ) TableFault). MatchBool is (ReadsPeriod issue.at age issue.rates read) (read ≡ Err (Bad issue.at AgeGap)))
issued_if issue age true answer h = period issue.at age issue.rates answer h
issued_if issue age false answer h = told_is answer (Err (Bad issue.at AgeGap)) tt h

issued_or : (due : Option ℕ) (issue : Issue) (age : Option ℕ) → Never (IsIssuedAt due issue age)
issued_or due issue None answer h = told_is answer (Err (Bad issue.at BadAge)) tt h
issued_or due issue (Some age) answer h = issued_if issue age (is_due due age) answer h

-- ---- the tables

table : (parts : Parts) → Never (IsTableBy (Ok parts))
table parts answer h = never_turn (IsScale parts.factor) (λ none read. ReadsRates parts.rows read) (scale parts.factor) (λ none. rates parts.rows) answer h

ultimate : (at : ℕ) (items : List RateElement) → Never (ReadsUltimate at items)
ultimate at [] answer h = told_is answer (Err (Bad at NoUltimate)) tt h
ultimate at (row ∷ items) answer h = rates (row ∷ items) answer h

told_joined : (gap : Option ℕ) (given : Selected) → Told (without_gap gap given)
told_joined None given = tt
told_joined (Some at) given = tt

joined : (issues : List Issue) (items : List (List ℕ)) (behind : Rates) → Never (IsJoinedBy issues items behind)
joined issues items behind answer h =
    let gap = first_gap behind (first_issue_age issues) _ items in
    told_is answer (without_gap gap (record { first_age = first_issue_age issues; rows = items; ultimate = behind }))
    (told_joined gap (record { first_age = first_issue_age issues; rows = items; ultimate = behind })) h

select : (parts : SelectParts) → Never (IsSelectBy parts)
select parts answer h =
    never_turn (λ one. IsScale parts.factor one)
    (λ none unscaled. InTurn (IsScale parts.ultimate_factor) (λ same read. InTurn (ReadsAll ReadsIssue None parts.issues)
    (λ items joined. InTurn (ReadsUltimate parts.at parts.ultimate) (λ ultimate whole. IsJoinedBy parts.issues items ultimate whole) joined) read) unscaled)
    (scale parts.factor)
    (λ none.
    never_turn (λ one. IsScale parts.ultimate_factor one)
    (λ same read. InTurn (ReadsAll ReadsIssue None parts.issues)
    (λ items joined. InTurn (ReadsUltimate parts.at parts.ultimate) (λ ultimate whole. IsJoinedBy parts.issues items ultimate whole) joined) read)
    (scale parts.ultimate_factor)
    (λ same.
    never_turn (λ one. ReadsAll ReadsIssue None parts.issues one)
    (λ items joined. InTurn (ReadsUltimate parts.at parts.ultimate) (λ ultimate whole. IsJoinedBy parts.issues items ultimate whole) joined)
    (never_all ReadsIssue (λ due issue. issued_or due issue (age_of issue.label)) parts.issues None)
    (λ items.
    never_turn (λ one. ReadsUltimate parts.at parts.ultimate one) (λ ultimate whole. IsJoinedBy parts.issues items ultimate whole)
    (ultimate parts.at parts.ultimate)
    (λ behind. joined parts.issues items behind)))) answer h

-- ---- the path

told_then : {A B : Type 0} (r : Result A TableFault) (more : A → Result B TableFault) → Told r → ((value : A) → Told (more value)) → Told (r >=> more)
told_then (Ok value) more h k = k value
told_then (Err fault) more h k = h

told_first : (at : ℕ) (nodes : List Node) → Told (ok_or (first nodes) (Bad at NoTable))
told_first at [] = tt
told_first at (node ∷ nodes) = tt

told_within : (name : List ℕ) (parent : Node) → Told (within node_asks name parent)
unfolding within
told_within name parent = told_first (node_asks.row parent).at (node_asks.children name parent)

told_root : (root : Node) → Told (rooted node_asks root)
told_root root = by (bytes_eq root.tag.name (codes "XTbML"))
  where
    by : (b : Bool) → Told {A = Node} (cond b (Ok root) (Err (Bad (node_asks.row root).at NoTable)))
    by true = tt
    by false = tt

told_path : (root : Node) → Told (path node_asks root)
unfolding path
told_path root =
    told_then (rooted node_asks root >=> λ top. within node_asks (codes "Table") top)
    (λ table. within node_asks (codes "Values") table >=> (λ values. within node_asks (codes "Axis") values) >=> λ axis. Ok (table, axis))
    (told_then (rooted node_asks root) (λ top. within node_asks (codes "Table") top) (told_root root) (λ top. told_within (codes "Table") top))
    (λ table. told_then (within node_asks (codes "Values") table >=> λ values. within node_asks (codes "Axis") values) (λ axis. Ok (table, axis))
    (told_then (within node_asks (codes "Values") table) (λ values. within node_asks (codes "Axis") values) (told_within (codes "Values") table) (λ values. told_within (codes "Axis") values))
    (λ axis. tt))

told_in : (axis : Node) (rates : List Node) → Told (rates_in node_asks axis [] rates)
told_in axis [] = tt
told_in axis (rate ∷ rates) = tt

told_rates : (axis : Node) → node_asks.children (codes "Axis") axis ≡ [] → Told (rates_of node_asks axis)
unfolding rates_of
told_rates axis e = rw e (told_in axis (node_asks.children (codes "Y") axis))

told_axes : (root : Node) (found : Node × Node) (axes : List Node) → node_asks.children (codes "Axis") found.1 ≡ axes → Told (parts_by_axes node_asks root found axes)
told_axes root found [] e =
    told_then (aggregate_parts node_asks found) (λ parts. Ok (aggregate parts))
    (told_then (rates_of node_asks found.1) _ (told_rates found.1 e) (λ rates. tt)) (λ parts. tt)
told_axes root found (inner ∷ more) e = tt

told_parts : (root : Node) → Told (any_parts_of node_asks root)
told_parts root = told_then (path node_asks root) _ (told_path root) (λ found. told_axes root found (node_asks.children (codes "Axis") found.1) refl)

-- ---- the answer

any_table : (parts : Result AnyParts TableFault) → Told parts → Never (IsAnyBy parts)
any_table (Err fault) told answer h = told_is answer (Err fault) told h
any_table (Ok (aggregate parts)) told answer h =
    never_turn (λ one. IsTableBy (Ok parts) one) (λ one (whole : Result AnyTable TableFault). whole ≡ Ok (Aggregate one)) (table parts)
    (λ one whole k. told_is whole (Ok (Aggregate one)) tt k) answer h
any_table (Ok (selected parts)) told answer h =
    never_turn (λ one. IsSelectBy parts one) (λ one (whole : Result AnyTable TableFault). whole ≡ Ok (Select one)) (select parts)
    (λ one whole k. told_is whole (Ok (Select one)) tt k) answer h

any_answer : (bytes : List ℕ) → Never (IsAnyAnswer bytes)
any_answer bytes answer (inl judged) = any_table (any_parts_of node_asks judged.0) (told_parts judged.0) answer (by_parts node_asks judged.0 answer judged.2)
any_answer bytes answer (inr h) = told_is answer (Err (Bad h.1.0 NotDocument)) tt h.1.2

-- a fault that the reader of tables of either kind states
pub told_fault : (bytes : List ℕ) (fault : TableFault) → Unless fault (IsAnyAnswer bytes (Err fault)) → IsFaultOfAny fault
told_fault bytes (NoMemory lack) h = tt
told_fault bytes (Bad at what) h = any_answer bytes (Err (Bad at what)) h
