-- Each file spells a table of either kind, or has a first fault.
use Rattle.basis_shelf.proofs.Names.{◌≡◌, ◌⊎◌, inl, inr, ℕ, ◌+◌, Bool, true, false, List, [], ◌∷◌, Option, Some, None, Result, Ok, Err, refl, sym, codes, MatchBool, Rates, AnyTable, Aggregate, Select, TableKind, NotDocument, BadAge, AgeGap, BadRate, BadDuration, NoUltimate, UltimateGap, TableFault, Bad, NoMemory, fault_at, Node, IsDocument, node_asks, RateElement, path, rates_of, aggregate_parts, age_of, is_due, InTurn, ReadsAll, short_number, ◌>>=◌, ReadsRated, IsScale, is_duration, timed, IsTimed, IsIssuedAt, first_issue_age, without_gap, IsTableBy, SelectParts, IsSelectBy, by_root, AnyParts, aggregate, selected, parts_by_axes, any_parts_of, IsAnyBy, SpellsAny, IsAnyAnswer, whole_document, any_fault_due}
use Rattle.select_rates.specs.Select.{Selected}
use Rattle.xtbml_subset.specs.declared.period.Attained.{Attained}
use Rattle.xtbml_subset.specs.SelectChecks.{Issue, ReadsDuration, ReadsPeriod, ReadsUltimate, first_gap, IsJoinedBy}
use Rattle.xtbml_subset.specs.inside.Steps.{ReadsIssue}
use Rattle.basis_shelf.proofs.EitherTable.{Answered, in_turn, reads_all, scale, reads, rated_by, rates, IsPlaced, placed_then, placed_path, placed_rates, table}

-- ---- an age at issue

timed_rate : (due : Attained) (row : RateElement) (duration : ℕ) (is : Bool)
    → Answered (λ (read : Result (Attained × ℕ) TableFault). MatchBool is (ReadsRated row (timed due.age duration) read) (read ≡ Err (Bad row.at BadDuration)))
timed_rate due row duration true = rated_by row (timed due.age duration) (reads row.text)
timed_rate due row duration false = inr (row.at, BadDuration, refl)

timed_or : (due : Attained) (row : RateElement) (duration : Option ℕ) → Answered (IsTimed due row duration)
timed_or due row None = inr (row.at, BadDuration, refl)
timed_or due row (Some duration) = timed_rate due row duration (is_duration due duration)

period : (at age : ℕ) (rows : List RateElement) → Answered (ReadsPeriod at age rows)
period at age [] = inr (at, BadDuration, refl)
period at age (row ∷ rows) =
    in_turn (ReadsAll ReadsDuration (record { duration = None; age = age }) (row ∷ rows)) (λ rates whole. whole ≡ Ok (Some (age + 1), rates))
    (reads_all ReadsDuration (λ due one. timed_or due one (one.label >>= λ text. short_number text)) (row ∷ rows) (record { duration = None; age = age }))
    (λ rates h. inl ((Some (age + 1), rates), refl))

issued_if : (issue : Issue) (age : ℕ) (is : Bool)
    → Answered (λ (read : Result (Option ℕ × List ℕ) TableFault). MatchBool is (ReadsPeriod issue.at age issue.rates read) (read ≡ Err (Bad issue.at AgeGap)))
issued_if issue age true = period issue.at age issue.rates
issued_if issue age false = inr (issue.at, AgeGap, refl)

issued_or : (due : Option ℕ) (issue : Issue) (age : Option ℕ) → Answered (IsIssuedAt due issue age)
issued_or due issue None = inr (issue.at, BadAge, refl)
issued_or due issue (Some age) = issued_if issue age (is_due due age)

-- ---- the select table

ultimate : (at : ℕ) (rows : List RateElement) → Answered (ReadsUltimate at rows)
ultimate at [] = inr (at, NoUltimate, refl)
ultimate at (row ∷ rows) = rates (row ∷ rows)

joined_by : (gap : Option ℕ) (given : Selected) → Answered (λ (answer : Result Selected TableFault). answer ≡ without_gap gap given)
joined_by None given = inl (given, refl)
joined_by (Some at) given = inr (at, UltimateGap, refl)

joined : (issues : List Issue) (rows : List (List ℕ)) (behind : Rates) → Answered (IsJoinedBy issues rows behind)
joined issues rows behind =
    joined_by (first_gap behind (first_issue_age issues) _ rows) (record { first_age = first_issue_age issues; rows = rows; ultimate = behind })

select : (parts : SelectParts) → Answered (IsSelectBy parts)
select parts =
    in_turn (λ one. IsScale parts.factor one)
    (λ none unscaled. InTurn (IsScale parts.ultimate_factor) (λ same read. InTurn (ReadsAll ReadsIssue None parts.issues)
    (λ rows joined. InTurn (ReadsUltimate parts.at parts.ultimate) (λ ultimate whole. IsJoinedBy parts.issues rows ultimate whole) joined) read) unscaled)
    (scale parts.factor)
    (λ none h.
    in_turn (λ one. IsScale parts.ultimate_factor one)
    (λ same read. InTurn (ReadsAll ReadsIssue None parts.issues)
    (λ rows joined. InTurn (ReadsUltimate parts.at parts.ultimate) (λ ultimate whole. IsJoinedBy parts.issues rows ultimate whole) joined) read)
    (scale parts.ultimate_factor)
    (λ same k.
    in_turn (λ one. ReadsAll ReadsIssue None parts.issues one)
    (λ rows joined. InTurn (ReadsUltimate parts.at parts.ultimate) (λ ultimate whole. IsJoinedBy parts.issues rows ultimate whole) joined)
    (reads_all ReadsIssue (λ due issue. issued_or due issue (age_of issue.label)) parts.issues None)
    (λ rows l.
    in_turn (λ one. ReadsUltimate parts.at parts.ultimate one) (λ ultimate whole. IsJoinedBy parts.issues rows ultimate whole)
    (ultimate parts.at parts.ultimate)
    (λ behind m. joined parts.issues rows behind))))

-- ---- a table of either kind

placed_axes : (root : Node) (found : Node × Node) (axes : List Node) → IsPlaced (parts_by_axes node_asks root found axes)
placed_axes root found [] =
    placed_then (aggregate_parts node_asks found) (λ parts. Ok (aggregate parts))
    (placed_then (rates_of node_asks found.1) _ (placed_rates found.1) (λ rates. tt)) (λ parts. tt)
placed_axes root found (inner ∷ more) = tt

placed_any : (root : Node) → IsPlaced (any_parts_of node_asks root)
placed_any root = placed_then (path node_asks root) _ (placed_path root) (λ found. placed_axes root found (node_asks.children (codes "Axis") found.1))

any_table : (parts : Result AnyParts TableFault) → IsPlaced parts → Answered (IsAnyBy parts)
any_table (Err (Bad at what)) h = inr (at, what, refl)
any_table (Err (NoMemory lack)) h = absurd h
any_table (Ok (aggregate parts)) h =
    in_turn (λ one. IsTableBy (Ok parts) one) (λ one (whole : Result AnyTable TableFault). whole ≡ Ok (Aggregate one)) (table (Ok parts) tt) (λ one k. inl (Aggregate one, refl))
any_table (Ok (selected parts)) h =
    in_turn (λ one. IsSelectBy parts one) (λ one (whole : Result AnyTable TableFault). whole ≡ Ok (Select one)) (select parts) (λ one k. inl (Select one, refl))

-- what a file is
abbrev AnyJudged : List ℕ → Type 0
AnyJudged bytes = ((one : AnyTable) × SpellsAny bytes one) ⊎ ((at : ℕ) × (what : TableKind) × IsAnyAnswer bytes (Err (Bad at what)))

judged_root : (bytes : List ℕ) (root : Node) → IsDocument bytes root → Answered (IsAnyBy (any_parts_of node_asks root)) → AnyJudged bytes
judged_root bytes root d (inl t) = inl (t.0, inl (root, d, by_root node_asks root (Ok t.0) t.1))
judged_root bytes root d (inr bad) = inr (bad.0, bad.1, inl (root, d, by_root node_asks root (Err (Bad bad.0 bad.1)) bad.2))

judged_by : (bytes : List ℕ) (at : Option ℕ) → at ≡ fault_at bytes → AnyJudged bytes
judged_by bytes (Some at) e = inr (at, NotDocument, any_fault_due bytes at e)
judged_by bytes None e =
    let d = whole_document bytes (sym e) in
    judged_root bytes d.0 d.1 (any_table (any_parts_of node_asks d.0) (placed_any d.0))

pub any_or_fault : (bytes : List ℕ) → AnyJudged bytes
any_or_fault bytes = judged_by bytes (fault_at bytes) refl
