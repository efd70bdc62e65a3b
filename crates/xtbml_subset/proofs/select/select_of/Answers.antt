use Rattle.xtbml_subset.proofs.Names.{◌≡◌, ℕ, List, map, None, Ok, Err, sym, ap, subst, ◌∙◌, codes, err_from_is_err_and, Selected, Issue, ultimate_of, select_parts, first_issue_age, issue_age_of, ReadsAll, ReadsIssue, ReadsUltimate, IsSelectBy, siblings_at, row_of, found_asks, issues_from, found_of}
use Rattle.xtbml_subset.proofs.Final.{unless_goes}
use Rattle.xtbml_subset.proofs.SelectRates.{as_many, first_ages, ready}
use Rattle.xtbml_subset.proofs.SelectReading.{issues_refused, ultimate_refused, gap_refused, joins, issues_by}
use Rattle.xtbml_subset.proofs.select.select_of.Goals as goal

pub returns-in_err-issues-clause-fault : goal.returns-in_err-issues-clause-fault
returns-in_err-issues-clause-fault c =
    let p = err_from_is_err_and c.from_residual-in_err-issues.result c.from_residual-in_err-issues.ensures.1 in
    let total = c.args.total in
    let table = found_of c.args.table.now in
    let axis = found_of c.args.axis.now in
    let others = siblings_at (codes "Table") table in
    let first = found_of c.first_issue.result in
    let parts = select_parts (found_asks total) others table axis in
    let same : issues_from total first ≡ parts.issues = issues_by total table axis first (c.first_issue.ensures total table c.requires.axis) in
    let fault = c.in_err-issues.field-0.0 in
    let second = c.in_ok-check_ultimate_scale.ensures others c.next_sibling-second.ensures.siblings in
    rw (p.1, p.2) (unless_goes fault (ReadsAll ReadsIssue None (issues_from total first) (Err fault)) (IsSelectBy parts (Err fault))
    (λ is. issues_refused parts fault c.in_ok-check_scale.ensures second (subst (λ (issues : List Issue). ReadsAll ReadsIssue None issues (Err fault)) same is))
    c.in_err-issues.ensures.fault)

pub returns-in_err-ultimate-clause-fault : goal.returns-in_err-ultimate-clause-fault
returns-in_err-ultimate-clause-fault c =
    let p = err_from_is_err_and c.from_residual-in_err-ultimate.result c.from_residual-in_err-ultimate.ensures.1 in
    let total = c.args.total in
    let table = found_of c.args.table.now in
    let axis = found_of c.args.axis.now in
    let others = siblings_at (codes "Table") table in
    let first = found_of c.first_issue.result in
    let parts = select_parts (found_asks total) others table axis in
    let same : issues_from total first ≡ parts.issues = issues_by total table axis first (c.first_issue.ensures total table c.requires.axis) in
    let rows = c.in_ok-issues.issues.rows in
    let issues = subst (λ (all : List Issue). ReadsAll ReadsIssue None all (Ok rows)) same c.in_ok-issues.ensures.rows in
    let fault = c.in_err-ultimate.field-0.0 in
    let rates = ultimate_of (found_asks total) others in
    let second = c.in_ok-check_ultimate_scale.ensures others c.next_sibling-second.ensures.siblings in
    let at : c.place.result ≡ parts.at = c.place.ensures in
    rw (p.1, p.2) (unless_goes fault (ReadsUltimate c.place.result (map (λ rate. row_of total rate) rates) (Err fault)) (IsSelectBy parts (Err fault))
    (λ is. ultimate_refused parts rows fault c.in_ok-check_scale.ensures second issues (subst (λ (n : ℕ). ReadsUltimate n parts.ultimate (Err fault)) at is))
    (c.in_err-ultimate.ensures.fault rates (c.first_ultimate.ensures total others c.next_sibling-second.ensures.siblings)))

pub first_gap-requires-clause-places : goal.first_gap-requires-clause-places
first_gap-requires-clause-places c =
    let issues = issues_from c.args.total (found_of c.first_issue.result) in
    as_many issues c.in_ok-issues.issues.rows c.as_slice.result.now c.in_ok-issues.ensures.rows (c.as_slice.ensures.value ∙ c.in_ok-issues.ensures.places)

pub first_gap-requires-clause-ages : goal.first_gap-requires-clause-ages
first_gap-requires-clause-ages c =
    let asks = found_asks c.args.total in
    let first = found_of c.first_issue.result in
    first_ages (issue_age_of asks first) (map (λ e. issue_age_of asks e) (siblings_at (codes "Axis") first)) c.in_ok-issues.issues.rows c.in_ok-issues.issues.first_age
    c.in_ok-issues.ensures.rows c.in_ok-issues.ensures.first

pub returns-in-Some-clause-fault : goal.returns-in-Some-clause-fault
returns-in-Some-clause-fault c =
    let total = c.args.total in
    let table = found_of c.args.table.now in
    let axis = found_of c.args.axis.now in
    let others = siblings_at (codes "Table") table in
    let first = found_of c.first_issue.result in
    let parts = select_parts (found_asks total) others table axis in
    let same : issues_from total first ≡ parts.issues = issues_by total table axis first (c.first_issue.ensures total table c.requires.axis) in
    let rows = c.in_ok-issues.issues.rows in
    let u = c.in_ok-ultimate.ultimate in
    let issues = subst (λ (all : List Issue). ReadsAll ReadsIssue None all (Ok rows)) same c.in_ok-issues.ensures.rows in
    let second = c.in_ok-check_ultimate_scale.ensures others c.next_sibling-second.ensures.siblings in
    let at : c.place.result ≡ parts.at = c.place.ensures in
    let rates = ultimate_of (found_asks total) others in
    let ultimate = c.in_ok-ultimate.ensures.read rates (c.first_ultimate.ensures total others c.next_sibling-second.ensures.siblings) in
    gap_refused parts rows u c.in_ok-issues.issues.first_age c.as_slice.result.now c.in-Some.at c.in_ok-check_scale.ensures second issues
    (subst (λ (n : ℕ). ReadsUltimate n parts.ultimate (Ok u)) at ultimate)
    (c.in_ok-issues.ensures.first ∙ ap (λ (all : List Issue). first_issue_age all) same)
    (c.as_slice.ensures.value ∙ c.in_ok-issues.ensures.places ∙ ap (λ (all : List Issue). map (λ (one : Issue). one.at) all) same)
    c.in-Some.ensures

pub new-requires : goal.new-requires
new-requires c =
    let asks = found_asks c.args.total in
    let first = found_of c.first_issue.result in
    ready c.in_ok-ultimate.ultimate (issue_age_of asks first) (map (λ e. issue_age_of asks e) (siblings_at (codes "Axis") first)) c.in_ok-issues.issues.rows c.in_ok-issues.issues.first_age
    c.as_slice.result.now c.in_ok-issues.ensures.rows c.in_ok-issues.ensures.first (c.as_slice.ensures.value ∙ c.in_ok-issues.ensures.places) c.in_default.ensures

pub returns-clause-read : goal.returns-clause-read
returns-clause-read c =
    let total = c.args.total in
    let table = found_of c.args.table.now in
    let axis = found_of c.args.axis.now in
    let others = siblings_at (codes "Table") table in
    let first = found_of c.first_issue.result in
    let parts = select_parts (found_asks total) others table axis in
    let same : issues_from total first ≡ parts.issues = issues_by total table axis first (c.first_issue.ensures total table c.requires.axis) in
    let rows = c.in_ok-issues.issues.rows in
    let u = c.in_ok-ultimate.ultimate in
    let issues = subst (λ (all : List Issue). ReadsAll ReadsIssue None all (Ok rows)) same c.in_ok-issues.ensures.rows in
    let second = c.in_ok-check_ultimate_scale.ensures others c.next_sibling-second.ensures.siblings in
    let at : c.place.result ≡ parts.at = c.place.ensures in
    let rates = ultimate_of (found_asks total) others in
    let ultimate = c.in_ok-ultimate.ensures.read rates (c.first_ultimate.ensures total others c.next_sibling-second.ensures.siblings) in
    let whole = joins parts rows u c.in_ok-issues.issues.first_age c.as_slice.result.now c.in_ok-check_scale.ensures second issues
    (subst (λ (n : ℕ). ReadsUltimate n parts.ultimate (Ok u)) at ultimate)
    (c.in_ok-issues.ensures.first ∙ ap (λ (all : List Issue). first_issue_age all) same)
    (c.as_slice.ensures.value ∙ c.in_ok-issues.ensures.places ∙ ap (λ (all : List Issue). map (λ (one : Issue). one.at) all) same)
    c.in_default.ensures in
    subst (λ (made : Selected). IsSelectBy parts (Ok made)) (sym c.in_ok-new.ensures) whole
