use Rattle.xtbml_subset.proofs.Names.{◌+◌, ◌++◌, ◌∷◌, [], List, ℕ, map, None, Some, Ok, Err, sym, ap, subst, ◌∙◌, codes, err_from_is_err_and, Issue, issue_age_of, ReadsAll, ReadsIssue, siblings_at, found_asks, issues_from, found_of}
use Rattle.xtbml_subset.proofs.Filled.{left_issues, place_told, rows_told, issues_left}
use Rattle.xtbml_subset.proofs.Final.{unless_goes}
use Rattle.xtbml_subset.proofs.ReadingRuns.{AllSoFar, all_more, all_fault, all_done}
use Rattle.xtbml_subset.proofs.issue.read_issues.Goals as goal

pub returns-in_err-age-clause-fault : goal.returns-in_err-age-clause-fault
returns-in_err-age-clause-fault c =
    let p = err_from_is_err_and c.from_residual.result c.from_residual.ensures.1 in
    let total = c.args.total in
    let all = issues_from total (found_of c.args.first.now) in
    let axis = found_of c.in-Some.axis in
    let issue = issue_age_of (found_asks total) axis in
    let behind = map (λ e. issue_age_of (found_asks total) e) (siblings_at (codes "Axis") axis) in
    let fault = c.in_err-age.field-0.0 in
    let so_far = rw c.in-Some.is at c.loop-next.invariant.so_far in
    rw (p.1, p.2) (unless_goes fault (ReadsIssue c.loop-next.due issue (Err fault)) (ReadsAll ReadsIssue None all (Err fault))
    (λ is. all_fault ReadsIssue None all (map (λ row. row.items) c.loop-next.rows.items) c.loop-next.due issue behind fault is so_far)
    c.in_err-age.ensures.fault)

pub loop-next-preserved : goal.loop-next-preserved
loop-next-preserved c =
    let total = c.args.total in
    let all = issues_from total (found_of c.args.first.now) in
    let axis = found_of c.in-Some.axis in
    let issue = issue_age_of (found_asks total) axis in
    let siblings = siblings_at (codes "Axis") axis in
    let behind = map (λ e. issue_age_of (found_asks total) e) siblings in
    let rows = map (λ row. row.items) c.loop-next.rows.items in
    let next = Some (c.in_ok-age.age + 1) in
    let so_far = rw c.in-Some.is at c.loop-next.invariant.so_far in
    let place = rw c.in-Some.is at c.loop-next.invariant.place in
    let more = all_more ReadsIssue None all rows c.loop-next.due issue behind next c.in_ok-age.rates.items c.in_ok-age.ensures.read so_far in
    let left = left_issues total c.next_sibling-next.result siblings c.next_sibling-next.ensures.siblings in
    let told = rows_told c.loop-next.rows.items c.in_ok-age.rates c.push-in-Some.new.items.items (λ row. row.items) c.in_ok-push-2.ensures.items in
    let pushed = subst (λ (values : List (List ℕ)). AllSoFar ReadsIssue None all values next behind) (sym told) more in
    let places = c.loop-next.places.items in
    let at : List Issue → List ℕ = λ issues. map (λ one. one.at) issues in
    let where_told = place_told places issue.at (at behind) (at all) place in
    record {
      so_far = subst (λ (items : List Issue). AllSoFar ReadsIssue None all (map (λ row. row.items) c.push-in-Some.new.items.items) next items) left pushed;
      place = ap (λ (ps : List ℕ). ps ++ at (issues_left total c.next_sibling-next.result)) (c.in_ok-push.ensures.items ∙ ap (λ (n : ℕ). places ++ n ∷ []) c.place.ensures)
          ∙ ap (λ (issues : List Issue). (places ++ issue.at ∷ []) ++ at issues) (sym left) ∙ where_told;
    }

pub returns-clause-rows : goal.returns-clause-rows
returns-clause-rows c =
    let all = issues_from c.args.total (found_of c.args.first.now) in
    subst (λ (rows : List (List ℕ)). ReadsAll ReadsIssue None all (Ok rows)) (sym c.new.ensures)
    (all_done ReadsIssue None all (map (λ row. row.items) c.loop-next.rows.items) c.loop-next.due (rw c.in_default.is at c.loop-next.invariant.so_far))
