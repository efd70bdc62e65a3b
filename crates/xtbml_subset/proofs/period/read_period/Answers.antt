use Rattle.xtbml_subset.proofs.Names.{List, map, None, Err, sym, subst, codes, err_from_is_err_and, Attained, RateElement, filled, ReadsAll, ReadsDuration, siblings_at, row_of, rows_from, found_of}
use Rattle.xtbml_subset.proofs.Filled.{filled_on, filled_none}
use Rattle.xtbml_subset.proofs.ReadingRuns.{AllSoFar, all_more, all_fault, all_done}
use Rattle.xtbml_subset.proofs.RowRuns.{left_siblings, unless_from}
use Rattle.xtbml_subset.proofs.period.read_period.Goals as goal

pub returns-then-not-has_filled-clause-read : goal.returns-then-not-has_filled-clause-read
returns-then-not-has_filled-clause-read c =
    let total = c.args.total in
    let begin : Attained = record { duration = None; age = c.args.age } in
    let all = filled (rows_from total (found_of c.args.first.now)) in
    let so_far = rw c.in-Some.is at c.loop-next.invariant in
    let none = filled_none (rows_from total (found_of c.in-Some.row)) (sym (c.if-not-has_filled.ensures total)) in
    all_done ReadsDuration begin all c.loop-next.rates.items c.loop-next.due
    (subst (λ (rows : List RateElement). AllSoFar ReadsDuration begin all c.loop-next.rates.items c.loop-next.due rows) none so_far)

pub returns-in_err-after-clause-fault : goal.returns-in_err-after-clause-fault
returns-in_err-after-clause-fault c =
    let p = err_from_is_err_and c.from_residual.result c.from_residual.ensures.1 in
    let total = c.args.total in
    let begin : Attained = record { duration = None; age = c.args.age } in
    let all = filled (rows_from total (found_of c.args.first.now)) in
    let row = found_of c.in-Some.row in
    let behind = map (λ e. row_of total e) (siblings_at (codes "Y") row) in
    let fault = c.in_err-after.field-0.0 in
    let so_far = rw c.in-Some.is at c.loop-next.invariant in
    let on = filled_on (row_of total row) behind (sym (c.if-not-has_filled.ensures total)) in
    let so_far_on = subst (λ (rows : List RateElement). AllSoFar ReadsDuration begin all c.loop-next.rates.items c.loop-next.due rows) on so_far in
    let rows = all_fault ReadsDuration begin all c.loop-next.rates.items c.loop-next.due (row_of total row) (filled behind) fault c.in_err-after.ensures so_far_on in
    rw (p.1, p.2) (unless_from fault (ReadsAll ReadsDuration begin all (Err fault)) rows)

pub loop-next-preserved : goal.loop-next-preserved
loop-next-preserved c =
    let total = c.args.total in
    let begin : Attained = record { duration = None; age = c.args.age } in
    let all = filled (rows_from total (found_of c.args.first.now)) in
    let row = found_of c.in-Some.row in
    let siblings = siblings_at (codes "Y") row in
    let behind = map (λ e. row_of total e) siblings in
    let so_far = rw c.in-Some.is at c.loop-next.invariant in
    let on = filled_on (row_of total row) behind (sym (c.if-not-has_filled.ensures total)) in
    let so_far_on = subst (λ (rows : List RateElement). AllSoFar ReadsDuration begin all c.loop-next.rates.items c.loop-next.due rows) on so_far in
    let more = all_more ReadsDuration begin all c.loop-next.rates.items c.loop-next.due (row_of total row) (filled behind) c.in_ok-after.after c.in_ok-after.rate c.in_ok-after.ensures so_far_on in
    let left = left_siblings total c.next_sibling-next.result siblings c.next_sibling-next.ensures.siblings in
    let pushed = subst (λ rates. AllSoFar ReadsDuration begin all rates c.in_ok-after.after (filled behind)) (sym c.in_ok-push.ensures.items) more in
    subst (λ (rows : List RateElement). AllSoFar ReadsDuration begin all c.push.new.items.items c.in_ok-after.after (filled rows)) left pushed

pub returns-clause-read : goal.returns-clause-read
returns-clause-read c =
    let all = filled (rows_from c.args.total (found_of c.args.first.now)) in
    all_done ReadsDuration (record { duration = None; age = c.args.age }) all c.loop-next.rates.items c.loop-next.due (rw c.in_default.is at c.loop-next.invariant)
