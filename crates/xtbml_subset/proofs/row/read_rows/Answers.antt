use Rattle.xtbml_subset.proofs.Names.{◌≡◌, suc, ◌+◌, List, length, map, None, Some, Err, sym, ap, subst, codes, arith, err_from_is_err_and, siblings_at, RateElement, ReadsAll, ReadsRow, row_of, rows_from, found_of}
use Rattle.xtbml_subset.proofs.ReadingRuns.{AllSoFar, all_more, all_fault, all_done}
use Rattle.xtbml_subset.proofs.RowRuns.{left_siblings, rows_left, unless_from}
use Rattle.xtbml_subset.proofs.row.read_rows.Goals as goal

pub returns-in_err-age-clause-fault : goal.returns-in_err-age-clause-fault
returns-in_err-age-clause-fault c =
    let p = err_from_is_err_and c.from_residual.result c.from_residual.ensures.1 in
    let total = c.args.total in
    let all = rows_from total (found_of c.args.first.now) in
    let row = found_of c.in-Some.row in
    let fault = c.in_err-age.field-0.0 in
    let so_far = rw c.in-Some.is at c.loop-next.invariant.so_far in
    let rows = all_fault ReadsRow None all c.loop-next.rates.items c.loop-next.due (row_of total row) (map (λ e. row_of total e) (siblings_at (codes "Y") row)) fault c.in_err-age.ensures.row so_far in
    rw (p.1, p.2) (unless_from fault (ReadsAll ReadsRow None all (Err fault)) rows)

pub loop-next-preserved : goal.loop-next-preserved
loop-next-preserved c =
    let total = c.args.total in
    let all = rows_from total (found_of c.args.first.now) in
    let row = found_of c.in-Some.row in
    let siblings = siblings_at (codes "Y") row in
    let behind = map (λ e. row_of total e) siblings in
    let rate = c.in_ok-age.rate in
    let invariant = rw c.in-Some.is at c.loop-next.invariant in
    let more = all_more ReadsRow None all c.loop-next.rates.items c.loop-next.due (row_of total row) behind (Some (c.in_ok-age.age + 1)) rate c.in_ok-age.ensures.row invariant.so_far in
    let left = left_siblings total c.next_row-next.result siblings c.next_row-next.ensures.siblings in
    let pushed = subst (λ rates. AllSoFar ReadsRow None all rates (Some (c.in_ok-age.age + 1)) behind) (sym c.in_ok-push.ensures.items) more in
    let counted : length (rows_left total c.next_row-next.result) ≡ length behind = ap (λ (rows : List RateElement). length rows) (sym left) in
    let count : suc (length behind) ≡ c.loop-next.left = invariant.count in
    record {
      so_far = subst (λ rows. AllSoFar ReadsRow None all c.push.new.items.items (Some (c.in_ok-age.age + 1)) rows) left pushed;
      count = omega arith;
    }

pub returns-clause-read : goal.returns-clause-read
returns-clause-read c =
    let all = rows_from c.args.total (found_of c.args.first.now) in
    all_done ReadsRow None all c.loop-next.rates.items c.loop-next.due (rw c.in_default.is at c.loop-next.invariant.so_far)
