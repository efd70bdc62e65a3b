use Rattle.xtbml_subset.proofs.Names.{map, sym, ap, ◌∙◌, codes, has_filled, siblings_at, row_of, found_of}
use Rattle.xtbml_subset.proofs.Filled.{passed_blank, met_filled}
use Rattle.xtbml_subset.proofs.RowRuns.{left_siblings}
use Rattle.xtbml_subset.proofs.period.has_filled.Goals as goal

pub returns-then-not-is_blank : goal.returns-then-not-is_blank
returns-then-not-is_blank c = λ total.
    let row = found_of c.in-Some.row in
    let behind = map (λ e. row_of total e) (siblings_at (codes "Y") row) in
    let before = rw c.in-Some.is at (c.loop-next.invariant total) in
    met_filled (row_of total row) behind (sym c.if-not-is_blank.ensures) ∙ before

pub loop-next-preserved : goal.loop-next-preserved
loop-next-preserved c = λ total.
    let row = found_of c.in-Some.row in
    let siblings = siblings_at (codes "Y") row in
    let behind = map (λ e. row_of total e) siblings in
    let before = rw c.in-Some.is at (c.loop-next.invariant total) in
    let left = left_siblings total c.next_sibling-next.result siblings c.next_sibling-next.ensures.siblings in
    ap has_filled (sym left) ∙ passed_blank (row_of total row) behind (sym c.if-not-is_blank.ensures) ∙ before
