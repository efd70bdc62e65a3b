use Rattle.xtbml_subset.proofs.Names.{◌≡◌, ◌+◌, ◌<◌, true, [], List, ℕ, length, get_or, sym, subst, arith, leaves_gap}
use Rattle.xtbml_subset.proofs.SelectRates.{gap_at, no_gaps}
use Rattle.xtbml_subset.proofs.ultimate.first_gap.Goals as goal

pub returns-then-leaves_gap : goal.returns-then-leaves_gap
returns-then-leaves_gap c =
    let u = c.args.ultimate.now in
    let rows = c.args.rows.now in
    let i = c.loop-index.index in
    let within : i < length rows = omega (arith, c.loop-index-test.true, c.len-index-end.ensures) in
    let here : leaves_gap u (c.args.first_age + i + length (get_or rows i [])) ≡ true
    = subst (λ (s : List ℕ). leaves_gap u (c.args.first_age + i + length s) ≡ true) c.row.ensures (sym c.if-leaves_gap.ensures) in
    sym (gap_at u i c.args.first_age c.args.places.now rows c.requires.places within c.loop-index.invariant here)

pub returns : goal.returns
returns c =
    let rows = c.args.rows.now in
    sym (no_gaps c.args.ultimate.now c.args.first_age c.args.places.now rows
    (λ k lt. c.loop-index.invariant k (omega (arith, c.loop-index-test.false, c.len-index-end.ensures))))
