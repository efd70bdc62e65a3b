use Rattle.basis_book.proofs.Names.{◌≡◌, ◌+◌, false, ap, length, sym, subst, IsSome, is_some, List, slice_get, take, arith, get_by_text, values, length-take-le, All-more, BasisRow, IsFirstMissing}
use Rattle.basis_book.proofs.Picking.{missing_at, places_long, places_more}
use Rattle.basis_book.proofs.basis.Basis.of.Goals as goal

pub returns-in_default-clause-missing : goal.returns-in_default-clause-missing
returns-in_default-clause-missing c =
    let t = get_by_text c.args.tables in
    let row = c.row-item.result in
    let items = c.as_slice-row-items.result.now in
    let i = c.loop-row.row-index in
    let no : is_some (t row.table) ≡ false = rw c.text.ensures.text at (sym c.in_default.ensures.found) in
    let long = places_long (slice_get (values c.args.tables)) t (take i items) c.loop-row.places.items c.loop-row.invariant.1 in
    let number : c.len.result + 1 ≡ i + 1 = omega (arith, c.len.ensures.value, long, length-take-le i items (omega arith)) in
    subst (λ (xs : List BasisRow). IsFirstMissing t xs (c.len.result + 1)) c.as_slice-row-items.ensures
    (missing_at t items i row (c.len.result + 1) c.loop-row-test.true c.row-item.is number c.loop-row.invariant.0 (λ some. cc))

pub push-requires : goal.push-requires
push-requires c =
    let items = c.as_slice-row-items.result.now in
    let i = c.loop-row.row-index in
    let long = places_long (slice_get (values c.args.tables)) (get_by_text c.args.tables) (take i items) c.loop-row.places.items c.loop-row.invariant.1 in
    omega (arith, c.requires.few, long, length-take-le i items (omega arith), ap (λ (xs : List BasisRow). length xs) c.as_slice-row-items.ensures)

pub loop-row-preserved : goal.loop-row-preserved
loop-row-preserved c =
    let t = get_by_text c.args.tables in
    let items = c.as_slice-row-items.result.now in
    let i = c.loop-row.row-index in
    let row = c.row-item.result in
    let known = λ (row : BasisRow). IsSome (t row.table) in
    let here : IsSome (t row.table) = rw c.text.ensures.text at (sym c.in-Some.ensures.found) in
    let same = rw c.text.ensures.text at c.in-Some.ensures.value in (
      All-more known items i row c.loop-row-test.true c.loop-row.invariant.0 (subst known c.row-item.is here),
      rw c.push.ensures.items
          (places_more (slice_get (values c.args.tables)) t items c.loop-row.places.items i row c.in-Some.place c.loop-row-test.true c.row-item.is same c.loop-row.invariant.1),
    )
