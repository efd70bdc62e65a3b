use Rattle.basis_shelf.proofs.Names.{◌<◌, List, length, All, IsSome, take, ◌∙◌, subst, arith, take_all, All-more, All-weaker, get_by_text, ARow}
use Rattle.std.proofs.lemmas.Result.{err_from_is_err_and}
use Rattle.basis_shelf.specs.declared.fault.NoBasis.TheVariants.{ReadFault}
use Rattle.basis_shelf.proofs.Asking.{asks_row}
use Rattle.basis_shelf.proofs.Fetched.{row_is_bad, not_risen}
use Rattle.basis_shelf.proofs.tables.fetch_tables.Goals as goal

pub returns-in_err-add_table-clause-bad : goal.returns-in_err-add_table-clause-bad
returns-in_err-add_table-clause-bad g c = λ files agrees.
    let p = err_from_is_err_and c.from_residual.result c.from_residual.ensures.1 in
    let held = get_by_text c.loop-index.tables in
    let wrong = c.in_err-add_table.ensures.bad files agrees in
    let before = c.add_table.ensures.agreed files agrees in
    let within : c.loop-index.index < length c.args.rows.now = omega (arith, c.loop-index-test.true) in
    rw (p.1, p.2)
    (row_is_bad files c.args.rows.now c.loop-index.index c.index-rows-index.result held c.in_err-add_table.field-0.0 within c.index-rows-index.is
    c.loop-index.invariant.known (c.loop-index.invariant.right files before) wrong)

pub loop-index-preserved : goal.loop-index-preserved
loop-index-preserved g c =
    let rows = c.args.rows.now in
    let row = c.index-rows-index.result in
    let before = get_by_text c.loop-index.tables in
    let now = get_by_text c.add_table.new.tables in
    let was = λ (r : ARow). IsSome (before r.table) in
    let known = λ (r : ARow). IsSome (now r.table) in
    let within : c.loop-index.index < length rows = omega (arith, c.loop-index-test.true) in
    let still = All-weaker was known (λ r some. c.in_ok-add_table.ensures.kept r.table some) (take c.loop-index.index rows) c.loop-index.invariant.known in
    record {
      known = All-more known rows c.loop-index.index row within still (subst known c.index-rows-index.is c.in_ok-add_table.ensures.added);
      right = λ files agrees. c.in_ok-add_table.ensures.right files agrees (c.loop-index.invariant.right files (c.add_table.ensures.agreed files agrees));
      agreed = λ files agrees. c.loop-index.invariant.agreed files (c.add_table.ensures.agreed files agrees);
      counted = not_risen (g.H.Shelf.faults c.args.shelf.now) (g.H.Shelf.faults c.loop-index.shelf) (g.H.Shelf.faults c.add_table.new.shelf)
          tt ReadFault c.in_ok-add_table.ensures.counted c.loop-index.invariant.counted;
      later = omega (arith, c.loop-index.invariant.later, c.add_table.ensures.later);
      asked = asks_row rows c.loop-index.index row (g.H.Shelf.asked c.args.shelf.now) (g.H.Shelf.asked c.loop-index.shelf) (g.H.Shelf.asked c.add_table.new.shelf)
          within c.index-rows-index.is c.loop-index.invariant.asked c.add_table.ensures.asked;
      stays = c.add_table.ensures.stays ∙ c.loop-index.invariant.stays;
    }

pub returns-clause-known : goal.returns-clause-known
returns-clause-known g c =
    let held = get_by_text c.loop-index.tables in
    let known = λ (r : ARow). IsSome (held r.table) in
    subst (λ (xs : List ARow). All known xs) (take_all c.loop-index.index c.args.rows.now c.loop-index-test.false) c.loop-index.invariant.known

pub returns-in_err-add_table-clause-asked : goal.returns-in_err-add_table-clause-asked
returns-in_err-add_table-clause-asked g c =
    asks_row c.args.rows.now c.loop-index.index c.index-rows-index.result (g.H.Shelf.asked c.args.shelf.now) (g.H.Shelf.asked c.loop-index.shelf)
    (g.H.Shelf.asked c.add_table.new.shelf) (omega (arith, c.loop-index-test.true)) c.index-rows-index.is c.loop-index.invariant.asked c.add_table.ensures.asked
