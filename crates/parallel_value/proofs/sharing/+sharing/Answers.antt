use Rattle.parallel_value.proofs.Names.{IfOk, List, rules, subst, sym, AreMadeParts}
use Rattle.parallel_value.proofs.PartSteps.{made_of_both}
use Rattle.parallel_value.proofs.sharing.+sharing.Goals as goal

pub make_both-returns-clause-made : goal.make_both-returns-clause-made
make_both-returns-clause-made g t c =
    let left : IfOk c.join_mut-left.result.0 (λ one. AreMadeParts g.P.Piece.gives c.args.front.now c.args.items_in_part c.args.items.now one.items) = search rules in
    let right : IfOk c.join_mut-left.result.1 (λ other. AreMadeParts g.P.Piece.gives c.args.back.now c.args.items_in_part c.args.items.now other.items) = search rules in
    made_of_both g.P.Piece.takes g.P.Piece.gives c.args.front.now c.args.back.now c.args.items_in_part c.args.items.now c.join_mut-left.result.0 c.join_mut-left.result.1
    c.both.result left right c.both.ensures

pub make_parts-returns-clause-made : goal.make_parts-returns-clause-made
make_parts-returns-clause-made g t c =
    subst (λ (l : List _). IfOk c.make_both.result (λ made. AreMadeParts g.P.Piece.gives l c.args.items_in_part c.args.items.now made.items))
    (sym c.split_at_mut-front.ensures.value) c.make_both.ensures.made
