use Rattle.parallel_value.proofs.Names.{◌≡◌, ◌∙◌, ◌<◌, ◌^◌, ap, subst, length, length-drop, min, drop, take, arith, rules, length-take, take_all, AddsBehind, AreValues, IsOneOf}
use Rattle.parallel_value.proofs.PartSteps.{adds_part, all_part, found_part, stand_more}
use Rattle.parallel_value.proofs.PieceSteps.{all_more, still_as_before}
use Rattle.parallel_value.proofs.sharing.add_parts.Goals as goal

pub add_part-requires : goal.add_part-requires
add_part-requires g c = record {
  sized = c.requires.sized;
  taken = rw c.part_at-part.ensures
      (all_part (g.P.Piece.takes c.loop-first.piece) c.args.items_in_part c.loop-first.first c.args.items.now
      (all_more _ _ c.args.items.now c.loop-first.invariant.piece.takes_still c.requires.taken));
}

pub overflow_add-first : goal.overflow_add-first
overflow_add-first g c =
    let rest = drop c.loop-first.first c.args.items.now in
    let long : length c.part_at-part.result.now ≡ min c.args.items_in_part (length rest) = ap (λ l. length l) c.part_at-part.ensures ∙ length-take c.args.items_in_part rest in
    let small : length c.args.items.now < 2 ^ 64 = search rules in
    omega (arith, small, long, length-drop c.loop-first.first c.args.items.now, c.loop-first.invariant.within)

pub loop-first-preserved : goal.loop-first-preserved
loop-first-preserved g c =
    let rest = drop c.loop-first.first c.args.items.now in
    let long : length c.part_at-part.result.now ≡ min c.args.items_in_part (length rest) = ap (λ l. length l) c.part_at-part.ensures ∙ length-take c.args.items_in_part rest in
    record {
      within = omega (arith, long, length-drop c.loop-first.first c.args.items.now, c.loop-first.invariant.within);
      piece = still_as_before _ _ c.args.piece.now c.loop-first.piece c.add_part.new.piece c.loop-first.invariant.piece c.add_part.ensures.piece;
      behind = stand_more c.args.values.now.items c.loop-first.values.items c.add_part.new.values.items c.loop-first.invariant.behind c.add_part.ensures.behind;
      values = λ workers one made.
          let still : IsOneOf g.P.Piece.gives workers c.loop-first.piece =
          λ item value given. one item value (c.loop-first.invariant.piece.gives_only item value given) in
          let there = found_part g.P.Piece.takes g.P.Piece.gives workers c.args.items_in_part c.args.items.now c.part_at-part.result.now c.args.made.now c.loop-first.first
          c.found.result made c.part_at-part.ensures c.found.ensures in
          adds_part _ c.args.items.now c.part_at-part.result.now c.args.items_in_part c.loop-first.first c.args.values.now.items c.loop-first.values.items
          c.add_part.new.values.items c.part_at-part.ensures (c.loop-first.invariant.values workers one made)
          (c.in_ok-add_part.ensures.values workers still there);
    }

pub returns-clause-values : goal.returns-clause-values
returns-clause-values g c = λ workers one made.
    let items = c.args.items.now in
    let all : take c.loop-first.first items ≡ items = take_all c.loop-first.first items (omega (arith, c.loop-first-test.false)) in
    subst (λ l. AddsBehind (AreValues g.P.Piece.gives workers l) c.args.values.now.items c.loop-first.values.items) all
    (c.loop-first.invariant.values workers one made)

pub returns-in_err-add_part-clause-behind : goal.returns-in_err-add_part-clause-behind
returns-in_err-add_part-clause-behind g c =
    stand_more c.args.values.now.items c.loop-first.values.items c.add_part.new.values.items c.loop-first.invariant.behind c.add_part.ensures.behind

pub returns-clause-behind : goal.returns-clause-behind
returns-clause-behind g c = c.loop-first.invariant.behind
