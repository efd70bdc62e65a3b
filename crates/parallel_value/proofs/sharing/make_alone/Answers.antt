use Rattle.std.proofs.Common.{rules}
use Rattle.parallel_value.proofs.PartSteps.{all_push, made_before}
use Rattle.parallel_value.proofs.PieceSteps.{all_more, still_as_before}
use Rattle.parallel_value.proofs.sharing.make_alone.Goals as goal

pub make_part-requires-clause-taken : goal.make_part-requires-clause-taken
make_part-requires-clause-taken g c = all_more _ _ c.args.items.now c.loop.invariant.piece.takes_still c.requires.taken

pub loop-preserved : goal.loop-preserved
loop-preserved g c = record {
  piece = still_as_before _ _ c.args.piece.now c.loop.piece c.make_part.new.piece c.loop.invariant.piece c.make_part.ensures.piece;
  made = all_push _ c.loop.made.items c.push.new.items.items c.in_ok-one.one c.loop.invariant.made
      (made_before g.P.Piece.takes g.P.Piece.gives c.args.piece.now c.loop.piece c.args.items_in_part c.args.items.now c.in_ok-one.one c.loop.invariant.piece c.in_ok-one.ensures.made)
      (search rules);
}
