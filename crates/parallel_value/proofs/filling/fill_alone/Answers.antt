use Rattle.std.proofs.Common.{arith, rules}
use Rattle.parallel_value.proofs.PieceSteps.{filled_next, still_as_before}
use Rattle.parallel_value.proofs.filling.fill_alone.Goals as goal

pub loop-k-preserved : goal.loop-k-preserved
loop-k-preserved g c = record {
  places = search rules;
  piece = still_as_before _ _ c.args.piece.now c.loop-k.piece c.one.new.self c.loop-k.invariant.piece
      (record { takes_still = c.one.ensures.takes; gives_only = c.one.ensures.gives });
  values = filled_next (g.P.Piece.gives c.args.piece.now) c.args.items.now c.loop-k.k c.index-items-k.result c.loop-k.values c.one.result
      (omega (arith, c.loop-k-test.true)) c.loop-k.invariant.places c.index-items-k.is c.loop-k.invariant.values
      (c.loop-k.invariant.piece.gives_only _ _ c.one.ensures.value);
}
