use Rattle.std.proofs.Common.{rules}
use Rattle.parallel_value.proofs.PartSteps.{adds_next}
use Rattle.parallel_value.proofs.PieceSteps.{still_as_before}
use Rattle.parallel_value.proofs.sharing.add_alone.Goals as goal

pub loop-item-preserved : goal.loop-item-preserved
loop-item-preserved g c = record {
  piece = still_as_before _ _ c.args.piece.now c.loop-item.piece c.one.new.self c.loop-item.invariant.piece
      (record { takes_still = c.one.ensures.takes; gives_only = c.one.ensures.gives });
  values = adds_next (g.P.Piece.gives c.args.piece.now) c.args.items.now c.loop-item.item-index c.item-item.result c.args.values.now.items
      c.loop-item.values.items c.push.new.items.items c.one.result c.loop-item-test.true c.item-item.is c.loop-item.invariant.values
      (search rules) (c.loop-item.invariant.piece.gives_only _ _ c.one.ensures.value);
}
