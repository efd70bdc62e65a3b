use Rattle.parallel_value.proofs.Names.{take, AllZip, AddsBehind, IsAsBefore}
use Rattle.parallel_value.proofs.sharing.add_alone.Given as goal

abbrev pub invariant-loop-item : goal.invariant-loop-item
invariant-loop-item g l = record {
  piece : IsAsBefore g.P.Piece.takes g.P.Piece.gives l.fn.piece l.piece;
  values : AddsBehind (AllZip (g.P.Piece.gives l.fn.piece) (take l.item-index l.items)) l.fn.values.items l.values.items;
}
