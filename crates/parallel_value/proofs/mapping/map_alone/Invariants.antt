use Rattle.parallel_value.proofs.Names.{◌≡◌, take, vec_len, AllZip, IsAsBefore}
use Rattle.parallel_value.proofs.mapping.map_alone.Given as goal

abbrev pub invariant-loop-item : goal.invariant-loop-item
invariant-loop-item g l = record {
  long : vec_len l.values ≡ l.item-index;
  piece : IsAsBefore g.P.Piece.takes g.P.Piece.gives l.fn.piece l.piece;
  values : AllZip (g.P.Piece.gives l.fn.piece) (take l.item-index l.items) l.values.items;
}
