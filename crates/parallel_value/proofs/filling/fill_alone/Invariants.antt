use Rattle.parallel_value.proofs.Names.{◌≡◌, length, take, AllZip, IsAsBefore}
use Rattle.parallel_value.proofs.filling.fill_alone.Given as goal

abbrev pub invariant-loop-k : goal.invariant-loop-k
invariant-loop-k g l = record {
  places : length l.values ≡ length l.items;
  piece : IsAsBefore g.P.Piece.takes g.P.Piece.gives l.fn.piece l.piece;
  values : AllZip (g.P.Piece.gives l.fn.piece) (take l.k l.items) (take l.k l.values);
}
