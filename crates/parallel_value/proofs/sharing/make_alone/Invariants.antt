use Rattle.parallel_value.proofs.Names.{AllByRecursion, IsAsBefore, IsMadePart}
use Rattle.parallel_value.proofs.sharing.make_alone.Given as goal

abbrev pub invariant-loop : goal.invariant-loop
invariant-loop g l = record {
  piece : IsAsBefore g.P.Piece.takes g.P.Piece.gives l.fn.piece l.piece;
  made : AllByRecursion (IsMadePart (g.P.Piece.gives l.fn.piece) l.items_in_part l.items) l.made.items;
}
