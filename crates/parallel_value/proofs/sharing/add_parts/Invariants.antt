use Rattle.parallel_value.proofs.Names.{◌≤◌, ◌-◌, List, length, take, AddsBehind, AreValues, IsAsBefore, StandBehind, AreMadeParts, IsOneOf}
use Rattle.parallel_value.proofs.sharing.add_parts.Given as goal

abbrev pub invariant-loop-first : goal.invariant-loop-first
invariant-loop-first g l = record {
  within : l.first ≤ length l.items;
  piece : IsAsBefore g.P.Piece.takes g.P.Piece.gives l.fn.piece l.piece;
  behind : StandBehind l.fn.values.items l.values.items;
  values : (workers : List _) → IsOneOf g.P.Piece.gives workers l.fn.piece → AreMadeParts g.P.Piece.gives workers l.items_in_part l.items l.made
      → AddsBehind (AreValues g.P.Piece.gives workers (take l.first l.items)) l.fn.values.items l.values.items;
}

abbrev pub decreases-loop-first : goal.decreases-loop-first
decreases-loop-first g l = length l.items - l.first
