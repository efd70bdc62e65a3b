use Rattle.parallel_value.proofs.PartSteps.{first_before, first_takes, one_of_old}
use Rattle.parallel_value.proofs.sharing.add_all.Goals as goal

pub add_parts-requires : goal.add_parts-requires
add_parts-requires g c = record {
  sized = c.requires.sized;
  taken = first_takes g.P.Piece.takes g.P.Piece.gives c.args.pieces.now c.make_parts.new.pieces c.args.items.now c.index-pieces-0.result
      c.make_parts.ensures.pieces c.requires.workers.0 c.requires.taken;
  part = c.requires.part;
}

pub returns-clause-values : goal.returns-clause-values
returns-clause-values g c =
    c.add_parts.ensures.values c.args.pieces.now
    (one_of_old g.P.Piece.takes g.P.Piece.gives c.args.pieces.now c.make_parts.new.pieces c.index-pieces-0.result c.make_parts.ensures.pieces c.requires.workers.0)
    (rw c.as_slice.ensures.value c.in_ok-made.ensures.made)

pub returns-clause-pieces : goal.returns-clause-pieces
returns-clause-pieces g c =
    first_before g.P.Piece.takes g.P.Piece.gives c.args.pieces.now c.make_parts.new.pieces c.index-pieces-0.result c.add_parts.new.piece
    c.make_parts.ensures.pieces c.requires.workers.0 c.add_parts.ensures.piece
