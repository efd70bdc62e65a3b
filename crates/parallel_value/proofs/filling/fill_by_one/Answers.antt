use Rattle.parallel_value.proofs.PieceSteps.{list_alone}
use Rattle.parallel_value.proofs.filling.fill_by_one.Goals as goal

pub returns-clause-values : goal.returns-clause-values
returns-clause-values g c = list_alone g.P.Piece.takes g.P.Piece.gives c.args.pieces.now c.index-pieces-0.result c.args.items.now
    c.fill_alone.new.values c.requires.one c.fill_alone.ensures.values
