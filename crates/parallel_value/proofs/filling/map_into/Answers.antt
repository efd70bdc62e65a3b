use Rattle.parallel_value.proofs.PieceSteps.{list_computed}
use Rattle.parallel_value.proofs.filling.map_into.Goals as goal

pub returns-clause-function : goal.returns-clause-function
returns-clause-function g c f all = list_computed g.P.Piece.takes g.P.Piece.gives c.args.pieces.now f c.args.items.now c.fill_by_all.new.values all
    c.fill_by_all.ensures.values
