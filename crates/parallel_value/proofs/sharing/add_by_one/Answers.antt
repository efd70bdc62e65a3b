use Rattle.parallel_value.proofs.Names.{MayGive}
use Rattle.parallel_value.proofs.PartSteps.{adds_more, one_alone}
use Rattle.parallel_value.proofs.sharing.add_by_one.Goals as goal

pub returns-clause-values : goal.returns-clause-values
returns-clause-values g c =
    adds_more (g.P.Piece.gives _) (MayGive g.P.Piece.gives c.args.pieces.now) c.args.items.now c.args.values.now.items c.add_alone.new.values.items c.add_alone.result
    (one_alone g.P.Piece.takes g.P.Piece.gives c.args.pieces.now c.index-pieces-0.result c.requires.one) c.add_alone.ensures.values
