use Rattle.parallel_value.proofs.PartSteps.{made_alone}
use Rattle.parallel_value.proofs.sharing.make_by_one.Goals as goal

pub returns-clause-made : goal.returns-clause-made
returns-clause-made g c =
    made_alone g.P.Piece.takes g.P.Piece.gives c.args.pieces.now c.index-pieces-0.result c.args.items_in_part c.args.items.now c.make_alone.result c.requires.one
    c.make_alone.ensures.made
