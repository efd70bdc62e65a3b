use Rattle.std.proofs.Common.{◌++◌, ◌∙◌, ap}
use Rattle.parallel_value.proofs.PieceSteps.{list_computed}
use Rattle.parallel_value.proofs.sharing.map_in.Goals as goal

pub returns-clause-function : goal.returns-clause-function
returns-clause-function g c f all =
    let given = c.in_ok-map_onto.ensures.values in
    given.1 ∙ ap (λ old. old ++ given.0) c.new-values.ensures.items
    ∙ list_computed g.P.Piece.takes g.P.Piece.gives c.args.pieces.now f c.args.items.now given.0 all given.2
