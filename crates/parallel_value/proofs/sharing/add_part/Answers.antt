use Rattle.parallel_value.proofs.Names.{MayGive}
use Rattle.parallel_value.proofs.PartSteps.{adds_more}
use Rattle.parallel_value.proofs.sharing.add_part.Goals as goal

pub returns-in-None-clause-values : goal.returns-in-None-clause-values
returns-in-None-clause-values g c workers one none =
    adds_more (g.P.Piece.gives c.args.piece.now) (MayGive g.P.Piece.gives workers) c.args.part.now c.args.values.now.items c.add_alone.new.values.items c.add_alone.result one c.add_alone.ensures.values
