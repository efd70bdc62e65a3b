use Rattle.parallel_value.proofs.Names.{MayGive}
use Rattle.parallel_value.proofs.PartSteps.{adds_more, may_at_work, others_still, take_at_work}
use Rattle.parallel_value.proofs.sharing.add_by_few.Goals as goal

pub add_all-requires-clause-taken : goal.add_all-requires-clause-taken
add_all-requires-clause-taken g c κs within =
    take_at_work g.P.Piece.takes g.P.Piece.gives c.args.pieces.now c.split_at_mut-at_work.result.0.now c.split_at_mut-at_work.result.1.now
    c.args.items.now c.split_at_mut-at_work.ensures.value c.requires.taken

pub returns-clause-values : goal.returns-clause-values
returns-clause-values g c =
    adds_more (MayGive g.P.Piece.gives c.split_at_mut-at_work.result.0.now) (MayGive g.P.Piece.gives c.args.pieces.now) c.args.items.now c.args.values.now.items c.add_all.new.values.items c.add_all.result
    (may_at_work g.P.Piece.takes g.P.Piece.gives c.args.pieces.now c.split_at_mut-at_work.result.0.now c.split_at_mut-at_work.result.1.now
    c.split_at_mut-at_work.ensures.value) c.add_all.ensures.values

pub returns-clause-pieces : goal.returns-clause-pieces
returns-clause-pieces g c =
    others_still g.P.Piece.takes g.P.Piece.gives c.args.pieces.now c.split_at_mut-at_work.result.0.now c.split_at_mut-at_work.result.1.now
    c.add_all.new.pieces c.split_at_mut-at_work.ensures.value c.add_all.ensures.pieces
