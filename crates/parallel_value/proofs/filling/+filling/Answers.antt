use Rattle.parallel_value.proofs.Names.{◌≡◌, ◌++◌, sym, ap₂, ◌∙◌, take-append-drop}
use Rattle.parallel_value.proofs.PieceSteps.{as_before_whole, list_whole}
use Rattle.parallel_value.proofs.filling.+filling.Goals as goal

pub fill_by_all-returns-clause-values : goal.fill_by_all-returns-clause-values
fill_by_all-returns-clause-values g t c =
    let whole : c.args.items.now ≡ c.split_at.result.0.now ++ c.split_at.result.1.now =
    sym (ap₂ ◌++◌ c.split_at.ensures.front c.split_at.ensures.back ∙ take-append-drop c.share_of-cut.result c.args.items.now) in
    list_whole g.P.Piece.takes g.P.Piece.gives c.args.pieces.now c.split_at_mut-front.result.0.now c.split_at_mut-front.result.1.now
    c.args.items.now c.split_at.result.0.now c.split_at.result.1.now c.fill_both.new.to_first c.fill_both.new.to_last
    c.split_at_mut-front.ensures.value whole c.fill_both.ensures.first c.fill_both.ensures.last

pub fill_by_all-returns-clause-pieces : goal.fill_by_all-returns-clause-pieces
fill_by_all-returns-clause-pieces g t c =
    as_before_whole g.P.Piece.takes g.P.Piece.gives c.args.pieces.now c.split_at_mut-front.result.0.now c.split_at_mut-front.result.1.now
    c.fill_both.new.front c.fill_both.new.back c.split_at_mut-front.ensures.value c.fill_both.ensures.front c.fill_both.ensures.back
