use Rattle.policy_value.proofs.Covering.{paid_up_for}
use Rattle.policy_value.proofs.cache.ColumnCache.valued.Goals as goal

pub returns-clause-made : goal.returns-clause-made
returns-clause-made c =
    let covered = c.args.covered.now in
    paid_up_for covered.own.table.now covered.shape covered.own.bp c.args.t _ c.requires.cover.1.ages c.requires.cover.1.can c.requires.year c.values.ensures.values
