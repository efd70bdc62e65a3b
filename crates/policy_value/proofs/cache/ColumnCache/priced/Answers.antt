use Rattle.crvm_reserve.proofs.Tables.{reserved}
use Rattle.policy_value.proofs.cache.ColumnCache.priced.Goals as goal

pub returns-clause-made : goal.returns-clause-made
returns-clause-made c =
    let covered = c.args.covered.now in
    let is = c.requires.cover.is in
    record {
      reserved = reserved covered.own.table.now covered.next.table.now covered.shape covered.own.bp is.ages c.shape_of_cap-cap.ensures.ages is.can is.capped;
      within = c.requires.year;
      values_are = c.values-values.ensures.values;
      premium_is = c.premium-premium.ensures.premium;
    }
