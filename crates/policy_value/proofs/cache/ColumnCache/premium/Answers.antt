use Rattle.policy_value.proofs.Asking.{asked_from}
use Rattle.policy_value.proofs.Keeping.{premium_by_row, premium_of_row}
use Rattle.policy_value.proofs.cache.ColumnCache.premium.Goals as goal

pub returns-clause-right : goal.returns-clause-right
returns-clause-right c =
    let basis = c.args.basis.now in
    record {
      premiums = c.keep.ensures.right basis
          (premium_by_row basis c.args.key c.args.covered.now c.premium-premium.result c.requires.cover c.requires.row c.premium-premium.ensures.premium)
          (c.find.ensures.right basis c.requires.right.premiums);
      columns = rw c.keep.ensures.columns c.premium-premium.ensures.right;
      units = rw (c.keep.ensures.units, c.find.ensures.units) c.requires.right.units;
    }

pub returns-in-Some-clause-premium : goal.returns-in-Some-clause-premium
returns-in-Some-clause-premium c =
    premium_of_row c.args.basis.now c.args.key c.args.covered.now _ c.requires.cover c.requires.row
    (c.in-Some.ensures.found c.args.basis.now c.requires.right.premiums)

pub returns-in-Some-clause-right : goal.returns-in-Some-clause-right
returns-in-Some-clause-right c = record {
  premiums = c.find.ensures.right c.args.basis.now c.requires.right.premiums;
  columns = rw c.find.ensures.columns c.requires.right.columns;
  units = rw c.find.ensures.units c.requires.right.units;
}

pub returns-clause-keys : goal.returns-clause-keys
returns-clause-keys c =
    let miss = c.in_default.ensures.miss in
    asked_from c.args.key c.args.self.now (record c.find.new.self { columns = c.premium-premium.new.self }) c.keep.new.self miss.0 c.find.ensures.unkept c.keep.ensures.keys
