use Rattle.policy_value.proofs.Names.{refl, ap, ColumnCache, cap_by, cover_by}
use Rattle.policy_value.proofs.Asking.{asked_from, asked_then_kept}
use Rattle.policy_value.proofs.PerUnit.{unit_by_row, unit_of_row}
use Rattle.policy_value.proofs.cache.ColumnCache.unit.Goals as goal

pub returns-in-Some-clause-unit : goal.returns-in-Some-clause-unit
returns-in-Some-clause-unit c =
    unit_of_row c.args.basis.now c.args.key c.args.covered.now c.args.t _ c.requires.cover c.requires.row
    (c.in-Some.ensures.right c.args.basis.now c.requires.right.units.places)

pub returns-in-Some-clause-right : goal.returns-in-Some-clause-right
returns-in-Some-clause-right c = record {
  premiums = c.find_unit.ensures.premiums c.args.basis.now c.requires.right.premiums;
  columns = rw c.find_unit.ensures.columns c.requires.right.columns;
  units = rw c.find_unit.ensures.units c.requires.right.units;
}

pub returns-in-Some-clause-holds : goal.returns-in-Some-clause-holds
returns-in-Some-clause-holds c = rw c.find_unit.ensures.units c.in-Some.ensures.holds

pub priced-requires-clause-right : goal.priced-requires-clause-right
priced-requires-clause-right c = rw c.in_default.ensures.miss c.requires.right

pub returns-clause-unit : goal.returns-clause-unit
returns-clause-unit c =
    let covered = c.args.covered.now in
    c.unit_reserve-unit.ensures.unit (cover_by covered) (cap_by covered) c.args.t c.priced.ensures.made

pub returns-clause-right : goal.returns-clause-right
returns-clause-right c =
    let covered = c.args.covered.now in
    let unit = c.unit_reserve-unit.ensures.unit (cover_by covered) (cap_by covered) c.args.t c.priced.ensures.made in
    record {
      premiums = c.priced.ensures.right.premiums;
      columns = c.priced.ensures.right.columns;
      units = c.keep.ensures.right c.args.basis.now (unit_by_row c.args.basis.now c.args.key covered c.args.t _ c.requires.cover c.requires.row unit)
          c.priced.ensures.right.units;
    }

pub returns-clause-keys : goal.returns-clause-keys
returns-clause-keys c =
    let mid = c.find_unit.new.self in
    let priced = c.priced.new.self in
    let new = record priced { units = c.keep.new.self } in
    asked_from c.args.key c.args.self.now mid new (ap (λ (cache : ColumnCache). cache.premiums) c.in_default.ensures.miss)
    (ap (λ (cache : ColumnCache). cache.unkept) c.in_default.ensures.miss)
    (asked_then_kept c.args.key mid priced new c.priced.ensures.keys (record { most = refl; keys = refl; unkept = refl }))
