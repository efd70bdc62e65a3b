use Rattle.present_value.proofs.Names.{◌-◌, ◌*◌, arith, ap, ◌∙◌, rate_at, CanEnd, pair_at}
use Rattle.present_value.specs.inside.Earlier.{earlier}
use Rattle.present_value.proofs.Ageing.{gone_down, last_most, rate_below}
use Rattle.present_value.proofs.Places.{year_is}
use Rattle.present_value.proofs.column.Column.extend.Goals as goal

pub value_before-requires-clause-lo : goal.value_before-requires-clause-lo
value_before-requires-clause-lo c =
    let can : CanEnd c.args.table.now c.args.bp c.loop-self.self.end c.args.age = rw c.loop-self.invariant.stays.1 c.requires.can in
    (last_most c.args.table.now c.args.bp c.loop-self.self c.args.age _ c.loop-self.invariant.column can c.loop-self-test.true c.rates_from-rates.ensures.rates c.rates_from-rates.ensures.bound).0

pub value_before-requires-clause-hi : goal.value_before-requires-clause-hi
value_before-requires-clause-hi c =
    let can : CanEnd c.args.table.now c.args.bp c.loop-self.self.end c.args.age = rw c.loop-self.invariant.stays.1 c.requires.can in
    (last_most c.args.table.now c.args.bp c.loop-self.self c.args.age _ c.loop-self.invariant.column can c.loop-self-test.true c.rates_from-rates.ensures.rates c.rates_from-rates.ensures.bound).1

pub loop-self-preserved : goal.loop-self-preserved
loop-self-preserved c =
    let column = c.loop-self.self in
    let can : CanEnd c.args.table.now c.args.bp column.end c.args.age = rw c.loop-self.invariant.stays.1 c.requires.can in
    let rate = (rate_below c.args.table.now c.args.bp column c.args.age _ c.loop-self.invariant.column can c.loop-self-test.true c.rates_from-rates.ensures.rates).1 in
    let year = year_is c.args.bp c.year_reciprocal-year.result.divisor c.year_reciprocal-year.ensures in
    let later = pair_at column.pairs column.from in
    let here = c.value_before.ensures ∙ ap (λ r. earlier column.stream r (10000 * c.year_reciprocal-year.result.divisor) later) rate
    ∙ ap (λ w. earlier column.stream (rate_at c.args.table.now (column.from - 1)) w later) year in
    record {
      column = gone_down c.args.table.now c.args.bp column _ c.loop-self.invariant.column (omega (arith, c.loop-self-test.true)) here;
      stays = c.loop-self.invariant.stays;
      least = omega (arith, c.loop-self-test.true);
    }
