use Rattle.present_value.proofs.Names.{◌≡◌, ℕ, ◌+◌, ◌-◌, ◌*◌, ◌<◌, ap, sym, ◌∙◌, arith, length-set, get_or-set_other, ONE, rate_at, pair_at, pair_of, value_to}
use Rattle.std.specs.Prelude.{replicate}
use Rattle.present_value.specs.inside.Earlier.{earlier}
use Rattle.present_value.specs.declared.pair.Pair.{Pair}
use Rattle.present_value.proofs.Ageing.{next_most, value_to-earlier, value_to-end}
use Rattle.present_value.proofs.Places.{empty_at, put, year_is}
use Rattle.present_value.proofs.valuation.values_from.Goals as goal

pub loop-t-init : goal.loop-t-init
loop-t-init c =
    let years = c.args.years in
    let end = c.args.age + years in
    let paid = pair_of c.paid_at_end-paid.result c.paid_at_end-paid.result in
    let few = c.rates_from-rates.ensures.ages in
    let count = c.rates_from-rates.ensures.rates.count in
    let last = c.requires.0.last in
    let room : years < 132 = omega (arith, few, count, last) in
    let here : paid ≡ value_to c.args.table.now c.args.bp c.args.stream end end =
    ap (λ k. pair_of k k) c.paid_at_end-paid.ensures ∙ sym (value_to-end c.args.table.now c.args.bp c.args.stream end) in
    record {
      places = length-set (replicate 132 (pair_of 0 0)) years paid;
      within = omega arith;
      done = λ k least most. put (replicate 132 (pair_of 0 0)) paid (λ t. value_to c.args.table.now c.args.bp c.args.stream end (c.args.age + t)) years room here k
          (λ other. absurd (other (omega (arith, least, most))));
      rest = λ k above. get_or-set_other (replicate 132 (pair_of 0 0)) years k paid (pair_of 0 0) (omega (arith, above)) ∙ empty_at 132 k;
    }

pub value_before-requires-clause-lo : goal.value_before-requires-clause-lo
value_before-requires-clause-lo c =
    (next_most c.args.table.now c.args.bp c.args.stream (c.args.age + c.args.years) c.args.age c.loop-t.t _ _ (c.loop-t.invariant.done c.loop-t.t (omega arith) c.loop-t.invariant.within)
    c.requires.0 c.rates_from-rates.ensures.rates c.rates_from-rates.ensures.bound c.rates_from-rates.ensures.ages).0

pub value_before-requires-clause-hi : goal.value_before-requires-clause-hi
value_before-requires-clause-hi c =
    (next_most c.args.table.now c.args.bp c.args.stream (c.args.age + c.args.years) c.args.age c.loop-t.t _ _ (c.loop-t.invariant.done c.loop-t.t (omega arith) c.loop-t.invariant.within)
    c.requires.0 c.rates_from-rates.ensures.rates c.rates_from-rates.ensures.bound c.rates_from-rates.ensures.ages).1

pub loop-t-preserved : goal.loop-t-preserved
loop-t-preserved c =
    let table = c.args.table.now in
    let bp = c.args.bp in
    let stream = c.args.stream in
    let age = c.args.age in
    let end = age + c.args.years in
    let t = c.loop-t.t in
    let pairs = c.loop-t.pairs in
    let old = c.loop-t.invariant in
    let above = c.loop-t-test.true in
    let within = old.within in
    let count = c.rates_from-rates.ensures.rates.count in
    let last = c.requires.0.last in
    let few = c.rates_from-rates.ensures.ages in
    let value : ℕ → Pair = λ k. value_to table bp stream end k in
    let rate = c.rates_from-rates.ensures.rates.each (t - 1) (omega (arith, count, last, within, above)) in
    let year = year_is bp c.year_reciprocal-year.result.divisor c.year_reciprocal-year.ensures in
    let next : age + t ≡ age + (t - 1) + 1 = omega (arith, above) in
    let later = old.done t (omega arith) within ∙ ap value next in
    let here = c.value_before.ensures ∙ ap (λ r. earlier stream r (10000 * c.year_reciprocal-year.result.divisor) (pair_at pairs t)) rate
    ∙ ap (λ w. earlier stream (rate_at table (age + (t - 1))) w (pair_at pairs t)) year
    ∙ ap (λ p. earlier stream (rate_at table (age + (t - 1))) (ONE * (10000 + bp)) p) later
    ∙ value_to-earlier table bp stream end (age + (t - 1)) (omega (arith, above, within)) in
    record {
      places = length-set pairs (t - 1) _ ∙ old.places;
      within = omega (arith, within);
      done = λ k least most. put pairs _ (λ k. value (age + k)) (t - 1) (omega (arith, old.places, above, within, few, count, last)) here k
          (λ other. old.done k (omega (arith, least, other)) most);
      rest = λ k beyond. get_or-set_other pairs (t - 1) k _ (pair_of 0 0) (omega (arith, within, beyond)) ∙ old.rest k beyond;
    }
