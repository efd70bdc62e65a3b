use Rattle.std.proofs.Common.{[], refl, arith}
use Rattle.decimal_text.specs.inside.Parts.{decimal_of}
use Rattle.decimal_text.proofs.Totals.{Counts-none, totals, many_units, one_and_more, exact_units, few_units}
use Rattle.decimal_text.proofs.rate.rate_of.Goals as goal

pub returns-then-total-gt-ONE : goal.returns-then-total-gt-ONE
returns-then-total-gt-ONE c =
    let d = decimal_of c.args.parts.now in
    let counts = c.push_all-2.ensures c.saturating_sub-places.result d.whole (c.push_all.ensures c.saturating_sub-places.result [] (Counts-none _ _ refl refl refl)) in
    let t = totals d c.saturating_sub-places.result _ c.total-total.result c.requires.whole c.requires.fraction c.requires.some_digit c.saturating_sub-places.ensures counts c.total-total.ensures in
    many_units d c.total-total.result _ t c.if-total-gt-ONE.true

pub returns-then-units : goal.returns-then-units
returns-then-units c =
    let d = decimal_of c.args.parts.now in
    let counts = c.push_all-2.ensures c.saturating_sub-places.result d.whole (c.push_all.ensures c.saturating_sub-places.result [] (Counts-none _ _ refl refl refl)) in
    let t = totals d c.saturating_sub-places.result _ c.total-total.result c.requires.whole c.requires.fraction c.requires.some_digit c.saturating_sub-places.ensures counts c.total-total.ensures in
    (exact_units d c.total-total.result _ t c.if-total-gt-ONE.false c.if-units.true, c.if-total-gt-ONE.false)

pub returns-then-total-eq-ONE : goal.returns-then-total-eq-ONE
returns-then-total-eq-ONE c =
    let d = decimal_of c.args.parts.now in
    let counts = c.push_all-2.ensures c.saturating_sub-places.result d.whole (c.push_all.ensures c.saturating_sub-places.result [] (Counts-none _ _ refl refl refl)) in
    let t = totals d c.saturating_sub-places.result _ c.total-total.result c.requires.whole c.requires.fraction c.requires.some_digit c.saturating_sub-places.ensures counts c.total-total.ensures in
    one_and_more d c.total-total.result _ t c.if-total-eq-ONE.true c.if-units.false

pub returns : goal.returns
returns c =
    let d = decimal_of c.args.parts.now in
    let counts = c.push_all-2.ensures c.saturating_sub-places.result d.whole (c.push_all.ensures c.saturating_sub-places.result [] (Counts-none _ _ refl refl refl)) in
    let t = totals d c.saturating_sub-places.result _ c.total-total.result c.requires.whole c.requires.fraction c.requires.some_digit c.saturating_sub-places.ensures counts c.total-total.ensures in
    few_units d c.total-total.result _ t (omega arith) c.if-units.false
