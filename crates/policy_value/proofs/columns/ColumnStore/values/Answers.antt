use Rattle.policy_value.proofs.Names.{arith, ◌+◌, ◌≤◌, sym, ap, ◌∙◌, cover_of, value_to}
use Rattle.present_value.proofs.Ends.{benefits_in, premiums_in}
use Rattle.present_value.proofs.Steps.{ann-after}
use Rattle.policy_value.proofs.columns.ColumnStore.values.Goals as goal

pub returns-then-t-shape-clause-values : goal.returns-then-t-shape-clause-values
returns-then-t-shape-clause-values c =
    let table = c.args.rates.now.table.now in
    let bp = c.args.rates.now.bp in
    let shape = c.args.shape.now in
    let stream = c.of_benefits.ensures in
    record {
      benefits = c.value-ben.ensures.value ∙ ap (λ s. value_to table bp s (shape.age + shape.n) (shape.age + c.args.t)) stream ∙ benefits_in table shape bp c.args.t c.requires.year;
      premiums = sym (ann-after (cover_of table shape bp) c.args.t c.requires.year c.if-t-shape.true);
    }

pub returns-clause-values : goal.returns-clause-values
returns-clause-values c =
    let table = c.args.rates.now.table.now in
    let bp = c.args.rates.now.bp in
    let shape = c.args.shape.now in
    let stream = c.of_benefits.ensures in
    let due : c.args.t ≤ shape.h = omega (arith, c.if-t-shape.false) in
    record {
      benefits = c.value-ben.ensures.value ∙ ap (λ s. value_to table bp s (shape.age + shape.n) (shape.age + c.args.t)) stream ∙ benefits_in table shape bp c.args.t c.requires.year;
      premiums = c.value-ann.ensures.value ∙ premiums_in table shape bp c.args.t c.requires.can.0.covered due;
    }
