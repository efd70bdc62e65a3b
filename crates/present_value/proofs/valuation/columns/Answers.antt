use Rattle.present_value.proofs.Names.{◌+◌, ◌≤◌, arith, sym, ap, ◌∙◌, inl, inr, refl, leb_tells, cover_of, value_to}
use Rattle.present_value.proofs.Ends.{benefits_in, premiums_in}
use Rattle.present_value.proofs.Steps.{ben-pair, ann-pair, ann-after}
use Rattle.present_value.proofs.valuation.columns.Goals as goal

pub returns-clause-rounded : goal.returns-clause-rounded
returns-clause-rounded c =
    let table = c.args.table.now in
    let shape = c.args.shape.now in
    let bp = c.args.bp in
    let stream = c.of_benefits-benefits.ensures in
    record {
      years = refl;
      payments = refl;
      benefits = record {
        within = λ t within. c.values_from.ensures.within t within
            ∙ ap (λ s. value_to table bp s (shape.age + shape.n) (shape.age + t)) stream ∙ benefits_in table shape bp t within;
        rest = c.values_from.ensures.rest;
      };
      premiums = record {
        within = λ t within. elim (leb_tells t shape.h) [
          | inl due ↦ c.values_from-2.ensures.within t due.1 ∙ premiums_in table shape bp t c.requires.covered due.1
          | inr after ↦ c.values_from-2.ensures.rest t after.1 ∙ sym (ann-after (cover_of table shape bp) t within (omega (arith, after.1)))
        ];
        rest = λ t above. c.values_from-2.ensures.rest t (omega (arith, c.requires.covered));
      };
    }

pub returns-clause-exact : goal.returns-clause-exact
returns-clause-exact c =
    let cover = cover_of c.args.table.now c.args.shape.now c.args.bp in
    let are = returns-clause-rounded c in
    let years : c.args.shape.now.n ≤ 131 = omega (arith, c.values_from.ensures.ages) in
    record {
      benefits = λ t within. rw (are.benefits.within t within) (ben-pair cover t within years);
      premiums = λ t within. rw (are.premiums.within t within) (ann-pair cover t c.requires.covered within years);
    }
