use Rattle.life_args.proofs.Names.{ap, codes, subst, sym, unwrap_or, [], found_of, Value, IsPositionOr, AreWorkersOr, IsBasisOr, IsMeasureBy, values_named, AsksFor, texts_of}
use Rattle.life_args.proofs.Answering.{refused}
use Rattle.life_args.proofs.Saying.{option_refused, said_in}
use Rattle.life_args.proofs.modes.value_of.Goals as goal

pub returns-in_err-at : goal.returns-in_err-at
returns-in_err-at c =
    option_refused Value (found_of c.args.line.now) (codes "at") IsPositionOr (texts_of c.get_strs-2.result) c.from_residual-in_err-at.result c.in_err-at.field-0.0 c.from_residual-in_err-at.ensures.1
    (ap (λ o. unwrap_or o []) c.get_strs-2.ensures) c.in_err-at.ensures (λ said. (said.0.1, said.1.1))

pub returns-in_err-workers : goal.returns-in_err-workers
returns-in_err-workers c =
    option_refused Value (found_of c.args.line.now) (codes "workers") AreWorkersOr (texts_of c.get_strs-3.result) c.from_residual-in_err-workers.result c.in_err-workers.field-0.0 c.from_residual-in_err-workers.ensures.1
    (ap (λ o. unwrap_or o []) c.get_strs-3.ensures) c.in_err-workers.ensures (λ said. (said.0.2, said.1.2))

pub returns-in_err-measure : goal.returns-in_err-measure
returns-in_err-measure c =
    let found = found_of c.args.line.now in
    let deficiencies = texts_of c.get_strs-5.result in
    refused (IsMeasureBy (texts_of c.get_strs-4.result) deficiencies) (AsksFor Value found) c.from_residual-in_err-measure.result c.in_err-measure.field-0.0 c.from_residual-in_err-measure.ensures.1
    c.in_err-measure.ensures (λ one asks.
    let said = said_in Value found one asks in
    let its = subst (λ vs. IsMeasureBy (values_named found (codes "mean")) vs said.0.4) (sym (ap (λ o. unwrap_or o []) c.get_strs-5.ensures)) said.1.4 in
    (said.0.4, subst (λ vs. IsMeasureBy vs deficiencies said.0.4) (sym (ap (λ o. unwrap_or o []) c.get_strs-4.ensures)) its))

pub returns-in_err-basis : goal.returns-in_err-basis
returns-in_err-basis c =
    option_refused Value (found_of c.args.line.now) (codes "basis") IsBasisOr (texts_of c.get_strs-6.result) c.from_residual-in_err-basis.result c.in_err-basis.field-0.0 c.from_residual-in_err-basis.ensures.1
    (ap (λ o. unwrap_or o []) c.get_strs-6.ensures) c.in_err-basis.ensures (λ said. (said.0.3, said.1.3))
