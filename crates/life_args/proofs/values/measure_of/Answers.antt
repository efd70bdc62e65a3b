use Rattle.life_args.proofs.Names.{IsMeasureBy, IsLone, texts_of}
use Rattle.life_args.proofs.Answering.{a_measure, refused}
use Rattle.life_args.proofs.values.measure_of.Goals as goal

pub returns-in_err-mean : goal.returns-in_err-mean
returns-in_err-mean c =
    let means = texts_of c.args.mean in
    let deficiencies = texts_of c.args.deficiency in
    refused (IsLone means) (IsMeasureBy means deficiencies) c.from_residual.result c.in_err-mean.field-0.0 c.from_residual.ensures.1 c.in_err-mean.ensures
    (λ one asks. (a_measure means deficiencies one asks).0)

pub returns-in_err-deficiency : goal.returns-in_err-deficiency
returns-in_err-deficiency c =
    let means = texts_of c.args.mean in
    let deficiencies = texts_of c.args.deficiency in
    refused (IsLone deficiencies) (IsMeasureBy means deficiencies) c.from_residual-in_err-deficiency.result c.in_err-deficiency.field-0.0 c.from_residual-in_err-deficiency.ensures.1
    c.in_err-deficiency.ensures (λ one asks. (a_measure means deficiencies one asks).1)
