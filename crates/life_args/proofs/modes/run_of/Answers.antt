use Rattle.life_args.proofs.Names.{ap, codes, unwrap_or, [], found_of, Run, IsBasisOr, texts_of}
use Rattle.life_args.proofs.Saying.{option_refused}
use Rattle.life_args.proofs.modes.run_of.Goals as goal

pub returns-in_err-basis : goal.returns-in_err-basis
returns-in_err-basis c =
    option_refused Run (found_of c.args.line.now) (codes "basis") IsBasisOr (texts_of c.get_strs-2.result) c.from_residual.result c.in_err-basis.field-0.0 c.from_residual.ensures.1
    (ap (λ o. unwrap_or o []) c.get_strs-2.ensures) c.in_err-basis.ensures (λ said. (said.0, said.1.1))
