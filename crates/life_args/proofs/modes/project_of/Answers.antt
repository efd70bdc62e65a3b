use Rattle.life_args.proofs.Names.{ap, codes, unwrap_or, [], found_of, Project, AreWorkersOr, IsBasisOr, texts_of}
use Rattle.life_args.proofs.Saying.{option_refused}
use Rattle.life_args.proofs.modes.project_of.Goals as goal

pub returns-in_err-workers : goal.returns-in_err-workers
returns-in_err-workers c =
    option_refused Project (found_of c.args.line.now) (codes "workers") AreWorkersOr (texts_of c.get_strs-2.result) c.from_residual-in_err-workers.result c.in_err-workers.field-0.0 c.from_residual-in_err-workers.ensures.1
    (ap (λ o. unwrap_or o []) c.get_strs-2.ensures) c.in_err-workers.ensures (λ said. (said.0.2, said.1.1))

pub returns-in_err-basis : goal.returns-in_err-basis
returns-in_err-basis c =
    option_refused Project (found_of c.args.line.now) (codes "basis") IsBasisOr (texts_of c.get_strs-3.result) c.from_residual-in_err-basis.result c.in_err-basis.field-0.0 c.from_residual-in_err-basis.ensures.1
    (ap (λ o. unwrap_or o []) c.get_strs-3.ensures) c.in_err-basis.ensures (λ said. (said.0.3, said.1.2))
