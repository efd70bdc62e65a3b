use Rattle.life_args.proofs.Names.{ap, unwrap_or, [], found_of, State, IsPolicyOr, alone_id, texts_of}
use Rattle.life_args.proofs.Saying.{option_refused}
use Rattle.life_args.proofs.modes.state_of.Goals as goal

pub returns-in_err-id : goal.returns-in_err-id
returns-in_err-id c =
    option_refused State (found_of c.args.line.now) alone_id IsPolicyOr (texts_of c.get_strs.result) c.from_residual.result c.in_err-id.field-0.0 c.from_residual.ensures.1
    (ap (λ o. unwrap_or o []) c.get_strs.ensures) c.in_err-id.ensures (λ said. said)
