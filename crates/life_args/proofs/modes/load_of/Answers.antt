use Rattle.life_args.proofs.Names.{◌∙◌, ap, decimal, sym, unwrap_or, ◌∷◌, [], found_of, Load, AreDrawn, AsksFor}
use Rattle.life_args.proofs.Answering.{refused}
use Rattle.life_args.proofs.Saying.{drawn_are, said_in}
use Rattle.life_args.proofs.modes.load_of.Goals as goal

pub returns-in_err-seed : goal.returns-in_err-seed
returns-in_err-seed c =
    let found = found_of c.args.line.now in
    let values = sym (ap (λ o. unwrap_or o []) c.get_strs.ensures) ∙ c.in-Some.ensures.some in
    refused (AreDrawn c.in-Some.seed.now c.in-Some.count.now c.in-Some.lanes.now) (AsksFor Load found) c.from_residual.result c.in_err-seed.field-0.0 c.from_residual.ensures.1 c.in_err-seed.ensures
    (λ one asks. let said = said_in Load found one asks in ((said.0.0, said.0.1, said.0.2), drawn_are _ _ _ (c.in-Some.workers.now ∷ []) (decimal said.0.3 ∷ []) _ _ _ (sym values ∙ said.1.0) said.1.1))
