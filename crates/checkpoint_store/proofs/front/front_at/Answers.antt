-- Another file was compared with what its figures spell.
use Rattle.checkpoint_store.proofs.Names.{rules, ◌≡◌, ◌∷◌, ◌∙◌, sym, ap, Front, front_of}
use Rattle.checkpoint_store.proofs.Reading.{front_read}
use Rattle.checkpoint_store.proofs.front.front_at.Goals as goal

pub returns-else-eq-clause-exact : goal.returns-else-eq-clause-exact
returns-else-eq-clause-exact c = λ front fits is.
    let read : c.figures_in-front.result ≡ front = c.figures_in-front.ensures ∙ front_read c.args.bytes.now front fits is in
    let whole : c.front_with.result ≡ c.args.bytes.now = c.front_with.ensures ∙ ap (λ (f : Front). 1 ∷ front_of f) read ∙ sym is in
    search (rules, whole)
