use Rattle.shared_office.proofs.Names.{ap, ◌∙◌, Opened}
use Rattle.shared_office.proofs.Turned.{outlet_on, turned}
use Rattle.shared_office.proofs.turns.PostTurnSharedState.run.Goals as goal

pub post-requires-clause-stands : goal.post-requires-clause-stands
post-requires-clause-stands g c = (c.requires.lent.0, c.requires.lent.3.stood.state)

pub returns-clause-stood : goal.returns-clause-stood
returns-clause-stood g c = λ history seen made lent. record {
  state = c.post.ensures.stands history lent.stood.state;
  handed = ap (λ (opened : Opened g.row.D.Denot). opened.auditors) c.post.ensures.keeps.opened ∙ lent.stood.handed;
  outlet = outlet_on _ _ _ lent.stood.outlet c.post.ensures.keeps.outlet;
  untouched = λ none. turned history _ none;
}
