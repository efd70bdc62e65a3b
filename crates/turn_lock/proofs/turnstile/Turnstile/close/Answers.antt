use Rattle.turn_lock.proofs.Names.{sym, refl, subst, PassFacts}
use Rattle.std.specs.Option.{IsSome}
use Rattle.turn_lock.proofs.Passing.{facts_of}
use Rattle.turn_lock.proofs.Ending.{Ended, ends, is_value}
use Rattle.turn_lock.proofs.turnstile.Turnstile.close.Goals.{After-take}
use Rattle.turn_lock.proofs.turnstile.Turnstile.close.Goals as goal

ended : (g : _) (c : After-take g) → Ended g.T.Stands.opening g.T.Stands.legal g.T.Stands.stands (g.T.Stands.opening c.self.inside.board.shared.key.value) c.args.pass c.take.result
ended g c = let T = g.T.Stands in
    ends T.opening T.legal T.stands _ c.into_place.result c.args.pass _ _ c.take.result c.into_place.ensures.same c.into_place.ensures.pass c.requires.all c.close_with-closed.ensures.values.2 c.take.ensures.value

pub unwrap-requires : goal.unwrap-requires
unwrap-requires g c = subst IsSome (sym (ended g c).is) refl

pub returns-clause-stood : goal.returns-clause-stood
returns-clause-stood g c = let T = g.T.Stands in (is_value T.opening T.legal T.stands _ c.args.pass c.take.result c.unwrap.result c.into_value-value.result (ended g (goal.at.returns-clause-stood g c).After-take) c.unwrap.ensures c.into_value-value.ensures).0

pub returns-clause-opened : goal.returns-clause-opened
returns-clause-opened g c = let T = g.T.Stands in (is_value T.opening T.legal T.stands _ c.args.pass c.take.result c.unwrap.result c.into_value-value.result (ended g (goal.at.returns-clause-opened g c).After-take) c.unwrap.ensures c.into_value-value.ensures).1

pub returns-clause-whole : goal.returns-clause-whole
returns-clause-whole g c = (ended g (goal.at.returns-clause-whole g c).After-take).whole

pub returns-clause-facts : goal.returns-clause-facts
returns-clause-facts g c = let T = g.T.Stands in subst (PassFacts T.legal) c.into_place.ensures.same (facts_of T.legal c.into_place.result c.into_place.ensures.pass.facts)
