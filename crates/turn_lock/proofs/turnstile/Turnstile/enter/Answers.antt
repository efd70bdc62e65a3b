use Rattle.turn_lock.proofs.Passing.{enters}
use Rattle.turn_lock.proofs.turnstile.Turnstile.enter.Goals as goal

pub returns-clause-enters : goal.returns-clause-enters
returns-clause-enters g c =
    enters g.T.Stands.legal c.args.pass.now c.pass.inside.place c.split-place.new.place c.split-place.result c.name-caller.new.place c.name-caller.result c.pass.view_is c.split-place.ensures.kept c.split-place.ensures.given
    c.name-caller.ensures.now c.name-caller.ensures.fresh c.pass.invariant.facts
