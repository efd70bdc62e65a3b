use Rattle.measure.proofs.Taking.{halves, together}
use Rattle.measure.proofs.lane.+fn-lanes-join+arg2+fn-lanes-join+arg3+lanes.Goals as goal

pub returns-clause-take : goal.returns-clause-take
returns-clause-take g t c =
    together g.L.Lane.counts _ _ _ _ _ c.args.pass c.enter-other.new.pass c.enter-other.result _ _ c.leave.new.pass
    (halves c.args.callers (g.L.Lane.turns c.args.lane.now))
    c.enter-other.ensures.enters
    c.join-one.ensures.first.0
    c.join-one.ensures.second.0
    c.leave.ensures.leaves
