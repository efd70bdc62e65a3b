-- Nothing was heard so far.
use Rattle.std.proofs.Common.{◌≡◌}
use Rattle.rtrb.specs.Ring.{SameConsumer, received}
use Rattle.moment_ring.proofs.inlet.MomentInlet.next.Given as goal

abbrev pub invariant-loop : goal.invariant-loop
invariant-loop g l =
    SameConsumer l.initial.self.ring l.self.ring × (received l.self.ring ≡ received l.initial.self.ring)
