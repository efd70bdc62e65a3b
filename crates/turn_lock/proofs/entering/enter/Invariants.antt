use Rattle.turn_lock.specs.inside.Places.{IsNow}
use Rattle.turn_lock.proofs.entering.enter.Given as goal

abbrev pub invariant-loop : goal.invariant-loop
invariant-loop g l = IsNow l.initial.place l.place l.initial.place.me
