use Rattle.watcher_set.proofs.Halfway.{Halfway}
use Rattle.watcher_set.proofs.Telling.{Readied}
use Rattle.watcher_set.proofs.rounds.ready_all.Given as goal

abbrev pub invariant-loop-place : goal.invariant-loop-place
invariant-loop-place g l = Halfway (Readied g.B.Watcher) l.place-index l.initial.places l.places
