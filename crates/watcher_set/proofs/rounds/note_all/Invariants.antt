use Rattle.watcher_set.specs.inside.Calls.{Hears}
use Rattle.watcher_set.proofs.Halfway.{Halfway}
use Rattle.watcher_set.proofs.rounds.note_all.Given as goal

abbrev pub invariant-loop-place : goal.invariant-loop-place
invariant-loop-place g l = Halfway (Hears g.B.Watcher l.position l.command) l.place-index l.initial.places l.places
