use Rattle.watcher_set.proofs.Names.{◌≡◌, map, take, report_at}
use Rattle.watcher_set.proofs.rounds.reports_of_all.Given as goal

abbrev pub invariant-loop-place : goal.invariant-loop-place
invariant-loop-place g l = l.reports ≡ map (report_at g.B.Watcher) (take l.place-index l.places)
