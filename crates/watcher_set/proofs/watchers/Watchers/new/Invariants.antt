use Rattle.std.proofs.Common.{◌≡◌, ◌++◌, length, map}
use Rattle.std.specs.Vec.Iter.{into_iter_items, into_iter_len}
use Rattle.watcher_set.specs.declared.place.Place.TheVariants.{Listening}
use Rattle.watcher_set.proofs.watchers.Watchers.new.Given as goal

abbrev pub invariant-loop-auditor : goal.invariant-loop-auditor
invariant-loop-auditor g l = (l.yielded ++ into_iter_items l.auditor-iterator ≡ into_iter_items l.initial.auditor-iterator)
    × (l.places.items ≡ map Listening l.yielded)
    × (into_iter_len l.auditor-iterator ≡ length (into_iter_items l.auditor-iterator))
