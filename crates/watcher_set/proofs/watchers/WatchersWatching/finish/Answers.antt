use Rattle.watcher_set.proofs.watchers.WatchersWatching.finish.Goals as goal

pub returns : goal.returns
returns g c before commands told =
    c.reports_of_all.ensures before commands _ (rw c.as_slice.ensures.value told)
