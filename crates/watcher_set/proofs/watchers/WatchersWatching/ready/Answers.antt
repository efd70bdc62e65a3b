use Rattle.std.proofs.Common.{◌∙◌, ap, length}
use Rattle.arrayvec.proofs.ArrayVecLemmas.{items-with_items}
use Rattle.watcher_set.proofs.watchers.WatchersWatching.ready.Goals as goal

pub returns-clause-told : goal.returns-clause-told
returns-clause-told g c before commands told =
    let same = items-with_items c.args.self.now.places c.ready_all.new.places
    (c.ready_all.auto.places ∙ ap length c.as_mut_slice.ensures.value) in
    rw same (c.ready_all.ensures.told before commands _ (rw c.as_mut_slice.ensures.value told))
