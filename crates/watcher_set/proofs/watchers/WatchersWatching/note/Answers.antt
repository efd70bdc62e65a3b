use Rattle.std.proofs.Common.{◌∙◌, ap, length}
use Rattle.arrayvec.proofs.ArrayVecLemmas.{items-with_items}
use Rattle.watcher_set.proofs.watchers.WatchersWatching.note.Goals as goal

pub note_all-requires-clause-next : goal.note_all-requires-clause-next
note_all-requires-clause-next g c =
    let next = c.requires.next in
    rw c.as_mut_slice.ensures.value (next.0, next.1, _, next.2, next.3, next.4)

pub returns-clause-told : goal.returns-clause-told
returns-clause-told g c before commands told at =
    let same = items-with_items c.args.self.now.places c.note_all.new.places
    (c.note_all.auto.places ∙ ap length c.as_mut_slice.ensures.value) in
    rw same (c.note_all.ensures before commands _ (rw c.as_mut_slice.ensures.value told) at)
