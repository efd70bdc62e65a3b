-- After a sync that succeeded what is read is the one image.
use Rattle.memory_disk.proofs.Names.{ap, first_bytes}
use Rattle.memory_disk.proofs.Kept.{synced_at}
use Rattle.memory_disk.proofs.history.History.note_sync.Goals as goal

pub returns-clause-durable : goal.returns-clause-durable
returns-clause-durable c = λ kept succeeded.
    let old = c.args.self.now in
    let new = c.note.new.self in
    synced_at (first_bytes old.first old.bytes) (first_bytes new.first new.bytes) old.bytes.items new.bytes.items old.calls.items new.calls.items c.note.result c.args.failed
    c.note.ensures.first (ap (λ v. v.items) c.note.ensures.bytes) (old.replayed, old.within) c.note.ensures.kept kept succeeded
