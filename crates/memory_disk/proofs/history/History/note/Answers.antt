-- The call was kept or not, and wrote nothing.
use Rattle.memory_disk.proofs.Names.{is_ok, first_bytes}
use Rattle.memory_disk.proofs.Kept.{noted, noted_looks, noted_time}
use Rattle.memory_disk.proofs.history.History.note.Goals as goal

pub invariant_of-self : goal.invariant_of-self
invariant_of-self c =
    let self = c.args.self.now in
    let done = rw (← c.push.ensures.items) at
    (noted (first_bytes self.first self.bytes) self.bytes.items self.calls.items c.args.call (is_ok c.push.result) c.requires (self.replayed, self.within)) in
    record { replayed = done.0; within = done.1 }

pub returns-clause-looks : goal.returns-clause-looks
returns-clause-looks c =
    let self = c.args.self.now in
    rw (c.push.ensures.items)
    (noted_looks (first_bytes self.first self.bytes) self.bytes.items self.calls.items c.args.call (is_ok c.push.result) c.requires (self.replayed, self.within))

pub returns-clause-time : goal.returns-clause-time
returns-clause-time c =
    let self = c.args.self.now in
    rw (c.push.ensures.items) (noted_time (first_bytes self.first self.bytes) self.calls.items c.args.call (is_ok c.push.result))
