-- The history after a write is that before it and the write.
use Rattle.memory_disk.proofs.Names.{◌∙◌, first_bytes, Write}
use Rattle.memory_disk.proofs.Kept.{written_at, first_stays, write_images, write_time, write_torn}
use Rattle.memory_disk.proofs.history.History.write.Goals as goal

pub invariant_of-self : goal.invariant_of-self
invariant_of-self c =
    let old = c.args.self.now in
    let ready = c.prepare.new.self in
    let target = c.put_over.new.target in
    let done = written_at (first_bytes old.first old.bytes) (first_bytes ready.first target) old.bytes.items target.items c.reaching_part.result.now c.args.bytes.now
    old.calls.items ready.calls.items c.push_reserved.new.self.items c.args.at c.in-Ok.written c.args.failed
    (first_stays ready.first ready.bytes target c.in-Ok.ensures.kept ∙ c.in-Ok.ensures.first) c.requires (old.replayed, old.within)
    c.in-Ok.ensures.copied c.reaching_part.ensures (rw (c.in-Ok.ensures.bytes) at c.put_over.ensures) c.in-Ok.ensures.calls c.push_reserved.ensures.items in
    record { replayed = done.0; within = done.1 }

pub returns-clause-torn : goal.returns-clause-torn
returns-clause-torn c =
    write_torn c.args.self.now.bytes.items c.prepare.new.self.bytes.items c.put_over.new.target.items c.reaching_part.result.now c.args.bytes.now c.args.at c.args.failed
    c.requires c.in-Ok.ensures.bytes c.put_over.ensures c.reaching_part.ensures

pub returns-clause-images : goal.returns-clause-images
returns-clause-images c =
    let old = c.args.self.now in
    let ready = c.prepare.new.self in
    let target = c.put_over.new.target in
    write_images (first_bytes old.first old.bytes) (first_bytes ready.first target) old.bytes.items c.args.bytes.now old.calls.items ready.calls.items
    c.push_reserved.new.self.items c.args.at c.in-Ok.written c.args.failed
    (first_stays ready.first ready.bytes target c.in-Ok.ensures.kept ∙ c.in-Ok.ensures.first)
    c.in-Ok.ensures.copied c.in-Ok.ensures.calls c.push_reserved.ensures.items

pub returns-clause-time : goal.returns-clause-time
returns-clause-time c =
    let old = c.args.self.now in
    let ready = c.prepare.new.self in
    let target = c.put_over.new.target in
    write_time (first_bytes old.first old.bytes) (first_bytes ready.first target) old.calls.items ready.calls.items c.push_reserved.new.self.items
    (Write c.args.at c.in-Ok.written c.args.failed)
    (first_stays ready.first ready.bytes target c.in-Ok.ensures.kept ∙ c.in-Ok.ensures.first) c.in-Ok.ensures.calls c.push_reserved.ensures.items

pub returns-clause-kept : goal.returns-clause-kept
returns-clause-kept c = λ kept. record {
  kept = c.in-Ok.written;
  same = c.in-Ok.ensures.copied;
  pushed = rw (← c.in-Ok.ensures.calls) c.push_reserved.ensures.items;
}
