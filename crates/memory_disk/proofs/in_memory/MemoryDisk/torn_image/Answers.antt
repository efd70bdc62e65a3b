-- What reached the disk of each write makes an image.
use Rattle.memory_disk.proofs.Names.{◌≡◌, take, IfOk, torn_after}
use Rattle.memory_disk.specs.Disk.{disk_first, disk_calls}
use Rattle.memory_disk.proofs.TornImage.{torn_answer_possible}
use Rattle.memory_disk.proofs.in_memory.MemoryDisk.torn_image.Goals as goal

pub returns-clause-possible : goal.returns-clause-possible
returns-clause-possible c =
    let disk = c.args.self.now in
    let calls = take c.args.moment (disk_calls disk) in
    let made : IfOk c.torn_image_of.result (λ image. image.items ≡ torn_after (disk_first disk) (disk_first disk) c.args.reached calls) =
    rw (c.first.ensures, c.deref.ensures.value) at c.torn_image_of.ensures in
    torn_answer_possible c.torn_image_of.result (disk_first disk) calls c.args.reached made
