-- The writes that are done whole make an image.
use Rattle.memory_disk.proofs.Names.{◌≡◌, take, IfOk, image_of_writes}
use Rattle.memory_disk.specs.Disk.{disk_first, disk_calls}
use Rattle.memory_disk.proofs.KeptImage.{answer_possible}
use Rattle.memory_disk.proofs.in_memory.MemoryDisk.image.Goals as goal

pub returns-clause-possible : goal.returns-clause-possible
returns-clause-possible c =
    let disk = c.args.self.now in
    let made : IfOk c.image_of.result (λ image. image.items ≡ image_of_writes (disk_first disk) c.args.keep (take c.args.moment (disk_calls disk))) =
    rw (c.first.ensures, c.deref.ensures.value) at c.image_of.ensures in
    answer_possible c.image_of.result (disk_first disk) (disk_calls disk) c.args.moment c.args.keep disk.history.within made
