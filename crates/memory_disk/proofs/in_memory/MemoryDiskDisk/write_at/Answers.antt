-- The write that was kept did not fail.
use Rattle.std.proofs.Common.{refl}
use Rattle.memory_disk.proofs.in_memory.MemoryDiskDisk.write_at.Goals as goal

pub returns-clause-kept : goal.returns-clause-kept
returns-clause-kept c = rw (c.if-failed.false) at (c.if-not-write.ensures.kept refl)
