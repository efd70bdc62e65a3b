-- The number of a moment
use Rattle.std.specs.Prelude.{ℕ, max}
use Rattle.outside_io.specs.declared.disks.Disk.{Ghosts}
use Rattle.outside_io.specs.declared.moments.Passed.{Passed, Start, At, Later'}

-- that of the disk as it stood; or the greater of two
abbrev pub latest : {D : Type 0} → Ghosts D → Passed D → ℕ
latest g Start = 0
latest g (At disk) = g.clock disk.value
latest g (Later' mark one sign other) = max (latest g one) (latest g other)
