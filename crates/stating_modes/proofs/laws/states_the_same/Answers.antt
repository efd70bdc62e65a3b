use Rattle.stating_modes.proofs.EmptyFiles.{ends_the_same}
use Rattle.stating_modes.proofs.laws.states_the_same.Goals as goal

pub returns : goal.returns
returns g c disks output ending are held ends = ends_the_same g.D.Disk g.E.Disk disks output ending are held ends
