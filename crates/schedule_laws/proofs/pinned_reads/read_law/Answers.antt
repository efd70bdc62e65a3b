use Rattle.schedule_laws.proofs.ReadsTogether.{read_holds}
use Rattle.schedule_laws.proofs.pinned_reads.read_law.Goals as goal

pub returns : goal.returns
returns c = read_holds
