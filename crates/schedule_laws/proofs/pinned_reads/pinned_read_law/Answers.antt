use Rattle.schedule_laws.proofs.ReadsTogether.{pinned_reads, whole_pinned_reads}
use Rattle.schedule_laws.proofs.pinned_reads.pinned_read_law.Goals as goal

pub returns-clause-front : goal.returns-clause-front
returns-clause-front c = pinned_reads

pub returns-clause-whole : goal.returns-clause-whole
returns-clause-whole c = whole_pinned_reads
