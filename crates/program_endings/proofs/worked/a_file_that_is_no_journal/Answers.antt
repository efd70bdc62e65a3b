use Rattle.program_endings.proofs.WorkedEndings.{refuses_hello}
use Rattle.program_endings.proofs.worked.a_file_that_is_no_journal.Goals as goal

pub returns : goal.returns
returns g c = λ old new output honest reads refused. refuses_hello g.D.Disk old new output honest reads refused
