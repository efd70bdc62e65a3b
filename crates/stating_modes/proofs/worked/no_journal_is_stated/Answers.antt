use Rattle.stating_modes.proofs.EmptyFiles.{refuses_by_two}
use Rattle.stating_modes.proofs.worked.no_journal_is_stated.Goals as goal

pub returns : goal.returns
returns g c = λ disks output are reads ends. refuses_by_two g.D.Disk g.E.Disk disks output are reads ends
