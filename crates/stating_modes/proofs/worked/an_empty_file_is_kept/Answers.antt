use Rattle.stating_modes.proofs.EmptyFiles.{keeps_nothing, no_lie, saves_nothing}
use Rattle.stating_modes.proofs.worked.an_empty_file_is_kept.Goals as goal

pub returns : goal.returns
returns g c = record {
  texts = λ disks output are empty. keeps_nothing g.D.Disk g.E.Disk disks output are empty;
  truth = λ bytes bodies opened s is within. no_lie bytes bodies opened s is within;
  saved = λ disks output image are empty left. saves_nothing g.D.Disk g.E.Disk disks output image are empty left;
}
