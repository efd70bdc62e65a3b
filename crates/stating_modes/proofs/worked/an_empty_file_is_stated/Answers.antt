use Rattle.stating_modes.proofs.EmptyFile.{knows_nobody, states_nothing}
use Rattle.stating_modes.proofs.worked.an_empty_file_is_stated.Goals as goal

pub returns : goal.returns
returns g c = record {
  books = λ old new output honest empty h. states_nothing g.D.Disk old new output honest empty h;
  nobody = λ old new output honest empty h. knows_nobody g.D.Disk old new output honest empty h;
}
