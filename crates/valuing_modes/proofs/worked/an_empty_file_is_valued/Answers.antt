use Rattle.valuing_modes.proofs.EmptyFile.{ahead_of_nothing, values_nothing}
use Rattle.valuing_modes.proofs.worked.an_empty_file_is_valued.Goals as goal

pub returns : goal.returns
returns g c = record {
  valued = λ old new output honest empty h. values_nothing g.D.Disk old new output honest empty h;
  ahead = λ old new output honest empty h. ahead_of_nothing g.D.Disk old new output honest empty h;
}
