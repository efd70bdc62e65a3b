use Rattle.life_app.proofs.HeadlineLaws.{enclosing, of_one_history}
use Rattle.life_app.proofs.promise.promised_of_one_history.Goals as goal

pub returns : goal.returns
returns g c = record {
  promised = λ old new lanes basis auditors output ending ran. of_one_history g.D.Disk old new output lanes basis auditors ending ran;
  rows = enclosing;
}
