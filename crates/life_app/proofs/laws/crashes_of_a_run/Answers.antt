use Rattle.life_app.proofs.CrashLaws.{afterwards, during}
use Rattle.life_app.proofs.laws.crashes_of_a_run.Goals as goal

pub returns : goal.returns
returns g c = record {
  during = λ old new opening history image ran left. during g.D.Disk old new opening history ran image left;
  afterwards = λ old new opening history image commands ran left opens.
      afterwards g.D.Disk old new opening history ran image commands left opens;
}
