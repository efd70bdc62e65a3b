use Rattle.life_app.proofs.CrashLaws.{opened_again, unopened_again}
use Rattle.life_app.proofs.laws.crashes_of_an_opening.Goals as goal

pub returns : goal.returns
returns g c = record {
  opened = λ next last opening second history image holds ran left.
      opened_again g.D.Disk next last opening history holds second ran image left;
  unopened = λ next last opening history image holds honest safe alone left.
      unopened_again g.D.Disk next last opening history holds honest safe alone image left;
}
