use Rattle.life_app.proofs.CrashLaws.{next_commands}
use Rattle.life_app.proofs.laws.runs_after_a_crash.Goals as goal

pub returns : goal.returns
returns g c = λ next last opening second history turns holds ran.
    next_commands opening history (g.D.Disk.reads next) second.commands holds (ran.left.opened ran.honest)
