use Rattle.life_app.proofs.Names.{digits, refl}
use Rattle.life_app.proofs.worked.watcher_lines.Goals as goal

pub returns : goal.returns
unfolding digits
returns c = (refl, refl, refl)
