use Rattle.std.proofs.Common.{refl}
use Rattle.program_endings.proofs.worked.statuses_of_endings.Goals as goal

pub returns : goal.returns
returns c = (refl, refl, refl, refl, refl, refl, refl, refl, refl, refl)
