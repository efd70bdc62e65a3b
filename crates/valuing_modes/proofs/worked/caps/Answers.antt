use Rattle.std.proofs.Common.{refl}
use Rattle.valuing_modes.proofs.worked.caps.Goals as goal

pub returns : goal.returns
returns c = (refl, refl)
