use Rattle.std.proofs.Common.{refl}
use Rattle.stating_modes.proofs.worked.balances_are_added.Goals as goal

pub returns : goal.returns
returns c = (refl, refl)
