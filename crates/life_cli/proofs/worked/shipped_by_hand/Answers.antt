use Rattle.life_cli.proofs.WorkedStart.{shipped_by_hand}
use Rattle.life_cli.proofs.worked.shipped_by_hand.Goals as goal

pub returns : goal.returns
returns c = shipped_by_hand
