use Rattle.valuing_modes.proofs.Nobody.{projects_nobody}
use Rattle.valuing_modes.proofs.worked_projections.projections_by_hand.Goals as goal

pub returns : goal.returns
returns c = projects_nobody
