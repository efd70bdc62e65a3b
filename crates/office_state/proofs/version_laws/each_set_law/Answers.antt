use Rattle.office_state.proofs.PolicyValues.{each_set}
use Rattle.office_state.proofs.version_laws.each_set_law.Goals as goal

pub returns : goal.returns
returns c = each_set
