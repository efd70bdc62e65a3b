use Rattle.office_state.proofs.Either.{opens_or_shown}
use Rattle.office_state.proofs.laws.files_open_or_show_why.Goals as goal

pub returns : goal.returns
returns c = opens_or_shown
