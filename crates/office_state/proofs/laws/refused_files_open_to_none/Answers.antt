use Rattle.office_state.proofs.JournalLaws.{shown_opens_to_none}
use Rattle.office_state.proofs.laws.refused_files_open_to_none.Goals as goal

pub returns : goal.returns
returns c = shown_opens_to_none
