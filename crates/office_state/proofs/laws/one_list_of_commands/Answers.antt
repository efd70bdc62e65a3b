use Rattle.office_state.proofs.JournalLaws.{opens_to_one}
use Rattle.office_state.proofs.laws.one_list_of_commands.Goals as goal

pub returns : goal.returns
returns c = opens_to_one
