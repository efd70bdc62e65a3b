use Rattle.office_state.proofs.JournalLaws.{shown_once}
use Rattle.office_state.proofs.laws.one_cause_of_refusal.Goals as goal

pub returns : goal.returns
returns c = shown_once
