use Rattle.posting_journal.proofs.Unique.{opens_once}
use Rattle.posting_journal.proofs.laws.one_list_of_bodies.Goals as goal

pub returns : goal.returns
returns c = opens_once
