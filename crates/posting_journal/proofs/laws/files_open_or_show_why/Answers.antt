use Rattle.posting_journal.proofs.Either.{bodies_or_shown}
use Rattle.posting_journal.proofs.laws.files_open_or_show_why.Goals as goal

pub returns : goal.returns
returns c = bodies_or_shown
