use Rattle.posting_journal.proofs.Unique.{foreign_never, bad_never, one_cause, one_place}
use Rattle.posting_journal.proofs.laws.refused_files_open_to_none.Goals as goal

pub returns : goal.returns
returns c = record { foreign = foreign_never; bad = bad_never; one_cause = one_cause; one_place = one_place }
