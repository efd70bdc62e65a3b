use Rattle.life_app.proofs.WorkedRun.Both.{due_of_both, due_of_the_saving, left_by_hand, otherwise_by_hand, parts_by_hand, rows_by_hand, saved_by_hand, stated_by_hand, trusted_by_hand}
use Rattle.life_app.proofs.worked_run.both_disks_by_hand.Goals as goal

pub returns-clause-trusted : goal.returns-clause-trusted
returns-clause-trusted c = trusted_by_hand

pub returns-clause-due : goal.returns-clause-due
returns-clause-due c = due_of_both c.shown_by_hand.ensures.causes.0

pub returns-clause-saved : goal.returns-clause-saved
returns-clause-saved c = saved_by_hand

pub returns-clause-row : goal.returns-clause-row
returns-clause-row c = rows_by_hand

pub returns-clause-left : goal.returns-clause-left
returns-clause-left c = left_by_hand

pub returns-clause-stated : goal.returns-clause-stated
returns-clause-stated c = stated_by_hand

pub returns-clause-otherwise : goal.returns-clause-otherwise
returns-clause-otherwise c = otherwise_by_hand

pub returns-clause-parts : goal.returns-clause-parts
returns-clause-parts c = parts_by_hand

pub returns-clause-comes : goal.returns-clause-comes
returns-clause-comes c = due_of_the_saving
