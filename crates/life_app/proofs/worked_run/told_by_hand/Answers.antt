use Rattle.life_app.proofs.WorkedRun.Told as told
use Rattle.life_app.proofs.worked_run.told_by_hand.Goals as goal

pub returns-clause-ended : goal.returns-clause-ended
returns-clause-ended c = told.ended_by_hand

pub returns-clause-reasons : goal.returns-clause-reasons
returns-clause-reasons c = told.reasons_by_hand c.lines_are_written.ensures.value

pub returns-clause-enclosed : goal.returns-clause-enclosed
returns-clause-enclosed c = told.enclosed_by_hand

pub returns-clause-modes : goal.returns-clause-modes
returns-clause-modes c = told.modes_by_hand
