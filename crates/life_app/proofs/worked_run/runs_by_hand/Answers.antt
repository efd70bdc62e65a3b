use Rattle.life_app.proofs.WorkedRun.Row.{crashes_by_hand, images_by_hand, left_by_hand, opened_by_hand, ran_by_hand, row_by_hand}
use Rattle.life_app.proofs.worked_run.runs_by_hand.Goals as goal

pub returns-clause-ran : goal.returns-clause-ran
returns-clause-ran c = ran_by_hand

pub returns-clause-row : goal.returns-clause-row
returns-clause-row c = row_by_hand

pub returns-clause-images : goal.returns-clause-images
returns-clause-images c = images_by_hand

pub returns-clause-crashes : goal.returns-clause-crashes
returns-clause-crashes c = crashes_by_hand

pub returns-clause-opened : goal.returns-clause-opened
returns-clause-opened c = opened_by_hand

pub returns-clause-left : goal.returns-clause-left
returns-clause-left c = left_by_hand
