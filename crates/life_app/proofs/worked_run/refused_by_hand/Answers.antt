use Rattle.life_app.proofs.WorkedRun.Refused.{causes_by_hand, forged_by_hand, truth_by_hand}
use Rattle.life_app.proofs.WorkedRun.Valued.{valued_by_hand}
use Rattle.life_app.proofs.worked_run.refused_by_hand.Goals as goal

pub returns-clause-causes : goal.returns-clause-causes
returns-clause-causes c = causes_by_hand

pub returns-clause-truth : goal.returns-clause-truth
returns-clause-truth c = truth_by_hand

pub returns-clause-forged : goal.returns-clause-forged
returns-clause-forged c = forged_by_hand

pub returns-clause-valued : goal.returns-clause-valued
returns-clause-valued c = valued_by_hand
