use Rattle.life_app.proofs.WorkedRun.Lanes as lanes
use Rattle.life_app.proofs.WorkedRun.LanesGiven as from_words
use Rattle.life_app.proofs.worked_run.lanes_by_hand.Goals as goal

pub returns-clause-given : goal.returns-clause-given
returns-clause-given c = from_words.given_lanes

pub returns-clause-obeyed : goal.returns-clause-obeyed
returns-clause-obeyed c = from_words.obeyed_lanes

pub returns-clause-answered : goal.returns-clause-answered
returns-clause-answered c = from_words.answered_lanes

pub returns-clause-due : goal.returns-clause-due
returns-clause-due c = from_words.due_lanes

pub returns-clause-legal : goal.returns-clause-legal
returns-clause-legal c = lanes.legal_lanes

pub returns-clause-promised : goal.returns-clause-promised
returns-clause-promised c = lanes.promised_lanes

pub returns-clause-left : goal.returns-clause-left
returns-clause-left c = lanes.left_lanes

pub returns-clause-reopened : goal.returns-clause-reopened
returns-clause-reopened c = lanes.reopened_lanes
