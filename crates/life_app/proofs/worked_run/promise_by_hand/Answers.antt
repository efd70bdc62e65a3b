use Rattle.life_app.proofs.WorkedRun.Promise.{durable_by_hand, given_by_hand, headline_by_hand, legal_by_hand, line_by_hand, obeyed_by_hand, promised_by_hand, told_once_safe}
use Rattle.life_app.proofs.worked_run.promise_by_hand.Goals as goal

pub returns-clause-given : goal.returns-clause-given
returns-clause-given c = given_by_hand

pub returns-clause-obeyed : goal.returns-clause-obeyed
returns-clause-obeyed c = obeyed_by_hand

pub returns-clause-headline : goal.returns-clause-headline
returns-clause-headline c = headline_by_hand

pub returns-clause-promised : goal.returns-clause-promised
returns-clause-promised c = promised_by_hand

pub returns-clause-safe : goal.returns-clause-safe
returns-clause-safe c = told_once_safe

pub returns-clause-line : goal.returns-clause-line
returns-clause-line c = line_by_hand

pub returns-clause-durable : goal.returns-clause-durable
returns-clause-durable c = durable_by_hand

pub returns-clause-answered : goal.returns-clause-answered
returns-clause-answered c = legal_by_hand
