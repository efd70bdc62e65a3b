use Rattle.life_app.proofs.WorkedRun.Due as due
use Rattle.life_app.proofs.worked_run.due_by_hand.Goals as goal

pub returns-clause-needs : goal.returns-clause-needs
returns-clause-needs c =
    due.needs_by_hand c.faults_are_placed.ensures.clerk c.lines_are_written.ensures.value c.shelves_by_hand.ensures.basis c.shelves_by_hand.ensures.bad
    c.shown_by_hand.ensures.causes.0

pub returns-clause-basis : goal.returns-clause-basis
returns-clause-basis c =
    due.basis_by_hand c.faults_are_placed.ensures.clerk c.lines_are_written.ensures.value c.shelves_by_hand.ensures.basis c.shelves_by_hand.ensures.bad
    c.shown_by_hand.ensures.causes.0

pub returns-clause-due : goal.returns-clause-due
returns-clause-due c =
    due.due_by_hand c.faults_are_placed.ensures.clerk c.lines_are_written.ensures.value c.shelves_by_hand.ensures.basis c.shelves_by_hand.ensures.bad
    c.shown_by_hand.ensures.causes.0

pub returns-clause-comes : goal.returns-clause-comes
returns-clause-comes c = due.due_of_the_run
