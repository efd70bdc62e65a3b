-- The count of steps belongs to the blank's ledger.
use Rattle.journal_tests.proofs.reopening_tests.outcome_of.Given as goal

abbrev pub ghosts-reopened : goal.ghosts-reopened
ghosts-reopened a = record { name = a.blank.name; parts = a.blank.parts }
