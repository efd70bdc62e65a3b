-- The count of steps belongs to the blank's ledger.
use Rattle.journal_tests.proofs.reopening_tests.snapshot_of.Given as goal

abbrev pub ghosts-snapshot_beside : goal.ghosts-snapshot_beside
ghosts-snapshot_beside a = record { name = a.blank.name; parts = a.blank.parts }
