-- The count of looks belongs to the blank's ledger.
use Rattle.base_tests.proofs.book_trials.random_settings_trims_and_reads.Given as goal

abbrev pub ghosts-rounds : goal.ghosts-rounds
ghosts-rounds g a = record { name = a.blank.name; parts = a.blank.parts }
