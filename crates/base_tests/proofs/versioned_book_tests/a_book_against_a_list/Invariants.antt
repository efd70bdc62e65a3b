-- The count of looks belongs to the blank's ledger.
use Rattle.base_tests.proofs.versioned_book_tests.a_book_against_a_list.Given as goal

abbrev pub ghosts-read_script : goal.ghosts-read_script
ghosts-read_script g a = record { name = a.blank.name; parts = a.blank.parts }
