-- The count of looks belongs to the blank's ledger.
use Rattle.office_state.proofs.books.Books.fill.Given as goal

abbrev pub ghosts-fill_window : goal.ghosts-fill_window
ghosts-fill_window a = record { name = a.blank.name; parts = a.blank.parts }
