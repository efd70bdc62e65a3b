-- The count of looks belongs to the blank's ledger.
use Rattle.office_state.proofs.books.Books.policy.Given as goal

abbrev pub ghosts-policy_at : goal.ghosts-policy_at
ghosts-policy_at a = record { name = a.blank.name; parts = a.blank.parts }
