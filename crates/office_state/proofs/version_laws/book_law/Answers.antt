use Rattle.office_state.proofs.BookValues.{book-values, index_placed}
use Rattle.office_state.proofs.version_laws.book_law.Goals as goal

pub returns-clause-book : goal.returns-clause-book
returns-clause-book c = book-values

pub returns-clause-index : goal.returns-clause-index
returns-clause-index c = index_placed
