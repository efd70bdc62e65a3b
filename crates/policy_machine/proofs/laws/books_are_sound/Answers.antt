use Rattle.policy_machine.proofs.BookLemmas.{policy_of-sound, policy_of-own, book-sound}
use Rattle.policy_machine.proofs.laws.books_are_sound.Goals as goal

pub returns-clause-sound : goal.returns-clause-sound
returns-clause-sound c = policy_of-sound

pub returns-clause-own : goal.returns-clause-own
returns-clause-own c = policy_of-own

pub returns-clause-book : goal.returns-clause-book
returns-clause-book c = book-sound
