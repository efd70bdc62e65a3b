use Rattle.std.proofs.Common.{◌*◌, ◌≤◌}
use Rattle.versioned_book.specs.Books.{IsSomeBook}
use Rattle.base_tests.proofs.book_trials.rounds.Given as goal

abbrev pub invariant-loop-round : goal.invariant-loop-round
invariant-loop-round g l = IsSomeBook l.book × (l.book.last ≤ 2 * l.round)
