use Rattle.std.proofs.Common.{◌≡◌, ◌≤◌}
use Rattle.versioned_book.specs.Books.{IsSomeBook}
use Rattle.measure.proofs.versions.run.Given as goal

abbrev pub invariant-loop-round : goal.invariant-loop-round
invariant-loop-round g l = IsSomeBook l.book × (l.book.last ≤ l.last) × (l.book.floor ≡ 0)

abbrev pub invariant-loop-n : goal.invariant-loop-n
invariant-loop-n g l = IsSomeBook l.book × (l.book.last ≤ l.last) × (l.book.floor ≡ 0)

abbrev pub invariant-loop : goal.invariant-loop
invariant-loop g l = IsSomeBook l.book × (l.book.floor ≤ l.last)
