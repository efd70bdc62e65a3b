use Rattle.std.proofs.Common.{◌≡◌, ◌≤◌}
use Rattle.versioned_book.specs.Books.{IsSomeBook}
use Rattle.measure.proofs.versions.set_all.Given as goal

abbrev pub invariant-loop-id : goal.invariant-loop-id
invariant-loop-id l = IsSomeBook l.book × (l.book.last ≤ l.position) × (l.book.floor ≡ 0)
