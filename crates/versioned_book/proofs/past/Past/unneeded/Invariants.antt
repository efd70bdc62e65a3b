use Rattle.versioned_book.proofs.Names.{◌≡◌, ◌-◌, ◌≤◌, [], ◌∷◌, ◌++◌, length, drop, versions_from}
use Rattle.versioned_book.proofs.past.Past.unneeded.Given as goal

abbrev pub invariant-loop-count : goal.invariant-loop-count
invariant-loop-count g l = (l.count ≤ length l.self.older.items) × (versions_from l.floor (l.self.older.items ++ l.newest ∷ []) ≡ versions_from l.floor (drop l.count (l.self.older.items ++ l.newest ∷ [])))

abbrev pub decreases-loop-count : goal.decreases-loop-count
decreases-loop-count g l = length l.self.older.items - l.count
