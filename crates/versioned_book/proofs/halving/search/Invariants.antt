use Rattle.versioned_book.proofs.Names.{◌≡◌, ℕ, ◌+◌, ◌-◌, ◌*◌, ◌^◌, ◌≤◌, length, take, value_at}
use Rattle.versioned_book.proofs.halving.search.Given as goal

abbrev pub invariant-loop-low : goal.invariant-loop-low
invariant-loop-low g l =
    (l.low ≤ l.high) × (l.high ≤ length l.past.older.items)
    × (l.found ≡ value_at l.p (take l.low l.past.older.items))
    × (value_at l.p (take l.high l.past.older.items) ≡ value_at l.p l.past.older.items)
    × ((spent : ℕ) × (l.steps ≡ l.initial.steps + spent) × (2 ^ spent * 2 * (l.high - l.low) ≤ 2 * length l.past.older.items + 1) × (2 ^ spent ≤ 2 * length l.past.older.items + 1))

abbrev pub decreases-loop-low : goal.decreases-loop-low
decreases-loop-low g l = l.high - l.low
