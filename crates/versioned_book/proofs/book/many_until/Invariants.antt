use Rattle.std.proofs.Common.{◌≡◌, ℕ, ◌-◌, ◌<◌, ◌≤◌, nat_le, true, false, get_or, length}
use Rattle.versioned_book.proofs.book.many_until.Given as goal

abbrev pub invariant-loop-low : goal.invariant-loop-low
invariant-loop-low l =
    (l.low ≤ l.high) × (l.high ≤ length l.positions)
    × ((k : ℕ) → k < l.low → nat_le (get_or l.positions k 0) l.p ≡ true)
    × ((k : ℕ) → l.high ≤ k → k < length l.positions → nat_le (get_or l.positions k 0) l.p ≡ false)

abbrev pub decreases-loop-low : goal.decreases-loop-low
decreases-loop-low l = l.high - l.low
