use Rattle.std.proofs.Common.{ℕ, ◌<◌, ◌≤◌, get_or}
use Rattle.rate_table.specs.Rates.{ONE}
use Rattle.rate_table.proofs.table.first_above_one.Given as goal

abbrev pub invariant-loop-place : goal.invariant-loop-place
invariant-loop-place l = (k : ℕ) → k < l.place → get_or l.rates k 0 ≤ ONE
