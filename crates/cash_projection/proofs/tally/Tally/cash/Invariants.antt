use Rattle.cash_projection.proofs.Names.{◌≡◌, ◌≤◌, ◌<◌, ℕ, length, get_or, vec_capacity}
use Rattle.cash_projection.proofs.Tallying.{no_year}
use Rattle.cash_projection.proofs.Tallying.{year_in}
use Rattle.cash_projection.proofs.tally.Tally.cash.Given as goal

-- the years before this one are reported, and there is room for the others
abbrev pub invariant-loop-j : goal.invariant-loop-j
invariant-loop-j l = record {
  many : length l.years.items ≡ l.j;
  room : l.count ≤ vec_capacity l.years;
  each : (k : ℕ) → k < l.j → get_or l.years.items k no_year ≡ year_in l.self k;
}
