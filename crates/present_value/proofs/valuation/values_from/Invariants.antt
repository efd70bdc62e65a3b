use Rattle.present_value.proofs.Names.{◌≡◌, ◌+◌, ◌<◌, ◌≤◌, ℕ, length, pair_at, pair_of, value_to}
use Rattle.present_value.proofs.valuation.values_from.Given as goal

-- the places from t on have their values
abbrev pub invariant-loop-t : goal.invariant-loop-t
invariant-loop-t l = record {
  places : length l.pairs ≡ 132;
  within : l.t ≤ l.years;
  done : (k : ℕ) → l.t ≤ k → k ≤ l.years → pair_at l.pairs k ≡ value_to l.table l.bp l.fn.stream (l.age + l.years) (l.age + k);
  rest : (k : ℕ) → l.years < k → pair_at l.pairs k ≡ pair_of 0 0;
}

abbrev pub decreases-loop-t : goal.decreases-loop-t
decreases-loop-t l = l.t
