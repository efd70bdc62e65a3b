use Rattle.policy_value.proofs.Names.{◌≡◌, ◌+◌, ◌-◌, ◌≤◌, vec_capacity, IsColumn, IsOf, HasPut}
use Rattle.policy_value.proofs.columns.put_values.Given as goal

abbrev pub invariant-loop-age : goal.invariant-loop-age
invariant-loop-age l = record {
  column : IsColumn l.rates.table.now l.rates.bp l.column;
  stays : IsOf l.column l.fn.column.stream l.fn.column.end;
  least : l.lowest ≤ l.age;
  most : l.age ≤ l.end + 1;
  put : HasPut l.rates.table.now l.rates.bp l.fn.column.stream l.end l.lowest l.age l.fn.pairs.items l.pairs.items;
  room : vec_capacity l.pairs ≡ vec_capacity l.fn.pairs;
}

abbrev pub decreases-loop-age : goal.decreases-loop-age
decreases-loop-age l = l.end + 1 - l.age
