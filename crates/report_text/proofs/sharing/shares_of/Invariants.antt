use Rattle.report_text.proofs.Names.{◌≡◌, ◌≤◌, ◌++◌, length, vec_capacity, rows_of_parts}
use Rattle.report_text.proofs.sharing.shares_of.Given as goal

abbrev pub invariant-loop : goal.invariant-loop
invariant-loop l = record {
  room : l.many ≤ vec_capacity l.shares;
  many : length l.shares.items ≡ l.counter;
  whole : rows_of_parts l.shares.items ++ l.rest ≡ l.rows;
}
