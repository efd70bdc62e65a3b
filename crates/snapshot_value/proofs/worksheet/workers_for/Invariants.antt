use Rattle.snapshot_value.proofs.Names.{◌≡◌, ◌≤◌, length, vec_capacity, AllByRecursion, IsReadyWorker, ValuesBy}
use Rattle.snapshot_value.proofs.worksheet.workers_for.Given as goal

abbrev pub invariant-loop : goal.invariant-loop
invariant-loop l = record {
  room : l.fn.many ≤ vec_capacity l.workers;
  many : length l.workers.items ≡ l.counter;
  ready : AllByRecursion IsReadyWorker l.workers.items;
  by : AllByRecursion (ValuesBy l.basis l.on l.measure) l.workers.items;
}
