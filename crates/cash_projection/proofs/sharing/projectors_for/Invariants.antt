use Rattle.cash_projection.proofs.Names.{◌≡◌, ◌≤◌, length, vec_capacity, AllByRecursion, IsProjectorFor}
use Rattle.cash_projection.proofs.sharing.projectors_for.Given as goal

abbrev pub invariant-loop : goal.invariant-loop
invariant-loop l = record {
  room : l.fn.many ≤ vec_capacity l.projectors;
  many : length l.projectors.items ≡ l.counter;
  each : AllByRecursion (IsProjectorFor l.basis l.on l.years) l.projectors.items;
}
