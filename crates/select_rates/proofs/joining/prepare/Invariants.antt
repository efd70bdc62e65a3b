use Rattle.select_rates.proofs.Names.{◌≡◌, length, AreJoinedTables}
use Rattle.select_rates.proofs.joining.prepare.Given as goal

abbrev pub invariant-loop-index : goal.invariant-loop-index
invariant-loop-index l = record {
  count : length l.tables.items ≡ l.index;
  each : AreJoinedTables l.ultimate l.first_age l.rows l.tables.items;
}
