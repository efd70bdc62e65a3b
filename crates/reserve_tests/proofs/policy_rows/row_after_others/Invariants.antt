use Rattle.policy_value.specs.Caches.{IsRightFor}
use Rattle.reserve_tests.proofs.policy_rows.row_after_others.Given as goal

abbrev pub invariant-loop-age : goal.invariant-loop-age
invariant-loop-age l = IsRightFor l.basis l.cache
