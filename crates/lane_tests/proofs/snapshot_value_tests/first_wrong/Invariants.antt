use Rattle.std.proofs.Common.{◌≡◌}
use Rattle.lane_tests.proofs.snapshot_value_tests.first_wrong.Given as goal

abbrev pub invariant-loop-index : goal.invariant-loop-index
invariant-loop-index g l = (l.pass.turnstile ≡ l.fn.pass.turnstile) × (l.pass.shares ≡ l.fn.pass.shares)
