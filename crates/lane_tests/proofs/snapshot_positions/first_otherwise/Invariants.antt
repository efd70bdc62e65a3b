use Rattle.std.proofs.Common.{◌≡◌}
use Rattle.lane_tests.proofs.snapshot_positions.first_otherwise.Given as goal

abbrev pub invariant-loop-position : goal.invariant-loop-position
invariant-loop-position g l = (l.pass.turnstile ≡ l.fn.pass.turnstile) × (l.pass.shares ≡ l.fn.pass.shares)
