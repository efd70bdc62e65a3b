use Rattle.std.proofs.Common.{◌≡◌}
use Rattle.lane_tests.proofs.snapshot_positions.post_first.Given as goal

abbrev pub invariant-loop-command : goal.invariant-loop-command
invariant-loop-command g l = (l.pass.turnstile ≡ l.fn.pass.turnstile) × (l.pass.shares ≡ l.fn.pass.shares)
