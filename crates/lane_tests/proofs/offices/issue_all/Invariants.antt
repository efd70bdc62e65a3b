use Rattle.std.proofs.Common.{◌≡◌}
use Rattle.lane_tests.proofs.offices.issue_all.Given as goal

abbrev pub invariant-loop-id : goal.invariant-loop-id
invariant-loop-id g l = (l.pass.turnstile ≡ l.fn.pass.turnstile) × (l.pass.shares ≡ l.fn.pass.shares)
