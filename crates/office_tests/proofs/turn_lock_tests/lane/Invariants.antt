use Rattle.std.proofs.Common.{◌≡◌}
use Rattle.office_tests.proofs.turn_lock_tests.lane.Given as goal

abbrev pub invariant-loop : goal.invariant-loop
invariant-loop g l = (l.pass.turnstile ≡ l.initial.pass.turnstile) × (l.pass.shares ≡ l.initial.pass.shares)
