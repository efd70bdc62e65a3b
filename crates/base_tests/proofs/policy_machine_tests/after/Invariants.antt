use Rattle.std.proofs.Common.{IfSome}
use Rattle.policy_machine.specs.Rules.{IsSound}
use Rattle.base_tests.proofs.policy_machine_tests.after.Given as goal

abbrev pub invariant-loop-step : goal.invariant-loop-step
invariant-loop-step g l = IfSome l.policy IsSound
