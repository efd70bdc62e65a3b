use Rattle.std.proofs.Common.{◌≡◌, List, length}
use Rattle.policy_types.specs.declared.command.Command.{Command}
use Rattle.office_tests.proofs.watcher_set_tests.told.Given as goal

abbrev pub invariant-loop-place : goal.invariant-loop-place
invariant-loop-place g l =
    (commands : List Command) × g.W.Watching.told l.watchers 0 commands × (length commands ≡ l.place)
