use Rattle.std.proofs.Common.{◌≡◌, [], take}
use Rattle.std.specs.List.{AllByRecursion}
use Rattle.office_tests.proofs.watcher_set_tests.are_fresh.Given as goal

abbrev pub invariant-loop-watcher : goal.invariant-loop-watcher
invariant-loop-watcher g l =
    AllByRecursion (λ b. (goal.Watcher-dyn g (b.vtable, b.value)).noted b.value ≡ []) (take l.watcher-index l.boxes)
