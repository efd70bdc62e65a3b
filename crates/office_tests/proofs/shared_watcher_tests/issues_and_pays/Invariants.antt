use Rattle.std.proofs.Common.{◌≡◌}
use Rattle.office_tests.proofs.shared_watcher_tests.issues_and_pays.Given as goal

abbrev pub invariant-loop-n : goal.invariant-loop-n
invariant-loop-n g l =
    record {
      turnstile : l.pass.turnstile ≡ l.fn.pass.turnstile;
      shares : l.pass.shares ≡ l.fn.pass.shares;
    }
