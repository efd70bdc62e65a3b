-- What contracts see of the watchers of this crate
use Rattle.std.specs.Prelude.{ℕ, List}
use Rattle.policy_types.specs.declared.command.Command.{Command}
use Rattle.watcher_set.specs.declared.counting.CountWatcher.{CountWatcher}
use Rattle.watcher_set.specs.declared.premiums.PremiumWatcher.{PremiumWatcher}
use Rattle.watcher_set.specs.declared.tight.TightWatcher.{TightWatcher}

-- the commands that it has noted
abbrev pub counted : CountWatcher → List Command
counted watcher = watcher.heard

-- the number of the command at which it is done
abbrev pub limit_of : CountWatcher → ℕ
limit_of watcher = watcher.limit

-- the commands that it has noted
abbrev pub premium_commands : PremiumWatcher → List Command
premium_commands watcher = watcher.heard

-- the commands that it has noted
abbrev pub tight_commands : TightWatcher → List Command
tight_commands watcher = watcher.noted.items

-- how many calls of `ready` there are up to and with the one that finds no memory; 0 once that one is past
abbrev pub calls_left_of : TightWatcher → ℕ
calls_left_of watcher = watcher.calls_left
