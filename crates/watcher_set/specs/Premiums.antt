-- The premiums that commands pay, in cents
use Rattle.std.specs.Prelude.{ℕ, List}
use Rattle.watcher_set.specs.Names.{sum_by, Command, Premium, Reinstate}

-- a premium that is due, and the premiums that are paid to put a policy in force again
abbrev pub paid_by : Command → ℕ
paid_by (Premium id day amount) = amount
paid_by (Reinstate id day amount) = amount
paid_by _ = 0

abbrev pub premiums_of : List Command → ℕ
premiums_of commands = sum_by paid_by commands
