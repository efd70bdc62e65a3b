-- How much the office holds
use Rattle.std.specs.Prelude.{ℕ}

-- the most commands that may be accepted
abbrev pub most_commands : ℕ
most_commands = 4000000
