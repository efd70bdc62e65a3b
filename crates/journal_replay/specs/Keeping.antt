-- What a keeper keeps, and why it doesn't keep a command
use Rattle.std.specs.Prelude.{List}
use Rattle.policy_types.specs.declared.command.Command.{Command}
use Rattle.journal_replay.specs.declared.keeper.Unkept.{Unkept}
use Rattle.journal_replay.specs.declared.keeper.Unkept.TheVariants.{Refused, NoMemory}

-- some keeper keeps exactly these commands
abbrev pub AreKept : {K : Type 0} → (K → List Command → Type 0) → List Command → Type 0
AreKept {K} stands commands = (keeper : K) × stands keeper commands

-- the command can't follow these; or it can, and memory was refused
abbrev pub IsUnkept : (List Command → Command → Type 0) → List Command → Command → Unkept → Type 0
IsUnkept follows commands command Refused = follows commands command → ⊥
IsUnkept follows commands command (NoMemory lack) = follows commands command
