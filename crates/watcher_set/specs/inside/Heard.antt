-- The commands that a watcher has noted, in order
use Rattle.std.specs.Prelude.{List, [], ◌∷◌, ◌++◌}
use Rattle.policy_types.specs.declared.command.Command.{Command}
use Rattle.watcher_set.specs.declared.heard.Told.{Told, Nothing, Of'}

abbrev pub all_told : Told → List Command
all_told Nothing = []
all_told (Of' marker earlier command) = all_told earlier ++ command ∷ []
