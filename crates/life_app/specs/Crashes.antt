-- What a crash leaves of a run, as commands
use Rattle.std.specs.Prelude.{◌≡◌, ◌⊎◌, List, [], ◌∷◌, ◌++◌}
use Rattle.life_app.specs.Names.{Ghosts, Command, Entry, Opening, accepted_of, commands_after, IsSafe, IsLeftBy, WasFaulted}

-- An office was opened on the disk's file, at a time when a crash left exactly what is read; and the turns of the
-- history left the disk as it comes back, which is honest.
pub record HasRun {D : Type 0} (g : Ghosts D) (old new : D) (opening : Opening) (history : List Entry) : Type 0 where
  pub honest : g.honest new
  pub safe : IsSafe g old
  pub left : IsLeftBy g old new opening history

-- no further command; or one, whose posting was answered `fault` when exactly these were accepted
abbrev pub IsOneMore : List Entry → List Command → List Command → Type 0
IsOneMore history held [] = Unit {0}
IsOneMore history held (command ∷ []) = WasFaulted history held command
IsOneMore _ _ _ = ⊥

-- the commands from before the run, then a prefix of what it accepted, then at most one more command, whose posting
-- was answered `fault` when exactly these were accepted
pub record AreHeld (opening : Opening) (history : List Entry) (commands : List Command) : Type 0 where
  pub held : List Command
  pub rest : List Command
  pub more : List Command
  pub front : accepted_of history ≡ held ++ rest
  pub one : IsOneMore history held more
  pub are : commands ≡ opening.commands ++ held ++ more

-- the commands from before the run and all that it accepted; or these and one more, whose posting was answered
-- `fault` when exactly these were accepted
abbrev pub AreAllHeld : Opening → List Entry → List Command → Type 0
AreAllHeld opening history commands =
    (commands ≡ commands_after opening history)
    ⊎ ((command : Command) × WasFaulted history (accepted_of history) command × (commands ≡ commands_after opening history ++ command ∷ []))
