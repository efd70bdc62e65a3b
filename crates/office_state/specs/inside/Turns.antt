-- The count of turns
use Rattle.std.specs.Prelude.{◌+◌}
use Rattle.office_state.specs.Names.{Ghosts, WatcherGhosts}
use Rattle.office_state.specs.declared.state.OfficeState.{OfficeState}

-- the office once one more turn is counted
abbrev pub one_more : {D W : Type 0} {g : Ghosts D} {w : WatcherGhosts W} → OfficeState D W g w → OfficeState D W g w
one_more state = record state { turns = state.turns + 1 }
