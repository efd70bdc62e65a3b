-- What the shared state was opened on, and the histories for which it stands
use Rattle.std.specs.Prelude.{◌≡◌, ◌≤◌, List, [], length}
use Rattle.shared_office.specs.Names.{AllByRecursion, Entry, IsValid, SameOutlet, auditors_of, begun_of, disk_of, opening_of, outlet_of, Ghosts, most_commands, WatcherGhosts}
use Rattle.std.proofs.Common.{subst}
use Rattle.policy_types.specs.declared.command.Command.{Command}
use Rattle.office_state.specs.Standing.{StandsFor}
use Rattle.shared_office.specs.Offices.{IsOfficeHistory, OfficeOpening}
use Rattle.shared_office.specs.declared.state.SharedState.{SharedState}

module _ {D W : Type 0} {g : Ghosts D} {w : WatcherGhosts W} where
  -- what it was opened on
  abbrev pub opening_on : SharedState D W g w → OfficeOpening D W
  opening_on shared = record {
    opening = opening_of shared.state;
    begun = begun_of shared.state;
    held = disk_of shared.opened.value;
    watchers = shared.handed.value;
    outlet = outlet_of shared.opened.value;
  }

  -- The state stands for the history, its watchers are those that were handed in, and its outlet is the same end of the same
  -- ring. Before the first turn its disk is the one that the office held once it was open.
  pub record SharedStandsFor (shared : SharedState D W g w) (history : List Entry) : Type 0 where
    pub state : StandsFor shared.state history
    pub handed : auditors_of shared.state ≡ w.handed shared.handed.value
    pub outlet : SameOutlet (outlet_of shared.opened.value) (outlet_of shared.state)
    pub untouched : history ≡ [] → disk_of shared.state ≡ disk_of shared.opened.value

  -- a history for which it stands is one of the office
  pub is_history : (shared : SharedState D W g w) (history : List Entry) → SharedStandsFor shared history
      → IsOfficeHistory (opening_on shared) history
  is_history shared history stood = record {
    legal = stood.state.history.legal;
    valid = subst (AllByRecursion IsValid) stood.state.listed shared.state.books.kept.valid;
    few = subst (λ (commands : List Command). length commands ≤ most_commands) stood.state.listed shared.state.books.kept.few;
  }
