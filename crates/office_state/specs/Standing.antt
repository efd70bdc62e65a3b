-- The office stands for the history of its turns
use Rattle.std.specs.Prelude.{◌≡◌, ◌⊎◌, ℕ, ◌+◌, ◌-◌, ◌≤◌, ◌++◌, List, IfSome, drop, length}
use Rattle.office_state.specs.Names.{Ghosts, Command, Entry, ledger_of, book, Opening, IsLegal, accepted_of, commands_after, floor_of, own, versions_from, WatcherGhosts, IsSynced, sent, HasRoomFor, most_commands}
use Rattle.office_state.specs.versions.Commands.{sets_of}
use Rattle.office_state.specs.declared.state.OfficeState.{OfficeState}
use Rattle.office_state.specs.Images.{AreQuiet, AreSafeSince, HasKept, IsFrontThere, IsLeftAlone, IsThere, faults_after}
use Rattle.office_state.specs.Journals.{JournalBytes, Opens}
use Rattle.office_state.specs.Pins.{pins_held}
use Rattle.office_state.specs.States.{balances_of, begun_of, commands_of, count_of, disk_of, floor_kept, kept_count, opening_of, outlet_of, pins_of, policies_of, turns_of, versions_left}
use Rattle.office_state.specs.inside.Holding.{Holds}

-- the turns are a legal history from the opening on, and the count is that of the commands after it
pub record IsHistory {D W : Type 0} {g : Ghosts D} {w : WatcherGhosts W} (state : OfficeState D W g w) (turns : List Entry)
    : Type 0 where
  pub legal : IsLegal (opening_of state) turns
  pub counted : count_of state ≡ length (commands_after (opening_of state) turns)

-- Since the opening began, a crash leaves what it might have left before, or an image of the history; since the end
-- of a sync in the opening, only the latter.
pub record LeavesSince {D : Type 0} (g : Ghosts D) (begun now : D) (opening : Opening) (turns : List Entry) : Type 0 where
  pub since : (image : List ℕ) → g.left_since now (g.clock begun) image → g.may_leave begun image
      ⊎ IsFrontThere Opens opening.commands turns image
  pub synced : (mid : D) × IsSynced g begun mid now
      × ((image : List ℕ) → g.left_since now (g.clock mid) image → IsFrontThere Opens opening.commands turns image)

-- at most so many versions are kept: one for each policy, and one for each command accepted after the floor
abbrev pub KeepsFew : ℕ → ℕ → List Command → Type 0
KeepsFew kept floor commands = kept ≤ length (book commands) + length (drop floor commands)

-- an office after a history of turns: what it keeps is what the commands of the opening and the accepted ones leave
pub record StandsFor {D W : Type 0} {g : Ghosts D} {w : WatcherGhosts W} (state : OfficeState D W g w) (turns : List Entry)
    : Type 0 where
  pub history : IsHistory state turns
  -- the versions of a number are its policies after each of its commands, with the commands' numbers, except those
  -- that no position from the floor on needs
  pub versions : (id : ℕ) → versions_left state id
      ≡ versions_from (floor_of turns) (own id (sets_of (commands_after (opening_of state) turns)))
  pub kept : KeepsFew (kept_count state) (floor_of turns) (commands_after (opening_of state) turns)
  pub policies : policies_of state ≡ book (commands_after (opening_of state) turns)
  pub ledger : balances_of state ≡ ledger_of (commands_after (opening_of state) turns)
  pub turned : turns_of state ≡ length turns
  pub pins : pins_of state ≡ pins_held turns
  pub floor : floor_kept state ≡ floor_of turns
  -- a disk that is honest now was honest when it was handed in, and its file opened to the commands of the opening
  pub honesty : g.honest (disk_of state) → g.honest (begun_of state)
  pub opened : g.honest (disk_of state) → Opens (g.reads (begun_of state)) (opening_of state).commands
  -- what a crash now leaves
  pub images_now : g.honest (disk_of state) → (image : List ℕ) → g.may_leave (disk_of state) image
      → IsThere JournalBytes (opening_of state).commands turns (accepted_of turns) image
  -- what a crash at some moment since the opening began might have left
  pub images_since : g.honest (disk_of state) → LeavesSince g (begun_of state) (disk_of state) (opening_of state) turns
  -- what was accepted stays
  pub images_kept : g.honest (disk_of state)
      → (front rest : List Entry) → turns ≡ front ++ rest → HasKept g (begun_of state) (disk_of state) (opening_of state) front
  -- the moments sent, one for each accepted command, are those since which the commands are safe
  pub safe : g.honest (disk_of state) → IfSome (outlet_of state)
      (λ ring. AreSafeSince g (disk_of state) (opening_of state).commands (accepted_of turns) (sent ring))
  -- the outlet can take a moment for each command that may still be accepted
  pub room : HasRoomFor (most_commands - length (commands_of state)) (outlet_of state)
  pub fault_count : g.faults (disk_of state) ≡ faults_after (opening_of state) turns
  -- while no posting was accepted or met a fault, the disk is left as opening it left it
  pub alone : AreQuiet turns → IsLeftAlone g (begun_of state) (disk_of state)
  -- its watchers were notified of exactly the accepted commands, in their order, each at its position after the
  -- opening's
  pub told : w.told state.watchers (length (opening_of state).commands) (accepted_of turns)
  -- the list that the contracts of its calls mention
  pub listed : commands_of state ≡ commands_after (opening_of state) turns
  pub inside : Holds (begun_of state) state.journal (opening_of state) turns
