-- What is true of an office's journal and disk between any two turns
use Rattle.std.specs.Prelude.{◌≡◌, ℕ, ◌≤◌, false, List, [], ◌∷◌, ◌++◌}
use Rattle.office_state.specs.Names.{AllByRecursion, filter_map, Ghosts, Command, Entry, IsValid, IsAccepted, Opening, accepted_of, commands_after, fault_of, StandsFor, disk_of, is_clean, Journal, bodies_of, spelling_of}
use Rattle.office_state.specs.Images.{WasFaulted}

-- a fault left this body after the commands' records; its posting was answered `fault` when exactly the commands so
-- far were accepted
pub record IsLeftBehind (opening : Opening) (turns : List Entry) (body : List ℕ) : Type 0 where
  pub command : Command
  pub pending : WasFaulted turns (accepted_of turns) command
  pub spelled : body ≡ spelling_of command
  pub valid : IsValid command
  pub accepted : IsAccepted (commands_after opening turns ++ command ∷ [])

-- The journal holds the commands. If a fault left it unclean, the command of the fault may come after them.
pub record JournalHolds {D : Type 0} {g : Ghosts D} (journal : Journal D g) (opening : Opening) (turns : List Entry)
    : Type 0 where
  pub last : List ℕ
  pub stands : StandsFor journal (bodies_of (commands_after opening turns)) last
  pub pending : is_clean journal ≡ false → IsLeftBehind opening turns last

-- what a turn relies on besides what is promised
pub record Holds {D : Type 0} {g : Ghosts D} (begun : D) (under : Journal D g) (opening : Opening) (turns : List Entry)
    : Type 0 where
  pub later : g.honest (disk_of under) → g.clock begun ≤ g.clock (disk_of under)
  -- no fault was reported with a number above the disk's count
  pub opened : opening.faults ≤ g.faults (disk_of under)
  pub met : AllByRecursion (λ n. n ≤ g.faults (disk_of under))
      (filter_map (λ (entry : Entry). fault_of entry.reply) turns)
  pub journal : g.honest (disk_of under) → JournalHolds under opening turns
