-- How a shared office begins and ends
use Rattle.std.specs.Prelude.{◌≡◌, ℕ, ◌≤◌, List, [], Option, Some, IfSome}
use Rattle.shared_office.specs.Names.{Ghosts, Opening, accepted_of, commands_after, SameOutlet, Holding, IsFirst, OwnsAll, MomentRing, WatcherGhosts}
use Rattle.policy_types.specs.Accounts.{Booking}
use Rattle.policy_types.specs.declared.watcher.Report.{Report}
use Rattle.policy_machine.specs.Accounts.{ledger_of}
use Rattle.watcher_set.specs.Noted.{reports_of}
use Rattle.rtrb.specs.Ring.{sent}
use Rattle.office_state.specs.Images.{AreSafeSince, IsLeftBy}
use Rattle.office_state.specs.Journals.{Opens}
use Rattle.shared_office.specs.Offices.{OfficeOpening}

-- The office was opened on a list of commands and the disk's count of faults, with these watchers and some outlet. Its first
-- pass has all turns and all shares. Where the disk that the office then holds is honest, it was so before, and the commands are
-- those of its file. It is the one that the pass's opening names, and which an office without turns leaves; that the disk
-- which any office leaves says the same stands in what closing states.
pub record HasStartedOffice {D W : Type 0} (g : Ghosts D) (old : D) (watchers : W) (pass : Holding (OfficeOpening D W))
    : Type 0 where
  pub opening : Opening
  pub outlet : Option MomentRing
  pub held : D
  pub first : IsFirst (record { opening = opening; begun = old; held = held; watchers = watchers; outlet = outlet }) pass
  pub faults : opening.faults ≡ g.faults old
  pub honesty : g.honest held → g.honest old
  pub opened : g.honest held → Opens (g.reads old) opening.commands

-- The pass has seen the whole history, and each entry is its own or that of a caller whose pass was taken back. The disk
-- is left by this history, from the office's opening on, and without a turn it is the one that the office held once it was
-- open. The balances are those of its accepted commands. The
-- reports are those of the watchers that were handed in, of the commands that were accepted in this history. The outlet is
-- the one that was handed in, and the moments reported in it are those since which these commands are safe.
pub record HasClosed {D W : Type 0} (g : Ghosts D) (w : WatcherGhosts W) (pass : Holding (OfficeOpening D W)) (new : D)
    (balances : Booking) (told : List Report) (outlet : Option MomentRing) : Type 0 where
  pub opening : OfficeOpening D W
  pub opened : pass.opening ≡ Some opening
  pub whole : OwnsAll pass
  pub disk : IsLeftBy g opening.begun new opening.opening pass.seen
  pub untouched : pass.seen ≡ [] → new ≡ opening.held
  pub ledger : balances ≡ ledger_of (commands_after opening.opening pass.seen)
  pub reports : told ≡ reports_of (w.handed opening.watchers) (accepted_of pass.seen)
  pub same : SameOutlet opening.outlet outlet
  pub safe : g.honest new
      → IfSome outlet (λ ring. AreSafeSince g new opening.opening.commands (accepted_of pass.seen) (sent ring))
  -- what a crash left since a moment it left since each earlier one
  pub sooner : g.honest new → (early late : ℕ) (image : List ℕ) → early ≤ late → g.left_since new late image
      → g.left_since new early image
