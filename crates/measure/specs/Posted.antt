-- What callers who post did to the disk of their office
use Rattle.std.specs.Prelude.{◌≡◌, ℕ, Bool, true, false, List, Option, length, count_by}
use Rattle.outside_io.specs.declared.disks.Disk.{Ghosts}
use Rattle.policy_types.specs.declared.entry.Entry.{Entry}
use Rattle.policy_types.specs.declared.entry.Reply.{Reply}
use Rattle.policy_types.specs.declared.entry.Reply.TheVariants.{Accepted}
use Rattle.policy_machine.specs.History.{Opening}
use Rattle.office_state.specs.Images.{IsLeftBy}
use Rattle.office_state.specs.States.{MomentRing}
use Rattle.shared_office.specs.Offices.{IsOfficeHistory}

abbrev pub is_acceptance : Reply → Bool
is_acceptance (Accepted count) = true
is_acceptance _ = false

-- the turn posted a command that was accepted
abbrev pub accepts : Entry → Bool
accepts entry = is_acceptance entry.reply

-- The office of this disk, with these watchers, had a legal history of so many turns, of which so many were acceptances,
-- and the disk is left by it
pub record HasPosted {D W : Type 0} (g : Ghosts D) (old : D) (watchers : W) (new : D) (turns accepted : ℕ) : Type 0 where
  pub opening : Opening
  pub held : D
  pub outlet : Option MomentRing
  pub history : List Entry
  pub legal : IsOfficeHistory (record { opening = opening; begun = old; held = held; watchers = watchers; outlet = outlet }) history
  pub disk : IsLeftBy g old new opening history
  pub turns_are : length history ≡ turns
  pub accepted_are : count_by accepts history ≡ accepted
