-- What a caller sees of an office
use Rattle.std.specs.Prelude.{ℕ, List, Option}
use Rattle.office_state.specs.Names.{Ghosts, Command, Policy, Opening, opened_on, disk_under, WatcherGhosts, versions_in, Booking, Auditor}
use Rattle.std.specs.declared.alloc.Global.{Global}
use Rattle.rtrb.specs.declared.AnyItems.{AnyItems}
use Rattle.rtrb.specs.declared.producer.Producer.{Producer}
use Rattle.office_state.specs.declared.held.Held.{Held}
use Rattle.office_state.specs.declared.state.OfficeState.{OfficeState}
use Rattle.office_state.specs.inside.Books.{balances_in, commands_in, floor_in, kept_in, policies_in}

-- the office's end of a ring of moments
abbrev pub MomentRing : Type 0
MomentRing = Producer ℕ Global AnyItems

-- what an office was opened on, and the disk and the watchers as they were handed in
pub record Opened (D : Type 0) : Type 0 where
  pub opening : Opening
  pub begun : D
  pub auditors : List Auditor

module _ {D W : Type 0} {g : Ghosts D} {w : WatcherGhosts W} where
  abbrev pub disk_of : OfficeState D W g w → D
  disk_of state = disk_under state.journal

  -- The accepted commands. The office keeps none of them in memory: the list is what the contracts of its calls are
  -- about.
  abbrev pub commands_of : OfficeState D W g w → List Command
  commands_of state = commands_in state.books

  abbrev pub count_of : OfficeState D W g w → ℕ
  count_of state = state.books.count

  -- the versions that it keeps of the policy with a number, each with the number of the command that made it, counted
  -- from 1
  abbrev pub versions_left : OfficeState D W g w → ℕ → List (ℕ × Policy)
  versions_left state id = versions_in state.books.versions id

  -- how many versions it keeps
  abbrev pub kept_count : OfficeState D W g w → ℕ
  kept_count state = kept_in state.books

  -- the newest version of each policy, in order of issue
  abbrev pub policies_of : OfficeState D W g w → List Policy
  policies_of state = policies_in state.books

  -- the balances of its ledger
  abbrev pub balances_of : OfficeState D W g w → Booking
  balances_of state = balances_in state.books

  -- how many turns it answered
  abbrev pub turns_of : OfficeState D W g w → ℕ
  turns_of state = state.turns

  -- the live pins, in order of their numbers
  abbrev pub pins_of : OfficeState D W g w → List Held
  pins_of state = state.pins.items

  -- the position from which on each policy is kept
  abbrev pub floor_kept : OfficeState D W g w → ℕ
  floor_kept state = floor_in state.books

  -- the disk on which it was opened, as it was handed in
  abbrev pub begun_of : OfficeState D W g w → D
  begun_of state = state.begun.value

  -- the commands of its journal then, and the disk's count of faults
  abbrev pub opening_of : OfficeState D W g w → Opening
  opening_of state = opened_on (commands_in state.recovered.value) (g.faults (begun_of state))

  -- the watchers as they were handed in
  abbrev pub auditors_of : OfficeState D W g w → List Auditor
  auditors_of state = w.handed state.watchers

  -- the ring by which it sends the moments since which the accepted commands are safe, if there is one
  abbrev pub outlet_of : OfficeState D W g w → Option MomentRing
  outlet_of state = state.outlet.ring

  abbrev pub opened_of : OfficeState D W g w → Opened D
  opened_of state = record { opening = opening_of state; begun = begun_of state; auditors = auditors_of state }
