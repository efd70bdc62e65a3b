-- From the start of an office to its end: what its callers posted.
use Rattle.std.proofs.Common.{◌≡◌, ℕ, List, Some, sym, ap, ◌∙◌, subst, Option}
use Rattle.std.specs.Option.{unwrap_or}
use Rattle.outside_io.specs.declared.disks.Disk.{Ghosts}
use Rattle.policy_types.specs.Accounts.{Booking}
use Rattle.policy_types.specs.declared.watcher.Report.{Report}
use Rattle.watcher_set.specs.declared.watching.Watching.{Ghosts as WatcherGhosts}
use Rattle.office_state.specs.Images.{IsLeftBy}
use Rattle.turn_lock.specs.Passes.{Holding, PassFacts}
use Rattle.shared_office.specs.Offices.{OfficeOpening, IsOfficeHistory}
use Rattle.office_state.specs.States.{MomentRing}
use Rattle.shared_office.specs.Starting.{HasStartedOffice, HasClosed}
use Rattle.measure.proofs.Taking.{turns_in_all, counted_in_all}
use Rattle.measure.specs.Posted.{HasPosted, accepts}
use Rattle.measure.specs.Turns.{AllTake}

module _ {D W : Type 0} (g : Ghosts D) (w : WatcherGhosts W) (old new : D) (watchers : W) (turns accepted : ℕ) (balances : Booking) (reports : List Report) (first last : Holding (OfficeOpening D W))
    (started : HasStartedOffice g old watchers first) (take : AllTake accepts turns accepted first last) {outlet : Option MomentRing} (closed : HasClosed g w last new balances reports outlet) (facts : PassFacts IsOfficeHistory last) where
  abbrev began : OfficeOpening D W
  began = record { opening = started.opening; begun = old; held = started.held; watchers = watchers; outlet = started.outlet }

  -- what the last pass says of the opening is what the first reported
  one_opening : (opening : OfficeOpening D W) → last.opening ≡ Some opening → opening ≡ began
  one_opening opening told = ap (λ o. unwrap_or o opening) (sym told ∙ (take.opening ∙ started.first.opened))

  pub has_posted : HasPosted g old watchers new turns accepted
  has_posted = record {
    opening = started.opening;
    held = started.held;
    outlet = started.outlet;
    history = last.seen;
    legal = subst (λ (o : OfficeOpening D W). IsOfficeHistory o last.seen) (one_opening facts.lawful.0 facts.lawful.1) facts.lawful.2;
    disk = subst (λ (o : OfficeOpening D W). IsLeftBy g o.begun new o.opening last.seen) (one_opening closed.opening closed.opened) closed.disk;
    turns_are = turns_in_all IsOfficeHistory accepts turns accepted began first last started.first take facts closed.whole;
    accepted_are = counted_in_all IsOfficeHistory accepts turns accepted began first last started.first take facts closed.whole;
  }
