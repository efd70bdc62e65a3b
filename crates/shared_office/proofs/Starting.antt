-- From the opening of an office to its end
use Rattle.shared_office.proofs.Names.{◌≡◌, ℕ, ◌≤◌, List, Option, [], ap, refl, sym, ◌∙◌, subst, Some, Ghosts, Entry, WatcherGhosts, MomentRing, auditors_of, begun_of, commands_of, disk_of, opening_of, outlet_of}
use Rattle.memory_requests.specs.Evidence.{a_refusal}
use Rattle.std.specs.Prelude.{IfSome}
use Rattle.policy_types.specs.Accounts.{Booking}
use Rattle.policy_types.specs.declared.watcher.Report.{Report}
use Rattle.policy_machine.specs.Accounts.{ledger_of}
use Rattle.policy_machine.specs.History.{accepted_of, opened_on}
use Rattle.watcher_set.specs.Noted.{reports_of}
use Rattle.office_state.specs.declared.faults.StartCause.TheVariants.{NoMemory}
use Rattle.office_state.specs.declared.state.OfficeState.{OfficeState}
use Rattle.rtrb.specs.Ring.{sent}
use Rattle.moment_ring.specs.Ends.{SameOutlet}
use Rattle.office_state.specs.Images.{AreSafeSince, IsLeftBy}
use Rattle.office_state.specs.Opening.{HasNotOpened, HasOpened}
use Rattle.office_state.specs.Standing.{StandsFor}
use Rattle.turn_lock.specs.Passes.{Holding, IsFirst, OwnsAll}
use Rattle.shared_office.specs.Offices.{OfficeOpening}
use Rattle.shared_office.specs.Starting.{HasClosed, HasStartedOffice}
use Rattle.shared_office.specs.declared.state.SharedState.{SharedState}
use Rattle.shared_office.specs.inside.Standing.{SharedStandsFor, opening_on}

module _ {D W : Type 0} (g : Ghosts D) (w : WatcherGhosts W) where
  -- an office that was opened, and put under the lock
  pub started : (old : D) (watchers handed : W) (outlet : Option MomentRing) (state : OfficeState D W g w) → HasOpened old state → outlet_of state ≡ outlet → handed ≡ watchers
      → (kept : OfficeState D W g w) → kept ≡ state → (pass : Holding (OfficeOpening D W))
      → IsFirst (record { opening = opening_of state; begun = begun_of state; held = disk_of kept; watchers = handed; outlet = outlet_of kept }) pass
      → (begun : HasStartedOffice g old watchers pass) × (begun.outlet ≡ outlet)
  started old watchers handed outlet state opened given same kept as_opened pass first = (
    record {
      opening = opening_of state;
      outlet = outlet;
      held = disk_of state;
      first = subst (λ begun. IsFirst (record { opening = opening_of state; begun = begun; held = disk_of state; watchers = watchers; outlet = outlet }) pass) opened.begun
          (subst (λ ring. IsFirst (record { opening = opening_of state; begun = begun_of state; held = disk_of state; watchers = watchers; outlet = ring }) pass) given
          (subst (λ these. IsFirst (record { opening = opening_of state; begun = begun_of state; held = disk_of state; watchers = these; outlet = outlet_of state }) pass) same
          (subst (λ (s : OfficeState D W g w). IsFirst (record { opening = opening_of state; begun = begun_of state; held = disk_of s; watchers = handed; outlet = outlet_of s }) pass) as_opened first)));
      faults = ap g.faults opened.begun;
      honesty = opened.honesty;
      opened = opened.opened;
    },
    refl,
  )

  -- an office that was closed again because memory was refused, before any turn
  pub unopened : (old : D) (office : OfficeState D W g w) → HasOpened old office → (disk : D)
      → IsLeftBy g (begun_of office) disk (opening_of office) [] → HasNotOpened g old disk (NoMemory a_refusal)
  unopened old office opened disk closed =
      let left = subst (λ (begun : D). IsLeftBy g begun disk (opened_on (opening_of office).commands (g.faults begun)) []) opened.begun closed in
      record { told = left.faults; shown = λ honest. tt; alone = left.alone tt }

  module _ (shared : SharedState D W g w) (pass : Holding (OfficeOpening D W)) (stood : SharedStandsFor shared pass.seen)
      (opened : pass.opening ≡ Some (opening_on shared)) (whole : OwnsAll pass) where
    -- the state was taken out and closed
    pub closed : (state : OfficeState D W g w) (disk : D) (booked : Booking) (reports : List Report) (outlet : Option MomentRing) → state ≡ shared.state
        → disk ≡ disk_of state
        → ((history : List Entry) → StandsFor state history → IsLeftBy g (begun_of state) disk (opening_of state) history)
        → booked ≡ ledger_of (commands_of state)
        → ((history : List Entry) → StandsFor state history → reports ≡ reports_of (auditors_of state) (accepted_of history))
        → outlet ≡ outlet_of state
        → ((history : List Entry) → StandsFor state history → g.honest disk
        → IfSome outlet (λ ring. AreSafeSince g disk (opening_of state).commands (accepted_of history) (sent ring)))
        → (g.honest disk → (early late : ℕ) (image : List ℕ) → early ≤ late → g.left_since disk late image → g.left_since disk early image)
        → HasClosed g w pass disk booked reports outlet
    closed state disk booked reports outlet same given left ledger told ring safe sooner = record {
      sooner = sooner;
      opening = opening_on shared;
      opened = opened;
      whole = whole;
      disk = subst (λ (s : OfficeState D W g w). StandsFor s pass.seen → IsLeftBy g (begun_of s) disk (opening_of s) pass.seen) same (left pass.seen) stood.state;
      untouched = λ none. given ∙ ap (λ (s : OfficeState D W g w). disk_of s) same ∙ stood.untouched none;
      ledger = ledger ∙ ap (λ (s : OfficeState D W g w). ledger_of (commands_of s)) same ∙ ap ledger_of stood.state.listed;
      same = subst (SameOutlet (outlet_of shared.opened.value)) (sym (ring ∙ ap (λ (s : OfficeState D W g w). outlet_of s) same)) stood.outlet;
      safe = subst (λ (s : OfficeState D W g w). StandsFor s pass.seen → g.honest disk
          → IfSome outlet (λ ring. AreSafeSince g disk (opening_of s).commands (accepted_of pass.seen) (sent ring))) same (safe pass.seen) stood.state;
      reports = subst (λ (s : OfficeState D W g w). StandsFor s pass.seen → reports ≡ reports_of (auditors_of s) (accepted_of pass.seen)) same (told pass.seen) stood.state ∙ ap (λ auditors. reports_of auditors (accepted_of pass.seen)) stood.handed;
    }
