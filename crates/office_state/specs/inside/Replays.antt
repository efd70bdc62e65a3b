-- What deciding a journal's records again shows, while an office is opened
use Rattle.std.specs.Prelude.{◌≡◌, List, [], Option, None, Err}
use Rattle.memory_requests.specs.Evidence.{a_refusal}
use Rattle.office_state.specs.Names.{AllByRecursion, Ghosts, Command, IsValid, IsAccepted, judge, disk_of, Journal, BodiesHave, HasReplayCause, IsLookedAt, IsQuiet, StaysAs, Stops, bodies_of, WatcherGhosts}
use Rattle.posting_journal.specs.declared.faults.JournalCause.{JournalCause}
use Rattle.posting_journal.specs.declared.faults.JournalCause.TheVariants.{DiskFault as FaultyDisk, NotAJournal as IsNoJournal, BadRecord as IsBadRecord}
use Rattle.journal_replay.specs.declared.replaying.ReplayFault.{ReplayFault}
use Rattle.journal_replay.specs.declared.replaying.ReplayFault.TheVariants as replay
use Rattle.office_state.specs.declared.faults.StartCause.{StartCause}
use Rattle.office_state.specs.declared.faults.StartCause.TheVariants.{DiskFault, NotAJournal, BadRecord, NoMemory}
use Rattle.office_state.specs.declared.state.OfficeState.{OfficeState}
use Rattle.office_state.specs.inside.Books.{commands_in, floor_in}
use Rattle.office_state.specs.States.{MomentRing}

-- the cause for which a journal isn't opened, as that for which no office is
abbrev pub as_cause : JournalCause → StartCause
as_cause (FaultyDisk count) = DiskFault count
as_cause IsNoJournal = NotAJournal
as_cause (IsBadRecord n) = BadRecord n

-- the fault at which a replay stops, as that cause
abbrev pub as_replay_cause : ReplayFault → StartCause
as_replay_cause (replay.DiskFault count) = DiskFault count
as_replay_cause (replay.BadRecord n) = BadRecord n
as_replay_cause (replay.NoMemory lack) = NoMemory a_refusal

-- a journal may have just these commands
abbrev pub MakeJournal : List Command → Type 0
MakeJournal commands = AllByRecursion IsValid commands × IsAccepted commands

-- the office of a journal's records, before any turn
pub record IsOfficeOf {D W : Type 0} {g : Ghosts D} {w : WatcherGhosts W} (journal : Journal D g) (disk : D) (watchers : W)
    (ring : Option MomentRing) (state : OfficeState D W g w) : Type 0 where
  pub stays : StaysAs journal state.journal
  pub quiet : IsQuiet journal (disk_of state.journal)
  pub bodies : BodiesHave journal (disk_of state.journal) (λ bodies. bodies ≡ bodies_of (commands_in state.books))
  pub turns : state.turns ≡ 0
  pub pins : state.pins.items ≡ []
  pub floor : floor_in state.books ≡ 0
  pub recovered : state.recovered.value ≡ state.books
  pub begun : state.begun.value ≡ disk
  pub watched : state.watchers ≡ watchers
  pub outlet : state.outlet.ring ≡ ring

-- a journal's records make no office, for a cause
pub record HasNoOffice {D : Type 0} {g : Ghosts D} (journal : Journal D g) (disk : D) (cause : StartCause) : Type 0 where
  pub looked : IsLookedAt g (disk_of journal) disk
  pub fault : ReplayFault
  pub same : cause ≡ as_replay_cause fault
  pub told : HasReplayCause {T = Unit {0}} journal disk (Err fault)
  pub stops : Stops MakeJournal (λ commands command. judge commands command ≡ None) journal disk [] fault
