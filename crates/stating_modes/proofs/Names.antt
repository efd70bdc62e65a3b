-- The names that several proofs cite, passed on from one place. Declares nothing.
pub use Rattle.std.proofs.Common.{◌≡◌, subst, ℕ, List, refl, [], inl, ◌∙◌, inr, sym, ◌∷◌, ◌++◌, arith, ap, Ok, length, append-nil, ap₂, Result, Err, ◌≤◌, true, false, ◌⊎◌, take, Some, lit≤, Vec, Global, None, ◌+◌, ◌<◌, ◌==◌, Option, codes, decimal, if◌then◌else◌, Bool, slice_index_or, IsOk, append_assoc, ⊎_elim, get_or}
pub use Rattle.std.specs.List.{flat_map, AllByRecursion, All, enumerate_from, filter}
pub use Rattle.std.specs.Prelude.{IfOk, IfSome, slice_get}
pub use Rattle.checkpoint_store.specs.Checkpoints.{IsSnapshotOf, IsSoundSnapshot, IsNoCheckpoint}
pub use Rattle.checkpoint_store.specs.Stores.{store_disk, IsKeptOrSavedBy, MightLeave}
pub use Rattle.checkpoint_store.specs.declared.snapshot.Snapshot.{Snapshot}
pub use Rattle.checkpoint_store.specs.declared.store.Store.{Store}
pub use Rattle.office_state.proofs.JournalLaws.{opens_to_one, same_command, same_commands, shown_opens_to_none, to_bodies}
pub use Rattle.office_state.proofs.OpeningSteps.{OnlyNow, CountsNow, ReadsImage, IsStarted, looked_since, synced_before, holds_once, looked_alone, looked_ever, not_started, opening_keeps, opens_commands, started_later, synced_images}
pub use Rattle.office_state.specs.Images.{IsLeftAlone, IsLeftBy, HasKept}
pub use Rattle.office_state.proofs.Holdings.{HoldsNow, HoldsOnce, KeepsAccepted}
pub use Rattle.office_state.specs.Journals.{Opens, IsShown, OpensToNone, JournalBytes, IsOfTheFile}
pub use Rattle.office_state.specs.Opening.{TellsFault, HasNotOpened}
pub use Rattle.office_state.specs.declared.faults.StartCause.{StartCause}
pub use Rattle.office_state.specs.declared.faults.StartCause.TheVariants.{DiskFault as FaultyDisk, NotAJournal, BadRecord, NoMemory as NoRoom, DiskFault}
pub use Rattle.outside_io.specs.Faults.{Rose}
pub use Rattle.outside_io.specs.Streams.{AppendsPart}
pub use Rattle.outside_io.specs.declared.disks.Disk.{Ghosts}
pub use Rattle.policy_machine.specs.Book.{book, judge, IsAcceptedAfter, policy_of}
pub use Rattle.policy_machine.proofs.Parts.{kept}
pub use Rattle.policy_machine.specs.History.{opened_on, Opening}
pub use Rattle.policy_machine.specs.Rules.{IsSound, next}
pub use Rattle.policy_types.specs.Valid.{IsValid, id_of}
pub use Rattle.policy_types.specs.declared.command.Command.{Command}
pub use Rattle.policy_types.specs.declared.policy.Policy.{Policy}
pub use Rattle.posting_journal.proofs.Moments.{looks_on, looks_none, looks_pass, leaves, leaves_more, leaves_on}
pub use Rattle.posting_journal.specs.Creation.{IsUnfinished, OpensToBodies}
pub use Rattle.posting_journal.specs.Runs.{LooksOn, Leaves}
pub use Rattle.posting_journal.specs.States.{disk_of, count_of, StandsFor, is_clean}
pub use Rattle.program_endings.proofs.ReadOnlySteps.{ends_refused, read_as_before, read_refused, read_to_end}
pub use Rattle.program_endings.specs.Holding.{HoldsStill}
pub use Rattle.program_endings.specs.Texts.{EndsText}
pub use Rattle.program_endings.specs.Writing.{WroteAll, Stream, between, WroteLine}
pub use Rattle.program_endings.specs.declared.ending.Ending.{Ending}
unfoldable pub use Rattle.statements.specs.Statements.{policy_text, balance_text}
pub use Rattle.stating_modes.specs.Books.{policy_account}
pub use Rattle.stating_modes.specs.Stated.{EndsStateKept, ReadsFew, IsStateTold}
pub use Rattle.stating_modes.specs.Stating.{EndsState}
pub use Rattle.stating_modes.specs.TwoDisks.{IsHeldWhereTrue, TwoDisks, AreTrue, AreBothQuiet, IsOnlyRead, disks_of, IsMadeSafe}
pub use Rattle.stating_modes.proofs.Parts.{books_of, snapshot_text, IsStated, Saves, Writes}
pub use Rattle.stating_modes.specs.inside.Accounts.{policy_entries, account_text}
pub use Rattle.stating_modes.specs.inside.Rereading.{HasNotRead, HasRead, IsAccount, CanBeNext, IsReadFrom, IsStoppedFrom, EndsReading, IsAccounted}
pub use Rattle.stating_modes.specs.inside.Saving.{EndsSaving, HasTried, HasSaved}
