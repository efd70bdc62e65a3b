-- The names from elsewhere that several modules cite, passed on from one place. Declares nothing.
pub use Rattle.std.specs.List.{flat_map, AllByRecursion, enumerate_from, filter}
pub use Rattle.checkpoint_store.specs.Checkpoints.{IsSoundSnapshot, CheckpointBytes, IsNoCheckpoint, IsSnapshotOf}
pub use Rattle.checkpoint_store.specs.Reopening.{TakesSteps, IsSnapshotOfFront}
pub use Rattle.checkpoint_store.specs.Stores.{store_disk, IsKeptOrSavedBy, Knows, MightLeave}
pub use Rattle.checkpoint_store.specs.declared.snapshot.Snapshot.{Snapshot}
pub use Rattle.checkpoint_store.specs.declared.store.Store.{Store}
pub use Rattle.office_state.specs.Images.{IsLeftAlone, IsLeftBy}
pub use Rattle.office_state.specs.Journals.{Opens, IsShown, IsOfTheFile, OpensToNone}
pub use Rattle.office_state.specs.Opening.{TellsFault}
pub use Rattle.office_state.specs.declared.faults.StartCause.{StartCause}
pub use Rattle.outside_io.specs.Disks.{LeavesOnly}
pub use Rattle.outside_io.specs.Faults.{Rose}
pub use Rattle.outside_io.specs.Streams.{AppendsPart}
pub use Rattle.outside_io.specs.declared.disks.Disk.{Ghosts}
pub use Rattle.policy_machine.specs.Accounts.{ledger_of}
pub use Rattle.policy_machine.specs.Book.{policy_of, book}
pub use Rattle.policy_machine.specs.History.{opened_on}
pub use Rattle.policy_machine.specs.Rules.{IsSound, next}
pub use Rattle.policy_types.specs.Accounts.{sum_of}
pub use Rattle.policy_types.specs.Valid.{id_of, IsValid}
pub use Rattle.policy_types.specs.declared.command.Command.{Command, Command as ACommand}
pub use Rattle.posting_journal.specs.Creation.{OpensToBodies, IsUnfinished}
pub use Rattle.posting_journal.specs.Opening.{IsSynced, OpensOn}
pub use Rattle.posting_journal.specs.Runs.{Leaves, LooksOn}
pub use Rattle.posting_journal.specs.States.{disk_of, is_clean}
pub use Rattle.posting_journal.specs.declared.journal.Journal.{Journal}
pub use Rattle.program_endings.specs.Holding.{HoldsStill}
pub use Rattle.program_endings.specs.Refusals.{SaysWhy}
pub use Rattle.program_endings.specs.Writing.{Stream, WroteAll, WroteLine, between}
pub use Rattle.program_endings.specs.declared.ending.Ending.{Ending}
pub use Rattle.program_endings.specs.declared.ending.Ending.TheVariants.{Done, WriteFault, DiskFault, BadJournal, NoMemory}
unfoldable pub use Rattle.statements.specs.Statements.{policy_text, balance_text}
pub use Rattle.statements.specs.Statements.{statement_text}
pub use Rattle.text_lines.specs.Lines.{line_of}
