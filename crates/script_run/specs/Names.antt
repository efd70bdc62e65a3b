-- The names from elsewhere that several modules cite, passed on from one place. Declares nothing.
pub use Rattle.std.specs.List.{list_any, concat, AllZip, AllByRecursion}
pub use Rattle.basis_book.specs.Dated.{Dated}
pub use Rattle.lane_runner.specs.AnsweredLines.{AnsweredLine, AreLinesOf}
pub use Rattle.command_csv.specs.Reads.{is_valuation}
pub use Rattle.lane_runner.specs.Written.{HasEnded}
pub use Rattle.outside_io.specs.Faults.{Rose}
pub use Rattle.outside_io.specs.Streams.{TakenPiece, taken_bytes, AppendsPart, GivesMore}
pub use Rattle.outside_io.specs.declared.disks.Disk.{Ghosts}
pub use Rattle.policy_machine.specs.History.{accepted_of, IsLegal, opened_on}
pub use Rattle.policy_types.specs.declared.command.Command.{Command}
pub use Rattle.policy_types.specs.declared.entry.Entry.{Entry}
pub use Rattle.policy_types.specs.declared.entry.Reply.TheVariants.{Accepted, Blank, Faulted}
pub use Rattle.policy_types.specs.declared.script.Lane.{Lane}
pub use Rattle.program_endings.specs.Writing.{Stream, WroteLine, WrotePart, GaveAll, Input, input_between, between, WroteAll, shelf_between, Shelving}
pub use Rattle.program_endings.specs.declared.ending.Ending.{Ending}
pub use Rattle.program_endings.specs.declared.ending.Ending.TheVariants.{ReadFault, NoMemory, BadScript, Done, WriteFault, BadJournal, DiskFault, DiskFault as DiskFailed, NoMemory as NoRoom, ReadFault as InputFault}
pub use Rattle.shared_office.specs.Offices.{IsOfficeHistory, OfficeOpening}
pub use Rattle.transcript_text.specs.Told.{told_text, told_texts, run_text}
pub use Rattle.transcript_text.specs.Lines.{reports_text}
pub use Rattle.turn_lock.specs.Passes.{PassFacts, Holding}
pub use Rattle.watcher_set.specs.Noted.{Auditor, reports_of}
