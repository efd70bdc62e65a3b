-- The names from elsewhere that several modules cite, passed on from one place. Declares nothing.
pub use Rattle.std.specs.Io.KnownBytes.{Appends, IsAtEnd}
pub use Rattle.office_state.specs.Images.{IsLeftAlone}
pub use Rattle.office_state.specs.declared.faults.StartCause.TheVariants.{BadRecord, NotAJournal, DiskFault as FaultyDisk, NoMemory as NoRoom}
pub use Rattle.outside_io.specs.Faults.{Rose, HasCause}
pub use Rattle.outside_io.specs.Shelves.{Files}
pub use Rattle.outside_io.specs.Streams.{AppendsPart, TakenPiece}
pub use Rattle.outside_io.specs.declared.disks.Disk.{Ghosts}
pub use Rattle.policy_types.specs.declared.entry.Entry.{Entry}
pub use Rattle.policy_types.specs.declared.entry.Reply.{Reply}
pub use Rattle.policy_types.specs.declared.entry.Reply.TheVariants.{Faulted, Pinned, Blank, Accepted, Refused}
