-- The names from elsewhere that several modules cite, passed on from one place. Declares nothing.
pub use Rattle.std.specs.Io.KnownBytes.{Appends}
pub use Rattle.std.specs.List.{AllByRecursion, AllZip, count_by}
unfoldable pub use Rattle.load_maker.specs.GeneratedLanes.{generated_lanes}
pub use Rattle.load_maker.specs.GeneratedLanes.{IsValidPosting}
unfoldable pub use Rattle.load_maker.specs.GeneratedScript.{generated_text}
pub use Rattle.outside_io.specs.Faults.{Rose}
pub use Rattle.outside_io.specs.Streams.{AppendsPart}
pub use Rattle.policy_machine.specs.History.{opened_on, Opening, IsLegal, accepted_of, commands_after}
pub use Rattle.policy_types.specs.declared.entry.At.TheVariants.{Now}
pub use Rattle.policy_types.specs.declared.entry.Call.TheVariants.{Post, Trim}
pub use Rattle.policy_types.specs.declared.entry.Entry.{Entry}
pub use Rattle.policy_types.specs.declared.entry.Reply.{Reply}
pub use Rattle.policy_types.specs.declared.entry.Reply.TheVariants.{Refused, Accepted, Faulted, Floor}
pub use Rattle.policy_types.specs.declared.script.Lane.{Lane}
pub use Rattle.policy_types.specs.declared.script.Line.TheVariants.{Value}
pub use Rattle.policy_value.specs.declared.worth.Measure.TheVariants.{Terminal}
pub use Rattle.policy_value.specs.declared.worth.Row.{Row}
pub use Rattle.program_endings.specs.Blocks.{IsWritableBlock}
pub use Rattle.program_endings.specs.Replies.{AreAnswered, ArePins, HaveAFault, LackMemory}
pub use Rattle.program_endings.specs.Writing.{Stream, WroteAll, WrotePart, between, WroteLine, shelf_between, Shelving}
pub use Rattle.program_endings.specs.declared.ending.Ending.{Ending}
pub use Rattle.program_endings.specs.declared.ending.Ending.TheVariants.{Done, WriteFault, NoMemory, DiskFault, ReadFault, BadJournal}
pub use Rattle.report_text.specs.Block.{AreSummable, sum_fields, block_text}
