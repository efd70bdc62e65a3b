-- The names from elsewhere that several modules cite, passed on from one place. Declares nothing.
pub use Rattle.std.specs.Io.KnownBytes.{Appends}
unfoldable pub use Rattle.std.specs.List.{IsDistinct}
pub use Rattle.std.specs.List.{AllByRecursion, AllZip, flat_map, filter, count_by, Contains}
pub use Rattle.std.specs.List.Sorted.{IsPermutation}
pub use Rattle.basis_book.specs.Dated.{Dated}
pub use Rattle.outside_io.specs.Faults.{Rose}
pub use Rattle.outside_io.specs.Streams.{TakenPiece, taken_bytes, AppendsPart}
pub use Rattle.policy_machine.specs.History.{Opening, commands_after, IsLegal}
pub use Rattle.policy_machine.specs.Merge.{AnswersLine, Placed, turns_of, AnswersLanes}
pub use Rattle.policy_types.specs.Lanes.{lines_in, AreRising, numbers_of}
pub use Rattle.policy_types.specs.Valid.{IsValid, IsCommandDay}
pub use Rattle.policy_types.specs.declared.entry.Entry.{Entry}
pub use Rattle.policy_types.specs.declared.script.Lane.{Lane}
pub use Rattle.policy_types.specs.declared.script.Line.{Line}
pub use Rattle.policy_types.specs.declared.script.Line.TheVariants.{Value, Post, Trim, Value as ValueLine, Trim as TrimLine}
pub use Rattle.rtrb.specs.Ring.{received, SameConsumer, known_free, sent, SameProducer, IsPair, known_items, ConsumerLooked}
pub use Rattle.shared_office.specs.Offices.{IsOfficeHistory, OfficeOpening}
pub use Rattle.snapshot_value.specs.Valuing.{most_turns, IsSnapshot}
pub use Rattle.turn_lock.specs.History.{StartsWith, entries_of}
pub use Rattle.turn_lock.specs.Passes.{PassFacts, Holding, TableId, pages}
