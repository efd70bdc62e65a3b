-- The names that several proofs cite, passed on from one place. Declares nothing.
pub use Rattle.std.proofs.Common.{◌≡◌, ℕ, refl, List, ap, ◌∙◌, [], length, subst, inl, ◌≤◌, sym, inr, arith, ◌++◌, Option, Some, Err, ◌∷◌, ◌⊎◌, map, Result, ◌<◌, zero, suc, ◌+◌, take, true, false, Ok, None, append-nil, Bool, append_assoc, length-append, rules, codes, lit≤}
pub use Rattle.std.specs.Io.KnownBytes.{Appends}
pub use Rattle.std.specs.List.{concat, AllZip, AllByRecursion, filter, flat_map, take-map}
pub use Rattle.std.specs.Prelude.{IfSome, IfOk, OnErr, if◌then◌else◌, slice_get}
pub use Rattle.basis_book.specs.Dated.{Dated}
pub use Rattle.command_csv.specs.Reads.{Reads, IsFirstScriptFault, IsScriptLine, is_valuation}
pub use Rattle.lane_runner.specs.Written.{HasEnded, line_texts}
pub use Rattle.lane_runner.specs.declared.transcript.TranscriptLine.{TranscriptLine}
pub use Rattle.lane_runner.specs.declared.wording.Unwritten.{Unwritten}
pub use Rattle.office_state.specs.Journals.{Opens, OpensToNone}
pub use Rattle.outside_io.specs.Faults.{Rose}
pub use Rattle.outside_io.specs.Streams.{AppendsPart, TakenPiece, GivesMore, taken_bytes}
pub use Rattle.outside_io.specs.declared.disks.Disk.{Ghosts}
pub use Rattle.policy_types.specs.declared.entry.Entry.{Entry}
pub use Rattle.policy_types.specs.declared.script.Lane.{Lane}
pub use Rattle.program_endings.specs.Writing.{Stream, Input, IsWholeInput, Shelving, WroteAll, GaveAll, between}
pub use Rattle.program_endings.specs.declared.ending.Ending.{Ending}
pub use Rattle.program_endings.specs.declared.ending.Ending.TheVariants.{NoMemory, Done, BadJournal, WriteFault, DiskFault, BadScript, ReadFault as InputFault, Usage, BadBasis, Ahead, WriteFault as Failed, NoMemory as NoRoom}
pub use Rattle.rtrb.specs.Ring.{sent, SameConsumer, known_items, received}
pub use Rattle.script_run.specs.Script.{IsReadAs, IsUnreadable, asks_for_values, EndsUnread, IsReadable, IsRefused, most_script_bytes}
pub use Rattle.script_run.specs.Texts.{WroteAsEnded}
pub use Rattle.script_run.specs.inside.Unread.{GaveTooMany, GaveBadRow}
pub use Rattle.script_run.specs.inside.Ran.{WroteUpTo, AddsBy, EndsTold, output_until, EndsRan, IsWritten}
pub use Rattle.transcript_text.specs.Told.{told_text, run_text, told_texts}
