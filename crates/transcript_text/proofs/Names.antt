-- The names that several proofs cite, passed on from one place. Declares nothing.
pub use Rattle.std.proofs.Common.{◌≡◌, ℕ, List, [], ◌∷◌, subst, arith, true, ◌++◌, length, take, refl, ap, sym, inl, inr, ◌+◌, ◌<◌, false, Some, ◌∙◌, Bool, map, ◌⊎◌, ◌==◌, ℤ, zero, suc, cond, ◌≤◌, Ok, Err, w32, to_z, of_z, ◌*◌, if◌then◌else◌, None, Option, ◌-◌, ◌↔◌, ap₂, Result, length-append, drop}
pub use Rattle.std.proofs.lemmas.Bool.{false≢true, cond-false, cond-true, eq-eqb}
pub use Rattle.std.specs.List.{AllByRecursion, AllZip, enumerate_from, count_by, Contains, cons_option, flat_map}
pub use Rattle.std.specs.Prelude.{slice_get, IfSome, OnErr, codes, decimal}
pub use Rattle.basis_book.specs.Dated.{Dated}
pub use Rattle.lane_runner.proofs.LaneLines.{AreOfLanes}
pub use Rattle.lane_runner.specs.AnsweredLines.{AnsweredLine, turns_in, lines_by}
pub use Rattle.lane_runner.specs.Tallies.{accepted_lines, tells_accepted, has_faulted, lacks_memory, any_faulted, any_lacked, is_faulted}
pub use Rattle.lane_runner.specs.Transcripts.{IsOutcome, lacked_memory, IsTold as IsToldOf, HasAnsweredLanes, dry_of, AreDry}
pub use Rattle.lane_runner.specs.declared.transcript.Outcome.{Outcome}
pub use Rattle.lane_runner.specs.declared.transcript.Outcome.TheVariants.{Posted, Trimmed, Valued, ValueRefused, ValueNoMemory}
pub use Rattle.lane_runner.specs.declared.transcript.TranscriptLine.{TranscriptLine}
pub use Rattle.life_dates.specs.Calendar.{IsTermDay, IsDay}
pub use Rattle.office_state.specs.Posting.{reply_of}
pub use Rattle.office_state.specs.declared.answer.Answer.{Answer}
pub use Rattle.office_state.specs.declared.answer.Answer.TheVariants.{DiskFault, NoMemory, Accepted, Refused, Accepted as AnAccepted, Refused as ARefused}
pub use Rattle.policy_machine.specs.History.{commands_after, accepted_of, Opening, IsDue, refusal_due}
pub use Rattle.policy_machine.proofs.Parts.{accepted_by}
pub use Rattle.policy_types.specs.Lanes.{AreRising, lines_in}
pub use Rattle.policy_types.specs.Valid.{IsValid, id_of, AreYears}
pub use Rattle.policy_types.specs.declared.command.Command.{Command}
pub use Rattle.policy_types.specs.declared.entry.Call.{Call}
pub use Rattle.policy_types.specs.declared.entry.Call.TheVariants.{Post as PostCall, Pin, PinAt, Read, Unpin, Trim as TrimCall, Post}
pub use Rattle.policy_types.specs.declared.entry.Entry.{Entry}
pub use Rattle.policy_types.specs.declared.entry.Reply.{Reply}
pub use Rattle.policy_types.specs.declared.entry.Reply.TheVariants.{Faulted, Blank}
pub use Rattle.policy_types.specs.declared.script.Line.{Line}
pub use Rattle.program_endings.proofs.ListSteps.{Has, front_back, has_filter, has_map, of_filter, all_has, any_none, any_some, contains_of_has, has_at, has_enumerate, has_of_contains, of_all, of_enumerate, of_map, parted, zip_left, zip_right, same_opened, has_flat_map, has_left, has_right, of_flat_map}
pub use Rattle.transcript_text.specs.Told.{told_text, IsToldAnswer, IsWritableOutcome, outcome_text, IsPrintable, IsWritable}
pub use Rattle.transcript_text.proofs.TextNames.{IsLineText, watcher_texts, IsReplyText, IsValuedText}
pub use Rattle.transcript_text.specs.Transcript.{reply_fields}
pub use Rattle.transcript_text.specs.Lines.{reports_text, posting_text, unpinned_text, unvalued_text}
