-- The names that several proofs cite, passed on from one place. Declares nothing.
pub use Rattle.std.proofs.Common.{ℕ, List, ◌≡◌, refl, [], ◌∷◌, inl, ap, sym, subst, arith, inr, ◌∙◌, length, ◌++◌, ◌==◌, false, map, Some, append-nil, Bool, true, cond, Ok, Err, ◌+◌, take, ◌≤◌, Result, zero, suc, append_assoc, ◌<◌, Option, codes, Vec, Global, None, filter_map, ◌⊎◌, ◌≢◌, length-append, ◌/◌, ◌%◌, ◌^◌, ℤ, add-one}
pub use Rattle.std.proofs.lemmas.Bool.{eq-eqb, cond-false, ne_eqb, false≢true, cond-true, eqb-false, cases_Bool, cases_lt}
pub use Rattle.std.proofs.lemmas.List.Elements.{All-from_recursion, filter_map-append, filter-append}
pub use Rattle.std.proofs.lemmas.List.Sums.{sum_by-cons, sum_by-append}
unfoldable pub use Rattle.std.specs.List.{IsDistinct}
pub use Rattle.std.specs.List.{AllByRecursion, AllZip, Contains, enumerate_from, filter, flat_map, count_by, sum_by, cons_option, range_with_len, list_any}
pub use Rattle.std.specs.Prelude.{slice_get, nat_eq, IfOk, if◌then◌else◌, slice_index}
pub use Rattle.basis_book.specs.Dated.{Dated}
pub use Rattle.lane_runner.proofs.LaneLines.{AreOfLanes}
pub use Rattle.lane_runner.specs.AnsweredLines.{AnsweredLine, lines_by, turns_in, AreLinesOf}
pub use Rattle.lane_runner.specs.Transcripts.{IsOutcome, dry_of, lacked_memory, IsTold, HasAnsweredLanes}
pub use Rattle.lane_runner.specs.declared.transcript.TranscriptLine.{TranscriptLine}
unfoldable pub use Rattle.load_maker.specs.GeneratedLanes.{generated_lanes}
pub use Rattle.load_maker.specs.GeneratedLanes.{IsValidPosting, AreDealt}
pub use Rattle.policy_machine.specs.History.{Opening, IsDue, commands_after, IsLegalAfter, accepted_of, live_pin, live_positions, IsLegal, opened_on}
pub use Rattle.policy_machine.specs.Merge.{AnswersLine, Placed, AnswersLanes, AnswersLines, turns_of}
pub use Rattle.policy_machine.proofs.Parts.{pin_of, pinned_position, accepted_by}
pub use Rattle.policy_types.specs.Lanes.{lines_in, AreRising}
pub use Rattle.policy_types.specs.declared.command.Command.{Command}
pub use Rattle.policy_types.specs.declared.entry.Call.{Call}
pub use Rattle.policy_types.specs.declared.entry.Call.TheVariants.{Post as PostCall, Pin as PinCall, PinAt, Read, Unpin, Trim as TrimCall, Pin}
pub use Rattle.policy_types.specs.declared.entry.Entry.{Entry}
pub use Rattle.policy_types.specs.declared.entry.Reply.{Reply}
pub use Rattle.policy_types.specs.declared.entry.Reply.TheVariants.{Faulted, Accepted, Refused, Pinned, PinRefused, Slice, Unpinned, Floor, Blank}
pub use Rattle.policy_types.specs.declared.script.Lane.{Lane}
pub use Rattle.policy_types.specs.declared.script.Line.{Line}
pub use Rattle.policy_types.specs.declared.script.Line.TheVariants.{Post, Value, Trim}
pub use Rattle.policy_value.specs.declared.worth.Measure.TheVariants.{Terminal}
pub use Rattle.program_endings.proofs.ListSteps.{Has, of_all, has_filter, has_of_contains, all_has, same_opened, has_left, has_map, has_right, of_filter, has_flat_map, has_at, has_either, has_enumerate, all_and, zip_right, of_map}
pub use Rattle.program_endings.proofs.QuietTurns.{ArePostless, none_accepted, all_own, entries_in, postless_entries, same_first, same_rest}
pub use Rattle.program_endings.proofs.TurnSteps.{posts, quiet_reply, unfaulted_if_answered, due_at, quiet_follow, quiet_pin, quiet_turns}
pub use Rattle.program_endings.specs.Writing.{Stream, WroteAll, Shelving, between, shelf_between, WrotePart}
pub use Rattle.program_endings.specs.declared.ending.Ending.{Ending}
pub use Rattle.program_endings.specs.declared.ending.Ending.TheVariants.{Done, WriteFault, NoMemory, BadJournal, DiskFault, Usage, BadBasis, Ahead}
pub use Rattle.policy_value.specs.Rows.{IsValuedRow}
pub use Rattle.snapshot_value.specs.Valuing.{AnswersPin as IsValueAnswer, HasValued, dry_pins, AnswersPin}
pub use Rattle.snapshot_value.specs.declared.valuation.Valuation.{Valuation}
pub use Rattle.trial_load.specs.Loading.{is_refusal, load_day, refused_in, EndsLoading, IsLoadOf, HasLine}
pub use Rattle.trial_load.specs.inside.Loaded.{AreLoadLanes, EndsLine, EndsLoad, EndsLoaded, IsLoadAnswer, load_text}
