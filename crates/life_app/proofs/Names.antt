-- The names that several proofs cite, passed on from one place. Declares nothing.
pub use Rattle.std.proofs.Common.{refl, ◌≡◌, List, inl, inr, ℕ, [], ◌∷◌, arith, ◌++◌, subst, ◌⊎◌, sym, Some, ap, None, lit<, lit≤, Option, ◌∙◌, codes, length, ◌<◌, ℤ, ◌≤◌, append-nil, true, map, ◌+◌, append_assoc, take, drop, get_or, Bool, pos, Result, Ok, Err, ⊎_elim, zero, suc, ◌/◌, ◌%◌, ◌^◌, ap₂, nat_le, ◌&&◌, ◌≢◌, false, length-append, replicate}
pub use Rattle.std.proofs.lemmas.Bool.{cases_eq, false≢true, and_parts, leb-true, le-leb}
pub use Rattle.std.proofs.lemmas.Int.{ints}
pub use Rattle.std.proofs.lemmas.List.{take_at, length-map, map-append, length-replicate}
pub use Rattle.std.proofs.lemmas.List.Elements.{filter_map-append, All-nil, All-from_recursion}
unfoldable pub use Rattle.std.specs.Fmt.{digits}
unfoldable pub use Rattle.std.specs.List.{IsDistinct}
pub use Rattle.std.specs.List.{AllByRecursion, AllZip, flat_map, cons_option, filter_map, last_or}
pub use Rattle.std.specs.Prelude.{decimal, if◌then◌else◌, ◌==◌, ◌<ℤ◌}
pub use Rattle.basis_book.specs.Dated.{Dated, IsPicked}
pub use Rattle.command_csv.specs.Reads.{Reads}
pub use Rattle.life_app.specs.Crashes.{HasRun, AreAllHeld, AreHeld, IsOneMore}
pub use Rattle.life_app.specs.Due.{IsDueEnding}
pub use Rattle.life_app.specs.Headline.{IsEnclosingRow, IsUnrun, IsPromised, IsGivenBasis, IsWorthBy}
pub use Rattle.life_app.specs.Needs.{Without, filing_between, Filing, Second, seen_by, AreTrusted, HasDiskFault, With, HasSecond, HasItsNeeds, HasScript, NeedsBasis}
pub use Rattle.life_app.specs.Obeys.{EndsMode, Obeys}
pub use Rattle.life_app.specs.Runs.{IsLeftSo, AreLeft, AreRuns, WasCut, AddsCommands, HasReturned, OneRun, HasAnsweredSome}
pub use Rattle.life_app.specs.TableReserves.{table_reserves, AreOnce}
pub use Rattle.life_app.specs.Texts.{AreAlike, IsPlainReply, IsPlainRow, IsPlainWorth, TellsApart}
pub use Rattle.life_app.proofs.Parts.{AreNoWords, AskForCheckpoint, AskForGenerate, AskForLoad, AskForProject, AskForRun, AskForValue, HasBasis, HasItsJournal, HasJournal, HasNewFault, HasNoBasis, HasNoJournal, HasNoScript, LacksItsJournal, NeedsOf, commands_of}
pub use Rattle.life_app.specs.WorkedRun.Calls.{called, CalledDisk, cut_disk, last_disk, cut_file, called_disk, Unsynced, untorn, empty_disk, reopening, creation, paid_disk, second_calls, puts, posts, stages, fails, looks, HonestCalls, issuing, first_calls}
pub use Rattle.life_app.specs.WorkedRun.Due.{letters, letters_filing, value_lanes, value_script, no_input, BasisByHand, DueByHand, DueOfTheRun, NeedsByHand, basisless_shelf, cut_filing, faulty_script, stocked_shelf}
pub use Rattle.life_app.specs.WorkedRun.Promise.{output_of, shelf_that_told, two_auditors, given_script, premium_lanes, premium_script, premium_text, GivenByHand, HeadlineByHand, ObeyedByHand, PromisedByHand, ToldOnceSafe, premium_line}
pub use Rattle.life_app.specs.WorkedRun.Runs.{both_commands, looked_disk, second_opening, cut_run, first_opening, first_turns, second_turns, issue_turn, CrashesByHand, ImagesByHand, FoundByHand, LeftByHand, OpenedByHand, RanByHand, RowByHand, whole_run}
pub use Rattle.life_app.specs.inside.Obeying.{Does, EndsBooks, EndsSave, SaysUnasked}
pub use Rattle.life_args.specs.Pieces.{bare, joined}
pub use Rattle.life_args.specs.Words.{AreWords}
pub use Rattle.life_args.specs.declared.mode.Mode.{Mode}
pub use Rattle.life_args.specs.declared.mode.Mode.TheVariants.{Run, State, Checkpoint, Value, Project, Generate, Load}
unfoldable pub use Rattle.life_dates.specs.Anniversary.{anniversary_of}
unfoldable pub use Rattle.life_dates.specs.Calendar.{date_of, month_of, days_before_year, days_of_months, day_number}
pub use Rattle.life_dates.specs.Calendar.{Date}
unfoldable pub use Rattle.life_dates.specs.DayText.{day_text}
pub use Rattle.life_dates.proofs.Parts.{two_digits}
pub use Rattle.life_dates.specs.DayText.{date_text}
pub use Rattle.office_state.proofs.JournalLaws.{opens_to_one, shown_opens_to_none, to_bodies}
pub use Rattle.office_state.proofs.WorkedOffices.{valid_issue, both, valid_premium}
pub use Rattle.office_state.proofs.Holdings.{HoldsAtLeast, HoldsNow, HoldsOnce, KeepsAccepted}
pub use Rattle.office_state.specs.Images.{HasKept, IsFrontThere, IsLeftAlone, IsLeftBy, IsThere, WasFaulted}
pub use Rattle.program_endings.specs.Refusals.{EndsNoOffice}
pub use Rattle.script_run.specs.Texts.{WroteAsEnded}
pub use Rattle.transcript_text.proofs.TextNames.{IsLineText}
pub use Rattle.office_state.specs.Journals.{Opens, JournalBytes, OpensToNone, IsShown, IsOfTheFile}
pub use Rattle.office_state.specs.Worked.{hand_issue, hand_premium, premium_turn}
pub use Rattle.office_state.specs.declared.faults.StartCause.TheVariants.{NotAJournal, DiskFault as FaultyDisk, BadRecord, NoMemory as NoRoom}
pub use Rattle.outside_io.specs.Faults.{Rose}
pub use Rattle.outside_io.specs.FileCalls.{Synced, FileCall, writes_within, AreAllowed, FileLeft, WrittenTo, file_reads, sync_failed, SafeUnless, FileImage}
pub use Rattle.outside_io.specs.FileLaws.{left_only_now, left_by_now, reads_as_left}
pub use Rattle.outside_io.specs.Streams.{GivesMore, TakenPiece}
pub use Rattle.outside_io.specs.declared.disks.Disk.{Ghosts}
pub use Rattle.plan_benefits.specs.declared.fault.NotValued.TheVariants.{NoBasis, BelowTable, PastTable, RateHigh}
pub use Rattle.policy_machine.specs.History.{accepted_of, Opening, commands_after, opened_on, fault_of, IsLegal}
pub use Rattle.policy_machine.proofs.Parts.{accepted_by}
pub use Rattle.policy_types.specs.declared.command.Command.{Command}
pub use Rattle.policy_types.specs.declared.entry.At.{At}
pub use Rattle.policy_types.specs.declared.entry.At.TheVariants.{Position, Now}
pub use Rattle.policy_types.specs.declared.entry.Entry.{Entry}
pub use Rattle.policy_types.specs.declared.entry.Reply.{Reply}
pub use Rattle.policy_types.specs.declared.entry.Reply.TheVariants.{Accepted, Faulted, Refused, Pinned, PinRefused, Floor, Blank, Slice, Unpinned}
pub use Rattle.policy_types.specs.declared.policy.Status.TheVariants.{InForce, PaidUp, Lapsed, Claimed, Matured, Expired, Settled}
pub use Rattle.policy_types.specs.declared.script.Lane.{Lane}
pub use Rattle.policy_value.specs.declared.worth.Measure.{Measure}
pub use Rattle.policy_value.specs.declared.worth.Measure.TheVariants.{Terminal}
pub use Rattle.policy_value.specs.declared.worth.Row.{Row}
pub use Rattle.policy_value.specs.declared.worth.Worth.TheVariants.{Word, Bounds, Both}
pub use Rattle.posting_journal.specs.Files.{IsJournal, HasRecords, IsStaged}
pub use Rattle.posting_journal.specs.Runs.{IsSafe, Leaves, LooksOn}
pub use Rattle.program_endings.specs.Status.{status_of}
pub use Rattle.program_endings.specs.Texts.{EndsReadOnly}
pub use Rattle.program_endings.specs.WithoutBasis.{EndsNoBasis, SaysBadFile}
pub use Rattle.program_endings.specs.Writing.{Input, Shelving, Stream, IsWholeInput, WroteAll, WroteLine}
pub use Rattle.program_endings.specs.declared.ending.Ending.{Ending}
pub use Rattle.program_endings.specs.declared.ending.Ending.TheVariants.{Done, NoMemory, BadJournal, DiskFault, WriteFault, BadBasis, Usage, BadScript, ReadFault, Ahead}
unfoldable pub use Rattle.record_codec.specs.Spelling.{spelling_of}
unfoldable pub use Rattle.report_text.specs.Block.{heading_text, row_text, total_text}
pub use Rattle.report_text.specs.Block.{block_text, worth_fields}
pub use Rattle.script_run.specs.Outcome.{EndsScript, IsRunOf}
pub use Rattle.script_run.proofs.LaneNames.{EndsLanes}
pub use Rattle.script_run.specs.Running.{EndsRun, HasItsBasis, EndsRead, ReadsForValues}
pub use Rattle.script_run.specs.Script.{EndsUnread, asks_for_values, IsReadAs, IsUnreadable, most_script_bytes}
unfoldable pub use Rattle.statements.specs.Statements.{balance_text, policy_text, entry_text}
pub use Rattle.stating_modes.specs.Books.{policy_account}
pub use Rattle.stating_modes.specs.Saved.{EndsCheckpoint, IsNoneOrEarlierOrHeld}
pub use Rattle.stating_modes.specs.inside.Saving.{checkpoint_text}
pub use Rattle.stating_modes.specs.Stating.{EndsState}
pub use Rattle.stating_modes.proofs.Parts.{IsStated, books_of, snapshot_text}
pub use Rattle.stating_modes.specs.TwoDisks.{AreTrue, TellsTruth, TwoDisks, AreBothQuiet, IsOnlyRead, IsHeldWhereTrue, IsMadeSafe}
pub use Rattle.transcript_text.specs.Transcript.{IsToldLine, IsToldText, reply_fields, run_wording}
pub use Rattle.transcript_text.specs.Lines.{posting_text, reports_text}
pub use Rattle.trial_load.specs.Loading.{EndsLoading, IsLoadOf}
pub use Rattle.trial_load.specs.inside.Loaded.{EndsLoad}
pub use Rattle.valuing_modes.specs.Projecting.{EndsProject}
pub use Rattle.valuing_modes.specs.Valuing.{EndsValue, position_of}
pub use Rattle.valuing_modes.proofs.Parts.{IsAhead, IsProjected, IsValued}
pub use Rattle.watcher_set.specs.Noted.{Auditor, reports_of}
