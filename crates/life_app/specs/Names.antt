-- The names from elsewhere that several modules cite, passed on from one place. Declares nothing.
unfoldable pub use Rattle.std.specs.List.{IsDistinct}
pub use Rattle.std.specs.List.{AllByRecursion, AllZip, Contains}
pub use Rattle.basis_book.specs.Dated.{Dated, IsPicked}
pub use Rattle.basis_shelf.specs.Bases.{IsBasis}
pub use Rattle.basis_shelf.specs.FirstBad.{IsFirstBadFile}
pub use Rattle.checkpoint_store.specs.Checkpoints.{CheckpointBytes, IsSnapshotOf}
pub use Rattle.command_csv.specs.Reads.{Reads, IsFirstScriptFault}
pub use Rattle.command_csv.specs.inside.Words.{lane_of}
pub use Rattle.lane_runner.specs.AnsweredLines.{AnsweredLine, AreLinesOf}
pub use Rattle.life_args.specs.Words.{AreWords}
pub use Rattle.life_args.specs.declared.mode.Mode.{Mode}
pub use Rattle.life_args.specs.declared.mode.Mode.TheVariants.{State, Run, Checkpoint, Value, Project, Generate, Load, Value as ToValue}
pub use Rattle.office_state.specs.Images.{IsLeftAlone, IsFrontThere, IsLeftBy, IsThere, WasFaulted, HasKept}
pub use Rattle.office_state.specs.Journals.{Opens, OpensToNone, IsShown}
pub use Rattle.office_state.specs.Worked.{hand_issue, hand_premium, premium_turn, issue_record, journal_of_two, premium_body}
pub use Rattle.office_state.specs.declared.faults.StartCause.{StartCause}
pub use Rattle.outside_io.specs.Faults.{Rose}
pub use Rattle.outside_io.specs.FileCalls.{FileCall, Measured, Synced, file_reads, ReadFrom, WrittenTo, writes_within, AreAllowed, FileImage, FileLeft}
pub use Rattle.outside_io.specs.Shelves.{Files, Absent, Found, Agrees, Answer}
pub use Rattle.outside_io.specs.Streams.{GivesMore, TakenPiece}
pub use Rattle.outside_io.specs.declared.disks.Disk.{Ghosts}
pub use Rattle.plan_benefits.specs.declared.fault.NotValued.{NotValued}
pub use Rattle.policy_machine.specs.Book.{book, IsAccepted}
pub use Rattle.policy_machine.specs.History.{Opening, opened_on, accepted_of, IsLegal, commands_after}
pub use Rattle.policy_machine.specs.Rules.{issued}
pub use Rattle.policy_types.specs.Valid.{IsValid, id_of}
pub use Rattle.policy_types.specs.declared.command.Command.{Command}
pub use Rattle.policy_types.specs.declared.command.Command.TheVariants.{Issue, Premium, Alter, Lapse, Reinstate, Claim, Settle, Mature, PaidUp, Upgrade}
pub use Rattle.policy_types.specs.declared.command.Plan.TheVariants.{Endowment}
pub use Rattle.policy_types.specs.declared.entry.At.{At}
pub use Rattle.policy_types.specs.declared.entry.At.TheVariants.{Position, Now}
pub use Rattle.policy_types.specs.declared.entry.Entry.{Entry}
pub use Rattle.policy_types.specs.declared.entry.Reply.{Reply}
pub use Rattle.policy_types.specs.declared.entry.Reply.TheVariants.{Faulted, Accepted, Refused, Pinned, Blank, Floor, PinRefused, Slice as Policies, Unpinned}
pub use Rattle.policy_types.specs.declared.policy.Policy.{Policy}
pub use Rattle.policy_types.specs.declared.policy.Status.TheVariants.{InForce, Lapsed, Claimed, Matured, Expired, Settled, PaidUp as IsPaidUp}
pub use Rattle.policy_types.specs.declared.refusal.Refusal.TheVariants.{TooEarly, WrongAmount, Taken, Unknown, BeforeLast, WrongStatus, TermOver, NothingDue, GraceOver, NotInArrears, TooLate, NotAReduction, NotMatured, OverSettled, Full, NotUpgraded, Upgraded}
pub use Rattle.policy_types.specs.declared.script.Lane.{Lane}
pub use Rattle.policy_types.specs.declared.script.Line.TheVariants.{Post, Post as PostLine}
pub use Rattle.policy_value.specs.Rows.{IsInsured, IsYear}
pub use Rattle.policy_value.specs.declared.worth.Measure.{Measure}
pub use Rattle.policy_value.specs.declared.worth.Measure.TheVariants.{Terminal}
pub use Rattle.policy_value.specs.declared.worth.Row.{Row}
pub use Rattle.policy_value.specs.declared.worth.Worth.{Worth}
pub use Rattle.policy_value.specs.declared.worth.Worth.TheVariants.{Bounds, Word}
pub use Rattle.posting_journal.specs.Runs.{IsSafe, Leaves}
pub use Rattle.present_value.specs.Fractions.{Fraction}
pub use Rattle.program_endings.specs.Refusals.{SaysWhy}
pub use Rattle.program_endings.specs.Replies.{HaveAFault}
pub use Rattle.program_endings.specs.Status.{status_of}
pub use Rattle.program_endings.specs.Writing.{Stream, Shelving, Input, between, input_between, shelf_between, WroteLine, IsWholeInput, WroteOrFailed}
pub use Rattle.program_endings.specs.declared.ending.Ending.{Ending, Ending as AnEnding}
pub use Rattle.program_endings.specs.declared.ending.Ending.TheVariants.{Done, NoMemory, Usage, BadJournal, ReadFault, BadScript, BadBasis, DiskFault, Ahead, WriteFault}
pub use Rattle.script_run.specs.Outcome.{IsRunOf, EndsScript}
pub use Rattle.script_run.specs.Running.{ReadsForValues, EndsRun, EndsRead}
pub use Rattle.script_run.specs.Script.{EndsUnread, IsUnreadable, IsReadable, asks_for_values, most_script_bytes, IsRefused, IsReadAs}
pub use Rattle.script_run.specs.Shown.{AreSafeWhenShown}
pub use Rattle.script_run.specs.Texts.{WroteAsEnded}
pub use Rattle.script_run.specs.Worked.{input_that_gave}
pub use Rattle.stating_modes.specs.Books.{books_text, policy_account}
pub use Rattle.stating_modes.specs.Saved.{EndsCheckpoint, IsNoneOrEarlierOrHeld}
pub use Rattle.stating_modes.specs.Stated.{EndsStateKept}
pub use Rattle.stating_modes.specs.Stating.{EndsState}
pub use Rattle.stating_modes.specs.TwoDisks.{TwoDisks, TellsTruth, IsMadeSafe, AreTrue, disks_of}
pub use Rattle.transcript_text.specs.Transcript.{IsToldLine, Wording, run_wording}
pub use Rattle.transcript_text.specs.Lines.{posting_text, reports_text, trim_text, unpinned_text, unvalued_text, watcher_text}
pub use Rattle.trial_load.specs.Generating.{EndsGenerate}
unfoldable pub use Rattle.load_maker.specs.GeneratedLanes.{generated_lanes}
pub use Rattle.lone_office.specs.Beginning.{EndsOverBasis}
pub use Rattle.trial_load.specs.Loading.{EndsLoading}
pub use Rattle.valuing_modes.specs.Projecting.{EndsProject}
pub use Rattle.valuing_modes.specs.Valuing.{EndsValue, position_of}
pub use Rattle.watcher_set.specs.Limits.{most_watchers}
pub use Rattle.watcher_set.specs.Noted.{Auditor, reports_of}
