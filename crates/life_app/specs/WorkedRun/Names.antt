-- The names that several modules of the worked run cite, passed on from one place. Declares nothing.
pub use Rattle.life_app.specs.Crashes.{AreAllHeld, AreHeld, HasRun}
pub use Rattle.life_app.specs.Due.{IsDueEnding}
pub use Rattle.life_app.specs.Headline.{IsEnclosingRow, IsGivenBasis, IsPromised, IsUnrun, IsWorthBy}
pub use Rattle.life_app.specs.Names.{Absent, Accepted, Agrees, Answer, AnsweredLine, AreLinesOf, AreSafeWhenShown, AreTrue, Auditor, BadBasis, BadJournal, BadScript, Bounds, CheckpointBytes, Command, Dated, DiskFault, Done, Ending, Endowment, EndsCheckpoint, EndsGenerate, EndsProject, EndsRead, EndsRun, EndsScript, EndsState, EndsStateKept, EndsValue, Entry, Faulted, FileCall, Found, GivesMore, HaveAFault, InForce, Input, IsBasis, IsFrontThere, IsInsured, IsLeftAlone, IsLegal, IsMadeSafe, IsPicked, IsReadable, IsRunOf, IsUnreadable, IsWholeInput, Issue, Lane, Measured, NoMemory, Now, Opening, Opens, Pinned, Policies, Policy, Position, Post, Premium, ReadFrom, Reads, ReadsForValues, Refused, Reply, Row, Run, Shelving, State, Stream, Synced, TellsTruth, Terminal, ToValue, TooEarly, TwoDisks, Unpinned, Usage, WasFaulted, WrongAmount, books_text, file_reads, hand_issue, hand_premium, input_that_gave, issued, lane_of, most_script_bytes, opened_on, premium_turn, run_wording, status_of, AreWords, Ahead, Checkpoint, IsFirstBadFile, OpensToNone, Mode, Load, Project, book}
pub use Rattle.life_app.specs.Needs.{Filing, Second, With, Without, filing_between, HasItsNeeds, HasScript, JournalIs, NeedsBasis, ShelfHas}
pub use Rattle.life_app.specs.Obeys.{EndsMode, EndsUnasked, Obeys}
pub use Rattle.life_app.specs.Runs.{AddsCommands, AreLeft, AreRuns, HasAnsweredSome, HasReturned, OneRun, WasCut}
pub use Rattle.life_app.specs.TableReserves.{table_reserves}
pub use Rattle.policy_types.specs.declared.script.Line.TheVariants.{Post as PostLine, Value}
