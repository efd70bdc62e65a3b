-- The names from elsewhere that several modules cite, passed on from one place. Declares nothing.
pub use Rattle.std.specs.List.{flat_map, AllZip, Contains, enumerate_from}
pub use Rattle.life_dates.specs.Calendar.{IsDay, IsTermDay}
unfoldable pub use Rattle.life_dates.specs.DayText.{day_text}
pub use Rattle.money_core.specs.CentsText.{cents_text}
pub use Rattle.office_state.specs.Posting.{reply_of}
pub use Rattle.policy_types.specs.declared.refusal.Refusal.{Refusal}
pub use Rattle.policy_types.specs.declared.refusal.Refusal.TheVariants.{Taken, Unknown, BeforeLast, WrongStatus, TermOver, NothingDue, TooEarly, GraceOver, NotInArrears, TooLate, WrongAmount, NotAReduction, NotMatured, OverSettled, Full, NotUpgraded, Upgraded}
pub use Rattle.policy_types.specs.declared.script.Line.{Line}
pub use Rattle.policy_types.specs.declared.script.Line.TheVariants.{Post, Value, Trim, Value as ValueLine}
pub use Rattle.policy_types.specs.declared.watcher.Report.{Report}
pub use Rattle.report_text.specs.Block.{block_text}
pub use Rattle.text_lines.specs.Lines.{behind_commas, line_of}
