-- The names from elsewhere that several modules cite, passed on from one place. Declares nothing.
pub use Rattle.std.specs.List.{AllByRecursion, AllZip, flat_map}
pub use Rattle.csv.specs.Records.{fields_of}
unfoldable pub use Rattle.life_dates.specs.DayText.{day_text}
pub use Rattle.money_core.specs.CentsText.{cents_text}
pub use Rattle.policy_types.specs.Valid.{IsCommandDay, IsId, IsAmount, IsReinstatement, IsIssueAge, AreYears, IsValid}
pub use Rattle.policy_types.specs.Words.{plan_word}
pub use Rattle.policy_types.specs.declared.command.Command.TheVariants.{Issue, Premium, Alter, Lapse, Reinstate, Claim, Settle, Mature, PaidUp, Upgrade}
pub use Rattle.policy_types.specs.declared.command.Plan.{Plan as APlan, Plan}
pub use Rattle.policy_types.specs.declared.entry.At.{At, At as APosition}
pub use Rattle.policy_types.specs.declared.entry.At.TheVariants.{Now, Position}
pub use Rattle.policy_types.specs.declared.script.Lane.{Lane, Lane as ALane}
pub use Rattle.policy_types.specs.declared.script.Line.{Line}
pub use Rattle.policy_types.specs.declared.script.Line.TheVariants.{Post, Value, Trim}
