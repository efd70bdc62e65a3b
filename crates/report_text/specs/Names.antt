-- The names from elsewhere that several modules cite, passed on from one place. Declares nothing.
pub use Rattle.std.specs.List.{flat_map, AllByRecursion, All, sum_by}
pub use Rattle.deficiency_reserve.specs.declared.answer.Adequacy.TheVariants.{Short, Enough, Close}
pub use Rattle.life_dates.specs.Calendar.{IsDay}
pub use Rattle.money_core.specs.CentsText.{cents_text}
pub use Rattle.plan_benefits.specs.declared.fault.NotValued.TheVariants.{PastTable, NoBasis, BelowTable, RateHigh}
pub use Rattle.policy_types.specs.Limits.{most_commands}
pub use Rattle.policy_value.specs.declared.worth.Measure.TheVariants.{Terminal, Mean, Deficiency}
pub use Rattle.policy_value.specs.declared.worth.Row.{Row}
pub use Rattle.policy_value.specs.declared.worth.Worth.TheVariants.{Bounds, Both, Word}
pub use Rattle.text_lines.specs.Lines.{behind_commas, line_of}
