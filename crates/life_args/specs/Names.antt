-- The names from elsewhere that several modules cite, passed on from one place. Declares nothing.
pub use Rattle.std.specs.Global.{Global}
pub use Rattle.std.specs.List.{list_any, Contains}
pub use Rattle.clap.specs.Words.{found_of, app_of, rule_of, App, Rule, Text, matched_of, new_app, new_rule, raw_values}
pub use Rattle.clap.specs.declared.parser.matches.Found.{Found}
pub use Rattle.policy_types.specs.declared.entry.At.{At}
pub use Rattle.policy_types.specs.declared.entry.At.TheVariants.{Now, Position}
pub use Rattle.policy_value.specs.declared.worth.Measure.{Measure}
pub use Rattle.policy_value.specs.declared.worth.Measure.TheVariants.{Terminal, Mean, Deficiency}
