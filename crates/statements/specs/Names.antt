-- The names from elsewhere that several modules cite, passed on from one place. Declares nothing.
pub use Rattle.std.specs.List.{All, flat_map}
unfoldable pub use Rattle.life_dates.specs.DayText.{day_text}
pub use Rattle.policy_types.specs.Valid.{IsValid, IsCommandDay}
pub use Rattle.policy_types.specs.Words.{plan_word, kind_word, status_word}
pub use Rattle.policy_types.specs.declared.command.Command.{Command as ACommand, Command}
pub use Rattle.text_lines.specs.Fields.{insurance_fields, entry_fields}
pub use Rattle.text_lines.specs.Lines.{behind_commas, line_of}
