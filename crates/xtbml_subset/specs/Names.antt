-- The names from elsewhere that several modules cite, passed on from one place. Declares nothing.
pub use Rattle.std.specs.Option.{unwrap_or, option_map_or}
pub use Rattle.std.specs.Str.{bytes_eq}
pub use Rattle.rate_table.specs.Rates.{Rates, last_age_of}
pub use Rattle.select_rates.specs.Select.{Selected}
pub use Rattle.select_rates.specs.declared.any.AnyTable.{AnyTable}
pub use Rattle.select_rates.specs.declared.any.AnyTable.TheVariants.{Select, Aggregate}
