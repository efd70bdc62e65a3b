-- The names from elsewhere that several modules cite, passed on from one place. Declares nothing.
pub use Rattle.std.specs.List.{AllByRecursion, AllZip, All, range_with_len, sum_by, flat_map, enumerate_from}
pub use Rattle.basis_book.specs.Dated.{Dated, IsPicked}
pub use Rattle.plan_benefits.specs.Shapes.{shape_of}
pub use Rattle.plan_benefits.specs.declared.fault.NotValued.{NotValued}
pub use Rattle.policy_types.specs.Limits.{most_commands}
pub use Rattle.policy_types.specs.declared.policy.Policy.{Policy, Policy as APolicy}
pub use Rattle.present_value.specs.Fractions.{Between, Fraction}
pub use Rattle.present_value.specs.Rounding.{down, up, UNIT}
pub use Rattle.present_value.specs.Values.{pair_at, pair_of}
pub use Rattle.present_value.specs.declared.pair.Pair.{Pair}
pub use Rattle.rate_table.specs.Rates.{ONE, Rates, rate_at, HoldsAge, AreRates}
pub use Rattle.rate_table.specs.declared.shape.Shape.{Shape}
pub use Rattle.select_rates.specs.Along.{table_along, IsBelow}
pub use Rattle.select_rates.specs.declared.any.AnyTable.{AnyTable}
pub use Rattle.shared_office.specs.Offices.{IsOfficeHistory, OfficeOpening}
pub use Rattle.text_lines.specs.Lines.{behind_commas}
pub use Rattle.turn_lock.specs.Passes.{PassFacts, Holding}
