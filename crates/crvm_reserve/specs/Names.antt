-- The names from elsewhere that several modules cite, passed on from one place. Declares nothing.
pub use Rattle.present_value.specs.Ends.{AreValuesAt}
pub use Rattle.present_value.specs.Fractions.{Between, Fraction}
unfoldable pub use Rattle.present_value.specs.Mean.{mean_reserve, net_premium, paid_up_mean}
unfoldable pub use Rattle.present_value.specs.Premium.{beta}
pub use Rattle.present_value.specs.Premium.{cap_of, cap_shape}
unfoldable pub use Rattle.present_value.specs.Recursion.{ben_bound, ann_bound}
unfoldable pub use Rattle.present_value.specs.Reserve.{reserve}
pub use Rattle.present_value.specs.Reserve.{Encloses}
pub use Rattle.present_value.specs.Rounding.{UNIT, down, up}
unfoldable pub use Rattle.present_value.specs.Sums.{ben}
pub use Rattle.present_value.specs.Sums.{Cover, cover_of, year, death}
pub use Rattle.present_value.specs.Values.{AreColumns, CanValue}
pub use Rattle.present_value.specs.declared.pair.Values.{Values}
pub use Rattle.rate_table.specs.Rates.{ONE, AreRates, rate_at, HoldsAge, last_age_of, Rates}
