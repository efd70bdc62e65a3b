-- The names from elsewhere that several modules cite, passed on from one place. Declares nothing.
pub use Rattle.crvm_reserve.specs.Made.{ArePaidUpFor, IsPaidUpFor, IsPaidUpAt}
unfoldable pub use Rattle.present_value.specs.Fractions.{times, whole, plus, less, lesser}
pub use Rattle.crvm_reserve.specs.Rounded.{low_and_high}
pub use Rattle.present_value.specs.Fractions.{Fraction, Between}
unfoldable pub use Rattle.present_value.specs.Recursion.{ben_bound, ann_bound}
unfoldable pub use Rattle.present_value.specs.Premium.{beta}
pub use Rattle.present_value.specs.Premium.{cap_of}
unfoldable pub use Rattle.present_value.specs.Reserve.{reserve}
pub use Rattle.present_value.specs.Reserve.{Encloses}
pub use Rattle.present_value.specs.Rounding.{UNIT, down, up}
unfoldable pub use Rattle.present_value.specs.Sums.{ben, survivors, ann}
pub use Rattle.present_value.specs.Sums.{Cover, year, cover_of}
