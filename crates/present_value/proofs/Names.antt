-- The names that several proofs cite, passed on from one place. Declares nothing.
pub use Rattle.std.proofs.Common.{arith, ◌+◌, ◌≡◌, ℕ, ◌<◌, ◌≤◌, ◌-◌, ◌*◌, refl, ap, ◌∙◌, suc, zero, inl, inr, true, sym, false, if◌then◌else◌, length, Bool, add-zero, lit<, lit≤, List, slice_set, ◌^◌, get_or, EachIndex, min, ◌≢◌, lt_of_mul-lt-mul_right, ◌/◌, one-mul, mul-one, rules}
pub use Rattle.std.proofs.lemmas.Bool.Decides.{leb_tells}
pub use Rattle.std.proofs.lemmas.List.{length-set, get_or-set_same, get_or-set_other}
pub use Rattle.present_value.specs.Ends.{value_to, IsOf, IsColumn, cover_to, benefits_to, premiums_to, CanEnd, IsStarted, benefit_stream}
unfoldable pub use Rattle.present_value.specs.Fractions.{plus, less, over, lesser, times, whole}
pub use Rattle.present_value.specs.Fractions.{Between, Fraction}
unfoldable pub use Rattle.present_value.specs.Mean.{net_premium, mean_reserve, paid_up_mean}
unfoldable pub use Rattle.present_value.proofs.Recursions.{rounded_ben, rounded_ann, sum_below}
pub use Rattle.present_value.proofs.Recursions.{survival, sum_below-is, ben_is_rounded, ann_is_rounded}
unfoldable pub use Rattle.present_value.specs.Recursion.{ben_bound, ann_bound}
pub use Rattle.present_value.specs.Recursion.{ben_lo, ben_hi, ann_lo, ann_hi}
pub use Rattle.present_value.specs.Rounding.{down, up, UNIT}
pub use Rattle.present_value.specs.inside.Earlier.{benefit_dividend, annuity_dividend}
unfoldable pub use Rattle.present_value.specs.Sums.{ben, survivors, ann}
pub use Rattle.present_value.specs.Sums.{Cover, year, cover_of, death}
pub use Rattle.present_value.specs.Values.{pair_of, pair_at, IsPairOf}
pub use Rattle.rate_table.specs.Rates.{ONE, rate_at, Rates, AreRatesFrom}
