-- The names that several proofs cite, passed on from one place. Declares nothing.
pub use Rattle.std.proofs.Common.{arith, ◌∙◌, ◌+◌, ◌<◌, ℕ, ◌*◌, ◌≤◌, ◌-◌, ◌≡◌, refl, subst, ap, suc, zero, inl, inr, ap₂, ◌^◌, ◌/◌, ◌%◌, min, length, add-zero}
pub use Rattle.crvm_reserve.specs.Made.{IsReserved, AreClose, AreMadeFor, ArePaidUpFor, IsMadeFor, premium_of, IsPaidUpFor, CanReserve, ArePremiumPartsOf}
unfoldable pub use Rattle.crvm_reserve.specs.Rounded.{level_bound, excess_bound, beta_bound, reserve_bound}
pub use Rattle.crvm_reserve.proofs.EachBound.{reserve_lo, reserve_hi, term_lo, term_hi, level_lo, level_hi, excess_lo, excess_hi, beta_lo, beta_hi, amount_lo, amount_hi, paid_up_lo, paid_up_hi}
pub use Rattle.crvm_reserve.specs.Rounded.{rounded, rounded_paid_up}
unfoldable pub use Rattle.crvm_reserve.specs.RoundedMean.{net_bound}
pub use Rattle.crvm_reserve.proofs.EachBound.{net_lo, net_hi, double_lo, double_hi, mean_lo, mean_hi, paid_up_mean_lo, paid_up_mean_hi}
pub use Rattle.crvm_reserve.specs.RoundedMean.{rounded_mean, rounded_paid_up_mean}
pub use Rattle.present_value.proofs.Fractions.{scaled-between, plus-between, less-between, lesser-between, over-between, times-between, positive_num, equal-between}
pub use Rattle.present_value.proofs.Quotients.{apart, up-le, down-le, le-up, lt-down, up-lt}
pub use Rattle.present_value.proofs.Steps.{ben_hi-most, ben_lo-most, ben-between, ben-narrow, ann_lo-least, ann-between, ann_lo-most, ann-narrow, ordered, ann_hi-most}
pub use Rattle.present_value.specs.Ends.{AreValuesAt}
unfoldable pub use Rattle.present_value.specs.Fractions.{over, whole, plus, less}
pub use Rattle.present_value.specs.Fractions.{Between, Fraction}
unfoldable pub use Rattle.present_value.specs.Premium.{term_premium, level_premium, excess, beta, renewal_premium}
pub use Rattle.present_value.specs.Premium.{cap_of, cap_shape}
unfoldable pub use Rattle.present_value.specs.Recursion.{ben_bound, ann_bound}
pub use Rattle.present_value.specs.Recursion.{ben_lo, ben_hi, ann_lo, ann_hi}
unfoldable pub use Rattle.present_value.specs.Reserve.{reserve}
pub use Rattle.present_value.specs.Reserve.{Encloses}
pub use Rattle.present_value.specs.Rounding.{UNIT, down, up}
unfoldable pub use Rattle.present_value.specs.Sums.{ben, ann}
pub use Rattle.present_value.specs.Sums.{Cover, year, death, cover_of}
pub use Rattle.present_value.proofs.Recursions.{survival}
pub use Rattle.present_value.specs.declared.pair.Columns.{Columns}
pub use Rattle.present_value.specs.declared.pair.Values.{Values}
