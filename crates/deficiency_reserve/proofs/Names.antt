-- The names that several proofs cite, passed on from one place. Declares nothing.
pub use Rattle.std.proofs.Common.{arith, ℕ, ◌*◌, ◌<◌, refl, ◌≡◌, ◌-◌, ◌≤◌, ◌+◌, ap, sym, inl, inr, max, zero, suc, ◌^◌, false, nat_le}
unfoldable pub use Rattle.deficiency_reserve.specs.Minimum.{minimum}
unfoldable pub use Rattle.deficiency_reserve.proofs.Greater.{greater}
unfoldable pub use Rattle.deficiency_reserve.specs.MinimumLaws.{total_below, value_of_dues, deferred}
pub use Rattle.deficiency_reserve.specs.MinimumLaws.{AreEqual, IsAtMost, gross}
pub use Rattle.deficiency_reserve.proofs.EachBound.{gross_lo, gross_hi}
unfoldable pub use Rattle.present_value.specs.Fractions.{times, less, whole, lesser, plus, over}
pub use Rattle.present_value.specs.Fractions.{Fraction, Between}
unfoldable pub use Rattle.present_value.specs.Premium.{beta, excess, term_premium, renewal_premium, level_premium}
unfoldable pub use Rattle.present_value.specs.Recursion.{ben_bound, ann_bound}
pub use Rattle.present_value.specs.Recursion.{ben_lo, ben_hi, ann_lo, ann_hi}
unfoldable pub use Rattle.present_value.specs.Reserve.{reserve}
pub use Rattle.present_value.specs.Reserve.{Encloses}
unfoldable pub use Rattle.present_value.specs.Sums.{ann, ben, survivors}
unfoldable pub use Rattle.present_value.proofs.Recursions.{sum_below}
pub use Rattle.present_value.proofs.Recursions.{sum_below-is}
pub use Rattle.present_value.specs.Sums.{Cover, year}
