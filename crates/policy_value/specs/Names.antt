-- The names from elsewhere that several modules cite, passed on from one place. Declares nothing.
pub use Rattle.basis_book.specs.Dated.{Dated, IsPicked}
pub use Rattle.crvm_reserve.specs.Made.{premium_of, IsUnitFor, IsMadeFor, IsPaidUpFor, CanReserve}
pub use Rattle.plan_benefits.specs.Shapes.{shape_of}
pub use Rattle.plan_benefits.specs.declared.fault.NotValued.{NotValued}
pub use Rattle.policy_types.specs.Valid.{IsAmount, IsIssue}
pub use Rattle.policy_types.specs.declared.command.Plan.{Plan}
pub use Rattle.policy_types.specs.declared.policy.Policy.{Policy}
pub use Rattle.policy_types.specs.declared.policy.Status.TheVariants.{PaidUp, InForce}
pub use Rattle.present_value.specs.Ends.{value_to, AreValuesAt, CanEnd, IsColumn}
unfoldable pub use Rattle.present_value.specs.Premium.{beta}
pub use Rattle.present_value.specs.Premium.{cap_of, cap_shape}
unfoldable pub use Rattle.present_value.specs.Reserve.{reserve}
pub use Rattle.present_value.specs.Reserve.{Encloses}
unfoldable pub use Rattle.present_value.specs.Sums.{ben}
pub use Rattle.present_value.specs.Sums.{cover_of, Cover}
pub use Rattle.present_value.specs.Values.{pair_at, CanValue}
pub use Rattle.present_value.specs.declared.pair.Pair.{Pair as APair, Pair}
pub use Rattle.rate_table.specs.Rates.{AreRates, Rates, HoldsAge}
pub use Rattle.rate_table.specs.declared.shape.Shape.{Shape, Shape as AShape}
pub use Rattle.select_rates.specs.Along.{table_along, IsRateOf}
pub use Rattle.select_rates.specs.declared.any.AnyTable.{AnyTable}
