-- The names that several proofs cite, passed on from one place. Declares nothing.
pub use Rattle.std.proofs.Common.{◌≡◌, length, arith, ◌-◌, ◌<◌, ◌∙◌, ap, ℕ, ◌+◌, ◌++◌, List, sym, inl, inr, [], ◌≤◌, drop, refl}
pub use Rattle.std.specs.Prelude.{slice_index_or, slice_index}
pub use Rattle.rate_table.specs.Rates.{Rates, rate_at, last_age_of, AreRatesFrom}
pub use Rattle.select_rates.specs.Select.{Selected, IsSelectPeriod, AreSelected}
pub use Rattle.select_rates.specs.inside.Joined.{AreJoined, IsJoined, ArePrepared, AreJoinedTables}
