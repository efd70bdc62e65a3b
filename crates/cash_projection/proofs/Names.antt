-- The names that several proofs cite, passed on from one place. Declares nothing.
pub use Rattle.std.proofs.Common.{arith, refl, ◌≡◌, length, ◌+◌, ◌≤◌, ap, ◌∙◌, ℕ, ◌<◌, sym, List, subst, ◌*◌, suc, ◌++◌, inl, inr, zero, ℤ, [], ◌∷◌, ◌-◌, get_or, take, length-append, lit<, rules, ◌^◌, add-one, All, w32, to_z, of_z, lit≤, ap₂, true, le_trans, append-nil, append_assoc, vec_capacity, Bool, false, if◌then◌else◌, nat_eq, le_of_mul-le-mul_right, slice_set, le_refl, ◌<ℤ◌, FitsSigned, mul-zero, ◌≢◌, ◌⊎◌, min, ◌/◌, ◌%◌, slice_index_or, Vec, Global, Result, Ok, Err, Some, length-take-le, one-mul, lt_of_mul-lt-mul_right, drop, true≢false}
pub use Rattle.std.proofs.lemmas.Bool.{cases_eq, false≢true}
pub use Rattle.std.proofs.lemmas.Bool.Decides.{eqb_tells, leb_tells}
pub use Rattle.std.proofs.lemmas.Int.{to_z-of_z, ints}
pub use Rattle.std.proofs.lemmas.List.{length-set, get_or-set_same, get_or-set_other, length-replicate, get_or_default, take_all, with_items_is, take_more, get_or-take, get_or_read, take-append-drop}
pub use Rattle.std.specs.List.{AllByRecursion, AllZip, slice_get, range_with_len, sum_by, flat_map, enumerate_from}
pub use Rattle.basis_book.specs.Dated.{Dated, IsPicked}
pub use Rattle.cash_projection.specs.Cash.{IsCash, rounded_year, EnclosesExpected}
pub use Rattle.cash_projection.specs.Policies.{prospect_of, IsOfIssue, IsCashOf, IsProspect}
pub use Rattle.cash_projection.specs.Prospects.{Prospect, maturity_due, IsSmall, death_due, due, premium_due}
unfoldable pub use Rattle.cash_projection.specs.Survival.{alive_by, alive}
pub use Rattle.cash_projection.specs.Survival.{dying, dying_by}
unfoldable pub use Rattle.cash_projection.specs.Text.{year_text}
pub use Rattle.cash_projection.specs.Text.{IsTellable}
pub use Rattle.cash_projection.specs.declared.column.Sums.{Sums}
pub use Rattle.cash_projection.specs.declared.path.SurvivalPath.{SurvivalPath}
pub use Rattle.cash_projection.specs.declared.tally.Tally.{Tally}
pub use Rattle.cash_projection.specs.declared.years.Year.{Year}
pub use Rattle.cash_projection.specs.inside.Ahead.{nothing_ahead, charged, asked_text}
pub use Rattle.cash_projection.specs.inside.Paths.{rates_after, IsSurvivalPath, alive_pair, dying_pair, KnowsYears, IsRightPath, AreRatesOf, IsPathAt, IsTableOfRow, ArePaths}
pub use Rattle.cash_projection.specs.inside.Portions.{IsProjectorFor, GivesTally, TakesPortion, policies_of_portions, AreTallies, AreTalliesOfFew}
pub use Rattle.cash_projection.specs.inside.Tallies.{premium_by, death_by, maturity_by, IsTallyOf, HasAdded, HasRisen, sum_at, AreBothSums, IsSized, HasGained, HasCounted, Fits, IsIdle, sums_of, HasCountedBy, AreSums, TakesOneMore, IsRoomy, IsTally}
pub use Rattle.parallel_value.specs.Pieces.{AreAsBefore, AreValues, MayGive, TakeAll, IsAsBefore}
pub use Rattle.policy_types.specs.Limits.{most_commands}
pub use Rattle.policy_types.specs.declared.policy.Policy.{Policy}
pub use Rattle.present_value.specs.Rounding.{UNIT, down, up}
pub use Rattle.present_value.specs.Values.{pair_of, pair_at}
pub use Rattle.present_value.specs.declared.pair.Pair.{Pair}
pub use Rattle.rate_table.specs.Rates.{ONE, Rates, AreRates}
pub use Rattle.select_rates.specs.Along.{table_along}
