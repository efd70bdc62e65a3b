-- The names that several proofs cite, passed on from one place. Declares nothing.
pub use Rattle.std.proofs.Common.{◌∙◌, ◌≡◌, ap, sym, refl, arith, subst, ◌+◌, ℕ, ◌≤◌, rules, ◌<◌, List, Some, length, ◌-◌, All, Option, slice_get, true, [], ◌∷◌, None, inl, inr, get_or, true≢false, min, Bool, Contains, IfSome, ◌++◌, set, vec_capacity, ◌^◌, false, IfNone, is_some, Result, Ok, Err, OnOk, OnErr, ◌<ℤ◌, ℤ, w32, to_z, of_z}
pub use Rattle.std.proofs.lemmas.List.{length-set, get_or-set_same, take-map, get_or_append_left, get_or_default, get_or_push, length_push, length-map}
pub use Rattle.std.proofs.lemmas.List.Elements.{All-nil, All-weaker, All-push, All-contains, All-contains_itself, All-set}
pub use Rattle.std.specs.Map.{lookup, keys_of, lookup_entry, remove_entry}
pub use Rattle.basis_book.specs.Dated.{Dated, IsPicked}
pub use Rattle.crvm_reserve.specs.Made.{CanReserve, IsPaidUpFor, premium_of, IsUnitFor}
pub use Rattle.crvm_reserve.specs.declared.premium.Premium.{Premium}
pub use Rattle.lru.specs.LruCache.{LruCache, lru_cache, promoted, put_entries}
pub use Rattle.policy_types.specs.declared.policy.Status.TheVariants.{InForce, PaidUp, Lapsed, Claimed, Matured, Expired, Settled}
pub use Rattle.policy_value.specs.Caches.{IsRightPremium, IsRightPlace, IsRowOf, HasAsked, IsRightColumn, KeepsKeys, IsRightUnit}
pub use Rattle.policy_value.specs.Measures.{exact_reserve, rounded_reserve, IsExactFor}
pub use Rattle.policy_value.specs.declared.cache.ColumnCache.{ColumnCache}
pub use Rattle.policy_value.specs.declared.covered.Covered.{Covered}
pub use Rattle.policy_value.specs.declared.key.CacheKey.{CacheKey}
pub use Rattle.policy_value.specs.declared.worth.Measure.TheVariants.{Terminal, Mean}
pub use Rattle.policy_value.specs.inside.Covered.{cap_by, cover_by, IsCoverOf, IsCovered}
pub use Rattle.policy_value.specs.inside.Kept.{unit_place, HasPut, kept_unit, HasAgeAt}
pub use Rattle.present_value.specs.Ends.{value_to, AreValuesAt, IsColumn, IsOf}
unfoldable pub use Rattle.present_value.specs.Reserve.{reserve}
pub use Rattle.present_value.specs.Reserve.{Encloses}
pub use Rattle.present_value.specs.Sums.{Cover, cover_of}
pub use Rattle.rate_table.specs.Rates.{Rates, AreRates}
