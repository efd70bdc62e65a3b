-- The names that several proofs cite, passed on from one place. Declares nothing.
pub use Rattle.std.proofs.Common.{sym, arith, ap, ◌∙◌, ◌≡◌, length, [], ◌∷◌, refl, subst, ◌+◌, ◌≤◌, nat_eq, ◌++◌, Some, ℕ, true, ◌<◌, slice_get, false, List, Bool, None, zero, suc, if◌then◌else◌, nat_le, filter, cond, get_or, ◌-◌, ◌||◌, Option, inl, map, ◌*◌, ◌⊎◌, inr, vec_len, vec_capacity, IfSome, ◌^◌, take, ◌/◌, eq-eqb, append-nil, IsSome, is_some, Result, Ok, OnOk, nat_lt, add-one, drop, rules, Err, unwrap_or, pow-suc}
pub use Rattle.std.proofs.lemmas.Bool.{eqb-true, lt-leb, le-leb, leb-true, leb-false, cases_lt}
pub use Rattle.std.proofs.lemmas.List.{length-map, length_push, map-append, take_more, take_all}
pub use Rattle.std.proofs.lemmas.Option.{slice_get_within, get_or_from_slice_get, slice_get_read}
pub use Rattle.std.specs.List.{list_any}
pub use Rattle.std.specs.Map.{lookup, keys_of as entry_keys}
pub use Rattle.std.specs.Map.Iter.{deref_pair}
pub use Rattle.std.specs.Option.{option_map}
pub use Rattle.indexmap.specs.IndexMap.{get, keys, Updates, set_value_at, IndexMap, index_of, values, with_value_at, IsUnique}
pub use Rattle.versioned_book.specs.Books.{IsBookOf, kept_of, kept_versions, versions_in}
pub use Rattle.versioned_book.specs.Pasts.{newest, older_of, olders_in, places_in, older_total, AreWhereTold, AreApart, IsDeeper, own_older, HasPastRoom, PlacesAfter, is_key, place_by_entry}
pub use Rattle.versioned_book.specs.Settings.{own, Setting, keys_of, positions, until, settings_after, keys_after, with_key}
pub use Rattle.versioned_book.specs.Versions.{versions_from, value_at, IsRisingTo, IsRising, first_position, or_else, newest_of, trimmed_from}
pub use Rattle.versioned_book.specs.declared.book.VersionedBook.{VersionedBook}
pub use Rattle.versioned_book.specs.declared.chain.Chain.{Chain}
pub use Rattle.versioned_book.specs.declared.past.Past.{Past}
