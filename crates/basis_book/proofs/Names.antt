-- The names that several proofs cite, passed on from one place. Declares nothing.
pub use Rattle.std.proofs.Common.{◌≡◌, ◌==◌, arith, List, sym, ℕ, ◌∷◌, length, refl, [], ◌∙◌, ◌≤◌, true, subst, ◌<◌, ◌+◌, ◌<ℤ◌, ◌++◌, All, ℤ, false, Some, ap, inl, get_or, ◌≤ℤ◌, inr, take, suc, None, lit<, IsSome, slice_get, ◌-◌, Option, is_some, is_ok, ◌⊎◌, drop, codes, lit≤, Bool, Result, Ok, Err, map, zero, pos, w32, to_z, of_z, rules, OnOk, MatchBool, length-append, append_assoc, ◌≢◌, ◌*◌, ◌^◌, IfOk, IfErr, unwrap_or, option_map, Bor}
pub use Rattle.std.proofs.lemmas.Int.{ints, to_z-of_z}
pub use Rattle.std.proofs.lemmas.List.{length-take-le, length_push, get_or_past, get_or_at, append_cancel_left, take-append-drop, take_more, drop_more, map-append, map_push, length-map}
pub use Rattle.std.proofs.lemmas.List.Sums.{count_by-le-length}
pub use Rattle.std.proofs.lemmas.List.Elements.{All-cons, All-nil, All-map, All-more}
pub use Rattle.basis_book.specs.Dated.{Dated, IsPicked, dated, IsFirstMissing, AreBounded}
pub use Rattle.basis_book.specs.Points.{IsPoints}
pub use Rattle.basis_book.specs.Row.{IsRow}
pub use Rattle.basis_book.specs.Rows.{IsRowsFault, DaysRise, IsAfter, Falls, AreRows, StopsAt}
pub use Rattle.basis_book.specs.declared.fault.BasisFault.TheVariants.{BadBasisRow, TooManyRows, NotRising, NoMemory}
pub use Rattle.basis_book.specs.declared.row.BasisRow.{BasisRow}
unfoldable pub use Rattle.csv.proofs.OnLiterals.{csv_on_literals}
unfoldable pub use Rattle.csv.specs.Reading.{Reached, strip_bom}
pub use Rattle.csv.specs.Reading.{default_config, is_flexible, AreRecords, Ready, reader_config, reader_state, reader_trim, source_of}
unfoldable pub use Rattle.csv.specs.Records.{field_at}
pub use Rattle.csv.specs.Records.{fields_of}
pub use Rattle.indexmap.specs.IndexMap.{get_by_text, values}
