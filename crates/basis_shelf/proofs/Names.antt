-- The names that several proofs cite, passed on from one place. Declares nothing.
pub use Rattle.std.proofs.Common.{◌≡◌, List, ℕ, refl, inl, inr, Option, sym, subst, Err, ◌⊎◌, ◌+◌, [], ◌∷◌, Some, None, Ok, length, All, Result, ◌∙◌, ◌<◌, ap, arith, Bool, true, false, ◌≤◌, codes, ◌++◌, cond, take, IsSome, IsSomeAnd, append_assoc, zero, suc, ℤ, pos, drop, ◌≢◌, ◌-◌, negsuc, ◌+ℤ◌, ◌-ℤ◌, ◌≤ℤ◌, ◌<ℤ◌, ◌*◌, map, get_or, IfSome, unwrap_or, IfOk, IfErr, string_bytes, lit≤}
pub use Rattle.std.proofs.lemmas.Bool.{cases_lt, cases_eq, cases_Bool}
pub use Rattle.std.proofs.lemmas.List.{append-nil, take-append-drop, drop_more, length-take-le, take_all, length-map, get_or-map}
pub use Rattle.std.proofs.lemmas.List.Elements.{All-nil, All-head, All-tail, All-weaker, All-push, All-cons, All-more, All-append}
pub use Rattle.std.specs.List.{AllZip, prefix_len}
pub use Rattle.std.specs.Prelude.{Contains, MatchBool, slice_index}
pub use Rattle.std.specs.Option.{ok_or}
pub use Rattle.std.specs.Str.{bytes_eq}
pub use Rattle.basis_book.specs.Dated.{Dated, dated, IsFirstMissing}
pub use Rattle.basis_book.specs.File.{IsBasisFile, IsFileFault, HasRows, IsBookAnswer, GivesBook}
pub use Rattle.basis_book.specs.declared.row.BasisRow.{BasisRow, BasisRow as ARow}
pub use Rattle.basis_shelf.specs.Answers.{IsBasisAnswer, IfBad, GivesBasis}
pub use Rattle.basis_shelf.specs.Bases.{HasTable, AreRowsNamed, IsBasis, IsOfBasis, IsTableNamed}
pub use Rattle.basis_shelf.specs.Files.{IsAbsent, IsTooLong, IsFile}
pub use Rattle.basis_shelf.specs.FirstBad.{IsBadTable, IsFirstBadRow, IsFirstBadFile, IsBadBook}
pub use Rattle.basis_shelf.specs.declared.fault.BadBasis.{BadBasis}
pub use Rattle.basis_shelf.specs.declared.fault.BasisWord.{BasisWord}
pub use Rattle.basis_shelf.specs.inside.Parts.{AreNoRows, IsNoTable, IsEntry, word_of, IsBadTableFile, AreTables, IsFaultOfAny, TellsTable}
pub use Rattle.indexmap.specs.IndexMap.{get_by_text}
pub use Rattle.outside_io.specs.Shelves.{AsksOnly}
pub use Rattle.rate_table.specs.Rates.{Rates}
pub use Rattle.select_rates.specs.declared.any.AnyTable.{AnyTable}
pub use Rattle.select_rates.specs.declared.any.AnyTable.TheVariants.{Aggregate, Select}
pub use Rattle.xtbml_subset.proofs.AnyFinal.{any_fault_due, any_fault_only, any_due_by}
pub use Rattle.xtbml_subset.proofs.ByParts.{by_parts, by_root, table_by_root}
pub use Rattle.xtbml_subset.proofs.Sounding.{whole_document}
pub use Rattle.xtbml_subset.specs.Answers.{Unless, SpellsTable, IsTableAnswer}
pub use Rattle.xtbml_subset.proofs.Words.{first, first_age, first_issue_age, rated, IsAged, timed, IsTimed, IsIssuedAt, without_gap}
pub use Rattle.xtbml_subset.specs.AnyChecks.{IsAnyAnswer, SpellsAny}
unfoldable pub use Rattle.xtbml_subset.specs.Checks.{age_of}
pub use Rattle.xtbml_subset.specs.inside.Steps.{is_due, ReadsRow}
pub use Rattle.xtbml_subset.specs.Checks.{RateElement, InTurn, ReadsAll, short_number, ReadsRate, ReadsRated, ReadsRates, IsScale, IsUnscaled}
pub use Rattle.xtbml_subset.specs.Documents.{Node, node_asks, IsDocument}
pub use Rattle.xtbml_subset.specs.declared.fault.TableFault.{TableFault}
pub use Rattle.xtbml_subset.specs.declared.fault.TableFault.TheVariants.{Bad, NoMemory}
pub use Rattle.xtbml_subset.specs.declared.fault.TableKind.{TableKind}
pub use Rattle.xtbml_subset.specs.declared.fault.TableKind.TheVariants.{NotDocument, BadAge, AgeGap, BadRate, BadDuration, NoUltimate, UltimateGap, NoTable, Scaled}
pub use Rattle.xtbml_subset.specs.inside.Steps.{is_duration}
unfoldable pub use Rattle.xtbml_subset.specs.inside.Walk.{fault_at}
unfoldable pub use Rattle.xtbml_subset.specs.inside.Parts.{path, rates_of, within}
pub use Rattle.xtbml_subset.specs.inside.Parts.{aggregate_parts, ◌>=>◌, rooted, rates_in, Parts, IsTableBy, parts_of, SelectParts, IsSelectBy, any_parts_of, AnyParts, aggregate, selected, parts_by_axes, IsAnyBy}
pub use Rattle.xtbml_subset.specs.Texts.{◌>>=◌}
