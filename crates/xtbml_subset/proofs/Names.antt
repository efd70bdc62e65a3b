-- The names that several proofs cite, passed on from one place. Declares nothing.
pub use Rattle.std.proofs.Common.{◌≡◌, length, ap, sym, ◌∙◌, ℕ, List, [], ◌∷◌, refl, Some, None, subst, inl, arith, ◌+◌, true, false, ◌++◌, Ok, Option, inr, Err, codes, ◌≤◌, ◌<◌, suc, Result, map, cond, Bool, zero, append_assoc, eqb, ◌-◌, ◌⊎◌, ltb, get_or, take, drop, ◌||◌, ◌≢◌, leb, not, lit≤, lit<, ◌^◌, rules}
pub use Rattle.std.proofs.lemmas.Bool.{eqb-true, true≢false, cases_Bool, ltb-true, eq-eqb, ne_eqb, lt-ltb, or_cases, and_left, not-true, leb-true, ltb-false, false_from_ne_true, or_left, or_right, le-leb, and_parts, and_cases, cond-true, cond-false}
pub use Rattle.std.proofs.lemmas.List.{append-nil, length-append, drop_all, length-map, map-append, drop_more, take_more, take_all, take-append-drop, take_at, length-take, get_or-set_same, get_or-set_other, map-set, nil_from_length}
pub use Rattle.std.proofs.lemmas.Result.{err_from_is_err_and}
pub use Rattle.std.proofs.lemmas.Slice.Eq.{bytes_eq-Decides}
pub use Rattle.std.specs.List.{AllByRecursion}
pub use Rattle.std.specs.Option.{option_map, unwrap_or, MatchOption, option_copied, option_map_or, ok_or}
pub use Rattle.std.specs.Prelude.{fold, MatchBool, IfOk, IfErr, ⊤, MatchResult, slice_get, is_some}
pub use Rattle.std.specs.Str.{bytes_eq}
pub use Rattle.decimal_text.specs.Rate.{IsRate}
pub use Rattle.rate_table.specs.Rates.{Rates, ONE, AreRates, last_age_of}
pub use Rattle.select_rates.specs.Select.{Selected, IsSelectPeriod, AreSelected}
pub use Rattle.select_rates.specs.declared.any.AnyTable.{AnyTable}
pub use Rattle.xtbml_subset.specs.Answers.{IsTableAnswer, Unless, IsLongestNested, IsJudged, Gives, IsNoDocument, SpellsTable}
pub use Rattle.xtbml_subset.proofs.Words.{first, first_age, first_issue_age, Further, rated, IsAged, timed, IsTimed, IsIssuedAt, without_gap, as_select}
pub use Rattle.xtbml_subset.specs.AnyChecks.{IsAnyTable, aggregated, IsAnyAnswer, GivesAny, SaysSelect, SpellsAny}
unfoldable pub use Rattle.xtbml_subset.specs.Checks.{age_of, factor_of}
pub use Rattle.xtbml_subset.specs.Checks.{RateElement, ReadsRate, ReadsRated, IsScale, Asks, in_first, InTurn, ReadsAll, ReadsRates, IsUnscaled, short_number, first_child, IsAggregateTable, IsTable}
pub use Rattle.xtbml_subset.specs.Classes.{is_in, after, InClass, front, starts_name}
pub use Rattle.xtbml_subset.specs.Documents.{Node, IsDocument, node_asks, Content, nothing, letter, remark, element, IsElement, IsContent, named_in, IsMisc, text_of}
pub use Rattle.xtbml_subset.specs.Pieces.{Piece, byte, start, whole, comment, declaration, finish, Tag, AreSpelled, IsPiece, IsMark, IsWhiteByte, IsTagName, IsSpace, IsAttribute, EndsByDashes, IsTag, IsEndTag, IsDeclaration}
unfoldable pub use Rattle.xtbml_subset.specs.SelectChecks.{durations_of, issue_axes}
unfoldable pub use Rattle.xtbml_subset.specs.inside.Steps.{ultimate_of}
pub use Rattle.xtbml_subset.specs.inside.Steps.{is_due, is_blank, ReadsRow, ReadsIssue}
pub use Rattle.xtbml_subset.proofs.Words.{IsQuoted}
pub use Rattle.xtbml_subset.specs.SelectChecks.{Issue, IsSelectTable, issue_age_of, filled, ReadsDuration, ReadsUltimate, ReadsPeriod, first_gap, IsJoinedBy}
unfoldable pub use Rattle.xtbml_subset.specs.inside.Parts.{path, within, rates_of}
pub use Rattle.xtbml_subset.specs.inside.Parts.{IsTableBy, Parts, parts_of, ◌>=>◌, aggregate_parts, rooted, rates_in, SelectParts, select_parts, IsSelectBy, any_parts_of, AnyParts, parts_by_axes, aggregate, selected, IsAnyBy}
unfoldable pub use Rattle.xtbml_subset.specs.Texts.{trimmed}
pub use Rattle.xtbml_subset.specs.Texts.{◌>>=◌, value_of}
pub use Rattle.xtbml_subset.specs.declared.class.Class.{Class}
pub use Rattle.xtbml_subset.specs.declared.class.Class.TheVariants.{White, Text, Name, DoubleQuoted, SingleQuoted, Declared}
pub use Rattle.xtbml_subset.specs.declared.fault.TableFault.{TableFault}
pub use Rattle.xtbml_subset.specs.declared.fault.TableFault.TheVariants.{Bad, NoMemory}
pub use Rattle.xtbml_subset.specs.declared.fault.TableKind.TheVariants.{NotDocument, Select, NoTable, BadDuration, UltimateGap, NoUltimate, Scaled, BadAge, AgeGap, BadRate}
pub use Rattle.xtbml_subset.specs.declared.found.Element.{Element}
pub use Rattle.xtbml_subset.specs.declared.period.Attained.{Attained}
pub use Rattle.xtbml_subset.specs.declared.state.Phase.{Phase}
pub use Rattle.xtbml_subset.specs.declared.state.Phase.TheVariants.{Opening, Prolog, Epilog}
unfoldable pub use Rattle.xtbml_subset.specs.inside.Elements.{elements_from, text_at}
pub use Rattle.xtbml_subset.specs.inside.Elements.{Found, elements_at, siblings_at, children_at, on, found, closed, is_hit, step_of, depth_in, is_wanted, Step, depth_after, found_by}
pub use Rattle.xtbml_subset.specs.inside.Issues.{issues_from}
pub use Rattle.xtbml_subset.specs.inside.Machine.{State, outside, after_piece, past, Steps, after_names, IsWalked}
unfoldable pub use Rattle.xtbml_subset.specs.inside.Reading.{piece_at, attribute_at, spaces_at, name_at, attributes_from, closed_at, quoted_at, comment_at, declaration_at, end_tag_at, tag_at, marked_at}
pub use Rattle.xtbml_subset.specs.inside.Reading.{Attribute, attributes_at, comment_end_at, byte_at, with_attribute, first_of, dashes_at, start_at, whole_at, tag_end_at, from_byte}
pub use Rattle.xtbml_subset.specs.inside.Rows.{found_asks, row_of, rows_from}
pub use Rattle.xtbml_subset.specs.inside.Steps.{without_end, has_filled, follows, is_duration, leaves_gap}
pub use Rattle.xtbml_subset.specs.inside.Searches.{IsPath, ElementPath, hit, IsFirstIn, IsFound, Stands, Passing, IsFirstUnder, Sought, seeking, missed, sought_at, opens, sought_under, tallied, tally_under, no_tally, no_path, path_after, StandsUnder, TalliesUnder, IsCountUnder, by_step, tally_at, Tallies}
pub use Rattle.xtbml_subset.specs.inside.Views.{found_of, path_of, bytes_left, sought_of}
unfoldable pub use Rattle.xtbml_subset.specs.inside.Walk.{fault_at, walk_from}
pub use Rattle.xtbml_subset.specs.inside.Walk.{walk_at, after_mark, fault_place, state_of, names_of}
pub use Rattle.xtbml_subset.proofs.Parts.{Spell, AreAttributes, IsDocumentOpening, node_row}
