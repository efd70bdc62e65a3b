-- The names that several proofs cite, passed on from one place. Declares nothing.
pub use Rattle.std.proofs.Common.{arith, refl, ◌≡◌, ℕ, List, [], ◌∷◌, ◌∙◌, sym, ap, ◌≤◌, subst, suc, ◌+◌, length, ◌++◌, true, false, take, lit≤, pos, zero, Bool, Some, ◌-◌, ◌≢◌, ◌<◌, ℤ, cond, inl, inr, Option, Bor, length-append, map, drop, None, get_or, codes, eqb, Result, Ok, Err, ◌^◌, ◌⊎◌, negsuc, ◌+ℤ◌, ◌-ℤ◌, ◌≤ℤ◌, ◌==◌, append-nil, append_assoc}
pub use Rattle.std.proofs.lemmas.Bool.{ne_eqb, cases_order, cases_eq, cases_lt, cond-false, cond-true, eqb-false, eqb-true, false≢true}
pub use Rattle.std.proofs.lemmas.Fmt.{decimal_injective, decimal_is_IsNumeral}
pub use Rattle.std.proofs.lemmas.Int.{ints}
pub use Rattle.std.proofs.lemmas.List.{take-take, map-append, length-map}
unfoldable pub use Rattle.std.specs.Fmt.{digits}
pub use Rattle.std.specs.List.{AllZip, filter, AllByRecursion}
pub use Rattle.std.specs.Prelude.{decimal, IfOk, ⊤, replicate, IfErr}
pub use Rattle.command_csv.specs.Reads.{Reads, IsScriptLine, most_valuations, valuations_in, IsFirstBadField, is_valuation, lines_of, lanes_up_to, IsFirstScriptFault, FitsUpTo, last_lane, AreLineRows, IsClerkLine}
pub use Rattle.command_csv.specs.Rows.{rows_of}
pub use Rattle.command_csv.specs.Spelling.{row_fields, by_first, line_fields}
pub use Rattle.command_csv.specs.declared.fields.LineFields.{LineFields}
pub use Rattle.command_csv.specs.declared.kind.Kind.{Kind}
pub use Rattle.command_csv.specs.declared.row.ClerkLine.{ClerkLine}
pub use Rattle.command_csv.specs.inside.Words.{IsLineRow, IsClerk, all_lines, lanes_of, IsPosition, AreWorkers, MayStandBehind, lane_of, at_text, command_fields}
pub use Rattle.command_csv.specs.inside.Cursor.{Took, left_of, Missed, StopsIn, IsNextRow, HoldsLine}
pub use Rattle.command_csv.specs.inside.Forms.{Ends, kind_spelling, KindMayStandBehind, KindForm, form_of, Then, Amount, WorkersOn, PositionOn, RowForm, StopsAfter, Reinstatement, PolicyAndDay, YearsOn, AgeOn, PlanOn, FitsIn}
unfoldable pub use Rattle.csv.proofs.OnLiterals.{csv_on_literals}
unfoldable pub use Rattle.csv.specs.Reading.{Reached, strip_bom, records_from}
pub use Rattle.csv.specs.Reading.{default_config, is_flexible, ReadRecord, Ready, source_of, reader_config, reader_state, reader_trim, took_first, records_next, is_bom}
unfoldable pub use Rattle.life_dates.specs.Calendar.{date_of, month_of, days_before_year, days_of_months, day_number}
pub use Rattle.life_dates.specs.Calendar.{IsDay, IsTermDay, days_in_month, is_leap_year}
unfoldable pub use Rattle.life_dates.specs.DayText.{day_text}
pub use Rattle.life_dates.specs.DayText.{IsDayText}
pub use Rattle.money_core.specs.CentsText.{cents_text}
pub use Rattle.policy_types.specs.Valid.{IsId, IsCommandDay, AreYears, IsIssueAge, IsAmount, IsReinstatement, IsValid, id_of, day_of}
pub use Rattle.policy_types.specs.Words.{plan_word}
pub use Rattle.policy_types.specs.declared.command.Command.TheVariants.{Lapse, Claim}
pub use Rattle.policy_types.specs.declared.command.Plan.{Plan}
pub use Rattle.policy_types.specs.declared.command.Plan.TheVariants.{Term, Whole, Endowment, Limited}
pub use Rattle.policy_types.specs.declared.entry.At.{At}
pub use Rattle.policy_types.specs.declared.entry.At.TheVariants.{Now, Position}
pub use Rattle.policy_types.specs.declared.script.Lane.{Lane}
pub use Rattle.policy_types.specs.declared.script.Line.{Line}
pub use Rattle.policy_types.specs.declared.script.Line.TheVariants.{Post, Value, Trim}
