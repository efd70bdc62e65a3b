-- The names that several proofs cite, passed on from one place. Declares nothing.
pub use Rattle.std.proofs.Common.{ap, sym, [], ◌∙◌, ◌≡◌, List, ◌∷◌, refl, arith, ℕ, subst, None, map, false, Some, codes, decimal, Option, unwrap_or, inl, inr, true, ◌≤◌, string_bytes, ap₂, ℤ, Bool, bytes_eq, length, true≢false, ◌<◌, cond, ◌++◌, String, Result, Err, ◌⊎◌, pos, lit≤, get_or, ◌-◌, Ok, IsErrAnd, ◌^◌, zero, suc, ◌+◌, ◌||◌, ◌&&◌, fold, not, is_some, drop, take, lit<, IfOk, IfErr, IfSome, ok_or, ◌-ℤ◌, negsuc, Global, ◌==◌, append-nil, append_assoc, find, option_map, nat_lt, ◌≢◌, eq-zero-or-pos}
pub use Rattle.std.proofs.lemmas.Bool.{cases_Bool, cases_eq, cases_lt, false_from_ne_true, or_parts}
pub use Rattle.std.proofs.lemmas.Fmt.{decimal_injective, decimal_digit, decimal_nonempty, first_decimal}
pub use Rattle.std.proofs.lemmas.Int.{ints}
pub use Rattle.std.specs.Prelude.{⊤, All, slice_index}
pub use Rattle.basis_book.specs.Name.{IsName, IsNameByte}
pub use Rattle.clap.proofs.WalkLemmas.{raw_values-rows, list_any-map, both}
unfoldable pub use Rattle.clap.specs.Faults.{walk_fault, defaults_fault}
pub use Rattle.clap.specs.Faults.{fault_of, settle_fault, use_fault, built_fault, check_fault, entered_fault, given_default_fault, turn_fault, word_fault, other_fault, step_fault, flag_word_fault, bundle_fault, long_fault, is_free_app}
pub use Rattle.clap.specs.Kinds.{Kinds, or_else, check_kinds}
pub use Rattle.clap.specs.Lexer.{has_byte, long_of, name_and_value, short_of}
pub use Rattle.clap.specs.Simple.{filled, filled_from, with_index, Shape, new_shape}
pub use Rattle.clap.specs.Words.{found_of, Text, with_rule, is_simple_and_free, app_of, built, is_simple}
pub use Rattle.clap.specs.declared.error.kind.ErrorKind.TheVariants.{InvalidValue, TooManyValues, UnknownArgument}
pub use Rattle.memory_requests.specs.Words.{TakesWords}
pub use Rattle.std.specs.Int.{IsInRange}
pub use Rattle.life_args.specs.inside.Short.{spelled, value_under}
pub use Rattle.life_args.specs.Pieces.{WordPiece, bare, flag, HasOnly, AtMostOne, apart, joined, IsAmong, bare_values, option_values, apart as apart_piece, joined as joined_piece}
pub use Rattle.life_args.specs.Values.{IsBasisOr, IsMeasureBy, AreWorkersOr, IsPositionOr, IsPolicyOr}
pub use Rattle.life_args.specs.Words.{AreWords, AskFor, AskForNothing, IsFaultOf, NameAMode, mode_names}
pub use Rattle.life_args.specs.declared.fault.WordsFault.{WordsFault}
pub use Rattle.life_args.specs.declared.mode.Mode.{Mode}
pub use Rattle.life_args.specs.declared.verb.Verb.{Verb}
pub use Rattle.life_args.specs.declared.verb.Verb.TheVariants.{Run, Value, Project, State, Generate, Checkpoint, Load}
pub use Rattle.life_args.specs.inside.Lines.{alone_id, line_app, Spelling, values_of, OptionNames, has_odd, ArePlain, IsPlainText, is_odd, GivesAsked, values_named, IsLine, ReadsLine, alone_rule, flag_rule, option_rule}
pub use Rattle.life_args.specs.inside.Verbs.{IsDayValue, verb_of, AsksFor, SaysMode, options_of, texts_of, verb_word, AreDrawn, IsLone, AreDayAndYears, AreDraws, JustOne, IsNumberValue}
unfoldable pub use Rattle.life_dates.specs.Calendar.{day_number, date_of, month_of, days_before_year, days_of_months}
pub use Rattle.life_dates.specs.Calendar.{IsDay, days_in_month, is_leap_year, IsTermDay}
unfoldable pub use Rattle.life_dates.specs.DayText.{day_text}
pub use Rattle.life_dates.specs.DayText.{IsDayText}
pub use Rattle.policy_types.specs.declared.entry.At.{At}
pub use Rattle.policy_types.specs.declared.entry.At.TheVariants.{Now, Position}
pub use Rattle.policy_value.specs.declared.worth.Measure.{Measure}
