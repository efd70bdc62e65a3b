-- The names that several proofs cite, passed on from one place. Declares nothing.
pub use Rattle.std.proofs.Common.{arith, ◌≡◌, ℕ, ◌+◌, ◌<◌, length, List, ap, ◌++◌, [], take, ◌*◌, ◌≤◌, refl, ◌^◌, inl, inr, drop, sym, ◌∙◌, ◌∷◌, subst, ◌-◌, min, suc, Bool, true, false, length-append, append_assoc, Result, Ok, Err, IfOk, cond, zero, get_or, ◌⊎◌, Option, Some, None, IfNone, append-nil, ◌↔◌, IsTrue, codes, lit≤, lit<}
pub use Rattle.std.proofs.lemmas.Bool.{cases_lt, cases_eq}
pub use Rattle.std.proofs.lemmas.Bool.Decides.{nat_tests}
pub use Rattle.std.proofs.lemmas.List.{take_all, drop_all, take_more, length_push, take-append-drop, length-drop, take-append-le, drop-append-le}
pub use Rattle.std.specs.Char.{is_ascii_digit, IsAsciiDigit}
pub use Rattle.std.specs.Char.{digit_value}
pub use Rattle.std.specs.Str.Parse.{digits_value_after}
pub use Rattle.decimal_text.proofs.Words.{point, plus_sign, minus, AreDigits, number, IsPlain, numerator, denominator}
pub use Rattle.decimal_text.specs.Decimal.{Decimal, Spells, IsSigned, IsExponent}
pub use Rattle.decimal_text.specs.Rate.{IsInUnits, IsAboveOne, IsTooFine, IsRate, Answers}
