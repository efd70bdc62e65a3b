-- The names that several proofs cite, passed on from one place. Declares nothing.
pub use Rattle.std.proofs.Common.{◌≡◌, arith, sym, refl, get_or, ℕ, ◌+◌, ◌-◌, ◌^◌, ◌<◌, List, length, take, ◌∙◌, pos, negsuc, ◌*◌, ◌/◌, ap, ◌∷◌, ℤ, false, int_le, unsigned_abs, true≢false, suc, ◌%◌, drop, length-append, take-append-drop, inl, inr, subst, eq-zero-or-pos, codes, ◌≤◌, rules, to_z-of_z}
pub use Rattle.std.proofs.lemmas.Fmt.{decimal_is_IsNumeral_wide, decimal_is_IsNumeral, decimal_digit, first_decimal, decimal-digits_value, length-decimal-le}
pub use Rattle.std.proofs.lemmas.Str.Parse.{digit_at, IsNumeralModel, numerals_by_value, tells_digits, digits_value-take-le}
unfoldable pub use Rattle.std.specs.Fmt.{digits}
pub use Rattle.std.specs.Fmt.{decimal}
pub use Rattle.std.specs.Str.Parse.{AllDigits, digits_value}
