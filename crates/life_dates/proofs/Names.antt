-- The names that several proofs cite, passed on from one place. Declares nothing.
pub use Rattle.std.proofs.Common.{◌≡◌, arith, pos, ◌∙◌, ap, to_z-of_z, ◌+◌, w32, ◌-◌, ◌≤◌, refl, ◌≤ℤ◌, to_z, of_z, ℕ, ◌<◌, inl, inr, ℤ, ◌*◌, negsuc, suc, ◌<ℤ◌, [], ◌∷◌, get_or, sym, ◌+ℤ◌, ◌↔◌, min, zero, cond, lit<, nat_lt, true, false, rules, ◌-ℤ◌, unsigned_abs, ◌/◌, ◌%◌, List, length, Option, Some, None, IfSome, FitsSigned, w64}
pub use Rattle.std.proofs.lemmas.Bool.{cases_lt}
pub use Rattle.std.proofs.lemmas.Int.{ints, clamps, by_lt_z}
pub use Rattle.std.specs.Int.{int_min, IsInRange}
pub use Rattle.jiff_core.proofs.CalendarLemmas.{days_in_month_bounds, days_of_months_table, days_of_months_more, days_of_months_mono, days_of_months_all, day_count-day_of_year, days_from_civil-day_count}
pub use Rattle.jiff_core.proofs.SignedLemmas.{signed_arith, one_part}
pub use Rattle.jiff_core.specs.Date.{epoch_day, IsYmd}
pub use Rattle.jiff_core.specs.declared.civil.date.Date.{Date as Plain}
unfoldable pub use Rattle.life_dates.specs.Anniversary.{anniversary_of}
pub use Rattle.life_dates.specs.Anniversary.{IsCompleted}
pub use Rattle.life_dates.proofs.Parts.{years_later}
unfoldable pub use Rattle.life_dates.specs.Calendar.{date_of, day_number, days_before_year, days_of_months, month_of}
unfoldable pub use Rattle.life_dates.proofs.Parts.{days_before, year_of, date_at}
pub use Rattle.life_dates.specs.Calendar.{ymd, Date, IsDate, IsDay, IsTermDay}
