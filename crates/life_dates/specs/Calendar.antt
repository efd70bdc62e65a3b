-- The civil (Gregorian) calendar from the year 1 on, and the number of a day: the days since 1970-01-01.
use Rattle.std.specs.Prelude.{ℕ, ◌+◌, ◌-◌, ◌*◌, ◌/◌, ◌≤◌, nat_le, nat_lt, if◌then◌else◌, ℤ, pos, negsuc, ◌+ℤ◌, ◌-ℤ◌, ◌≤ℤ◌, unsigned_abs}
unfoldable pub use Rattle.jiff_core.specs.Calendar.{days_of_months}
pub use Rattle.jiff_core.specs.Calendar.{is_leap_year, days_in_month}
pub use Rattle.policy_types.specs.Valid.{IsCommandDay as IsDay}

-- a date of the calendar
pub record Date : Type 0 where
  pub year : ℕ
  pub month : ℕ
  pub day : ℕ

-- the date with this year, month and day
abbrev pub ymd : ℕ → ℕ → ℕ → Date
ymd y m d = record { year = y; month = m; day = d }

-- the calendar has this date
pub record IsDate (date : Date) : Type 0 where
  pub year_low : 1 ≤ date.year
  pub year_high : date.year ≤ 9999
  pub month_low : 1 ≤ date.month
  pub month_high : date.month ≤ 12
  pub day_low : 1 ≤ date.day
  pub day_high : date.day ≤ days_in_month (pos date.year) date.month

-- the days from 0001-01-01 to 1 January of the year
unfoldable pub days_before_year : ℕ → ℕ
days_before_year y = let n = y - 1 in 365 * n + (n / 4 - n / 100 + n / 400)

-- the number of the date's day: 0 for 1970-01-01, and negative before it
unfoldable pub day_number : Date → ℤ
unfolding days_before_year days_of_months
day_number date =
    pos (days_before_year date.year + days_of_months (pos date.year) (date.month - 1) + (date.day - 1)) -ℤ pos 719_162

-- the days on which a policy that begins on such a day may end: from 1900-01-01 to 2399-12-31
abbrev pub IsTermDay : ℤ → Type 0
IsTermDay day = (negsuc 25_566 ≤ℤ day) × (day ≤ℤ pos 157_053)

-- the month in which the n-th day after 1 January lies
unfoldable pub month_of : ℕ → ℕ → ℕ
month_of y n = let leap = if is_leap_year (pos y) then 1 else 0 in
    if nat_lt n 31 then 1 else if nat_lt n (59 + leap) then 2 else if nat_lt n (90 + leap) then 3
    else if nat_lt n (120 + leap) then 4 else if nat_lt n (151 + leap) then 5
    else if nat_lt n (181 + leap) then 6 else if nat_lt n (212 + leap) then 7
    else if nat_lt n (243 + leap) then 8 else if nat_lt n (273 + leap) then 9
    else if nat_lt n (304 + leap) then 10 else if nat_lt n (334 + leap) then 11 else 12

-- The date of a day: the only date whose day has this number. Its year is that of the n-th day after 0001-01-01: n
-- divided by 365 1/4, or one more.
unfoldable pub date_of : ℤ → Date
unfolding month_of days_before_year days_of_months
date_of day =
    let n = unsigned_abs (day +ℤ pos 719_162) in
    let low = 4 * n / 1461 + 1 in
    let year = if nat_le (days_before_year (low + 1)) n then low + 1 else low in
    let rest = n - days_before_year year in
    let month = month_of year rest in
    record { year = year; month = month; day = rest - days_of_months (pos year) (month - 1) + 1 }
