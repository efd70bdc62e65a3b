-- Parts of the definitions, by names that the proofs cite: each stands in a definition.
use Rattle.std.proofs.Common.{ℕ, ◌+◌, ◌-◌, ◌*◌, ◌/◌, ◌%◌, min, nat_le, if◌then◌else◌, List, [], ◌∷◌, pos}
use Rattle.jiff_core.specs.Calendar.{days_in_month}
unfoldable use Rattle.life_dates.specs.Calendar.{days_before_year, days_of_months, month_of}
use Rattle.life_dates.specs.Calendar.{Date}

-- the days from 0001-01-01 to the date
unfoldable pub days_before : Date → ℕ
days_before date =
    days_before_year date.year + days_of_months (pos date.year) (date.month - 1) + (date.day - 1)

-- the year of the n-th day after 0001-01-01
unfoldable pub year_of : ℕ → ℕ
unfolding days_before_year
year_of n = let low = 4 * n / 1461 + 1 in
    if nat_le (days_before_year (low + 1)) n then low + 1 else low

-- the date of the n-th day after 0001-01-01
unfoldable pub date_at : ℕ → Date
unfolding year_of month_of days_before_year days_of_months
date_at n =
    let year = year_of n in
    let rest = n - days_before_year year in
    let month = month_of year rest in
    record { year = year; month = month; day = rest - days_of_months (pos year) (month - 1) + 1 }

-- the date with its year raised by t
abbrev pub years_later : Date → ℕ → Date
years_later date t = let year = date.year + t in
    record date { year = year; day = min date.day (days_in_month (pos year) date.month) }

abbrev pub two_digits : ℕ → List ℕ
two_digits n = (48 + n / 10) ∷ (48 + n % 10) ∷ []
