-- The anniversaries of a day.
use Rattle.std.specs.Prelude.{ℕ, ◌+◌, ◌≤◌, min, ℤ, pos, ◌≤ℤ◌}
use Rattle.jiff_core.specs.Calendar.{days_in_month}
use Rattle.life_dates.specs.Calendar.{day_number, date_of}

-- anniversary t of a day, for policies issued on it: the day's date with the year raised by t; in a common year 29
-- February is read as the 28th
unfoldable pub anniversary_of : ℤ → ℕ → ℤ
unfolding day_number date_of
anniversary_of issued t =
    let date = date_of issued in
    let year = date.year + t in
    day_number (record date { year = year; day = min date.day (days_in_month (pos year) date.month) })

-- t is the greatest number of years up to 131 whose anniversary isn't after the day
pub record IsCompleted (issued on : ℤ) (t : ℕ) : Type 0 where
  pub most : t ≤ 131
  pub reached : anniversary_of issued t ≤ℤ on
  pub greatest : (u : ℕ) → u ≤ 131 → anniversary_of issued u ≤ℤ on → u ≤ t
