-- The text of a day: YYYY-MM-DD.
use Rattle.std.specs.Prelude.{◌≡◌, ℕ, ◌+◌, ◌/◌, ◌%◌, List, [], ◌∷◌, ◌++◌, ℤ}
use Rattle.life_dates.specs.Calendar.{Date, IsDate, day_number, date_of}

-- the date as YYYY-MM-DD, where 45 is the hyphen
abbrev pub date_text : Date → List ℕ
date_text date =
    two_digits (date.year / 100) ++ two_digits (date.year % 100)
    ++ (45 ∷ two_digits date.month) ++ (45 ∷ two_digits date.day)
  where
    two_digits : ℕ → List ℕ
    two_digits n = (48 + n / 10) ∷ (48 + n % 10) ∷ []

-- the text of a day's date
unfoldable pub day_text : ℤ → List ℕ
unfolding date_of
day_text day = date_text (date_of day)

-- the text is that of a date of the calendar, and the day is that date's
pub record IsDayText (text : List ℕ) (day : ℤ) : Type 0 where
  pub date : Date
  pub is_date : IsDate date
  pub is_text : text ≡ date_text date
  pub is_number : day_number date ≡ day
