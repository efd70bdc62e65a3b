-- The texts of days.
use Rattle.life_dates.proofs.Names.{◌≡◌, ℕ, ◌+◌, ◌-◌, ◌*◌, ◌/◌, ◌%◌, ◌<◌, ◌≤◌, inl, inr, List, [], ◌∷◌, length, get_or, Option, Some, None, IfSome, refl, sym, ap, ◌∙◌, arith, ℤ, pos, negsuc, ◌≤ℤ◌, IsInRange, cases_lt, Plain, epoch_day, signed_arith, days_in_month_bounds, Date, ymd, IsDate, IsDay, IsTermDay, day_number, date_of}
use Rattle.std.specs.Option.{SomeIff}
use Rattle.jiff_core.proofs.DateLemmas.{epoch_day-lt}
use Rattle.life_dates.proofs.Parts.{two_digits}
use Rattle.life_dates.specs.DayText.{date_text, day_text, IsDayText}
use Rattle.life_dates.proofs.CalendarLemmas.{plain, plain_is, date_of_is, days_from_civil-day_number}

first_date : IsDate (ymd 1900 1 1)
first_date = record { year_low = omega arith; year_high = omega arith; month_low = omega arith; month_high = omega arith; day_low = omega arith; day_high = omega arith }

first_day : day_number (ymd 1900 1 1) ≡ negsuc 25_566
unfolding day_number
first_day = refl

-- no day of the range is in the year 0
after_zero : (x : Plain) → negsuc 25_566 ≤ℤ epoch_day x → (y : ℕ) → x.year ≡ pos y → 1 ≤ y
unfolding plain
after_zero x h y e = elim (cases_lt 0 y) [
  | inl lt ↦ omega arith
  | inr none ↦ absurd (omega (arith, signed_arith, epoch_day-lt x (plain (ymd 1900 1 1) first_date) (inl (omega (arith, signed_arith))), days_from_civil-day_number (ymd 1900 1 1) first_date, first_day))
]

-- a date of `jiff` in the range is one of the calendar
pub from_plain : (x : Plain) (y m d : ℕ) → x.year ≡ pos y → x.month ≡ m → x.day ≡ d → y ≤ 9999 → negsuc 25_566 ≤ℤ epoch_day x → IsDate (ymd y m d) × (day_number (ymd y m d) ≡ epoch_day x)
from_plain x y m d year month day high low =
    let is : IsDate (ymd y m d) = record { year_low = after_zero x low y year; year_high = high; month_low = rw (← month) x.month_in.0; month_high = rw (← month) x.month_in.1; day_low = rw (← day) x.day_in.0; day_high = rw (← day, ← month) (rw year at x.day_in.1) } in
    (is, rw (year, month, day) (sym (days_from_civil-day_number (ymd y m d) is)))

-- and its number is that of the calendar's
pub number_is : (x : Plain) (y m d : ℕ) → x.year ≡ pos y → x.month ≡ m → x.day ≡ d → IsDate (ymd y m d) → day_number (ymd y m d) ≡ epoch_day x
number_is x y m d year month day is = rw (year, month, day) (sym (days_from_civil-day_number (ymd y m d) is))

-- each day has a text
pub IsDayText-day_text : (day : ℤ) → IsTermDay day → IsDayText (day_text day) day
unfolding day_text
IsDayText-day_text day h =
    let here = date_of_is day h in
    record { date = date_of day; is_date = here.0; is_text = refl; is_number = here.1 }

-- and only one
pub day_text-only : (text : List ℕ) (day : ℤ) → IsTermDay day → IsDayText text day → text ≡ day_text day
unfolding day_text plain
day_text-only text day h t =
    let same = plain_is (plain t.date t.is_date) day h (days_from_civil-day_number t.date t.is_date ∙ t.is_number) in
    let year : t.date.year ≡ (date_of day).year = omega (arith, signed_arith, same.0) in
    t.is_text ∙ rw (year, same.1, same.2)

-- a text of ten bytes is the list of them
ten_bytes : (s : List ℕ) → length s ≡ 10 → s ≡ get_or s 0 0 ∷ get_or s 1 0 ∷ get_or s 2 0 ∷ get_or s 3 0 ∷ get_or s 4 0 ∷ get_or s 5 0 ∷ get_or s 6 0 ∷ get_or s 7 0 ∷ get_or s 8 0 ∷ get_or s 9 0 ∷ []
ten_bytes (a ∷ b ∷ c ∷ d ∷ e ∷ f ∷ g ∷ h ∷ i ∷ j ∷ []) e10 = refl
ten_bytes (a ∷ b ∷ c ∷ d ∷ e ∷ f ∷ g ∷ h ∷ i ∷ j ∷ k ∷ s) e10 = absurd (omega arith)
ten_bytes (a ∷ b ∷ c ∷ d ∷ e ∷ f ∷ g ∷ h ∷ i ∷ []) e10 = absurd (omega arith)
ten_bytes (a ∷ b ∷ c ∷ d ∷ e ∷ f ∷ g ∷ h ∷ []) e10 = absurd (omega arith)
ten_bytes (a ∷ b ∷ c ∷ d ∷ e ∷ f ∷ g ∷ []) e10 = absurd (omega arith)
ten_bytes (a ∷ b ∷ c ∷ d ∷ e ∷ f ∷ []) e10 = absurd (omega arith)
ten_bytes (a ∷ b ∷ c ∷ d ∷ e ∷ []) e10 = absurd (omega arith)
ten_bytes (a ∷ b ∷ c ∷ d ∷ []) e10 = absurd (omega arith)
ten_bytes (a ∷ b ∷ c ∷ []) e10 = absurd (omega arith)
ten_bytes (a ∷ b ∷ []) e10 = absurd (omega arith)
ten_bytes (a ∷ []) e10 = absurd (omega arith)
ten_bytes [] e10 = absurd (omega arith)

-- two bytes are the digits of a number below 100
abbrev pub AreDigits : ℕ → ℕ → ℕ → Type 0
AreDigits a b n = (IsInRange 48 57 a × IsInRange 48 57 b) × (n ≡ 10 * (a - 48) + (b - 48))

-- the text of ten bytes with a century, a year, a month and a day at their places
pub read_text : (s : List ℕ) (c y m d : ℕ) → length s ≡ 10 → get_or s 4 0 ≡ 45 → get_or s 7 0 ≡ 45 → AreDigits (get_or s 0 0) (get_or s 1 0) c → AreDigits (get_or s 2 0) (get_or s 3 0) y → AreDigits (get_or s 5 0) (get_or s 6 0) m → AreDigits (get_or s 8 0) (get_or s 9 0) d → s ≡ date_text (ymd (c * 100 + y) m d)
read_text s c y m d len first second century year month day =
    let a : 48 + (c * 100 + y) / 100 / 10 ≡ get_or s 0 0 = omega (arith, century.0.0, century.0.1, century.1, year.0.0, year.0.1, year.1) in
    let b : 48 + (c * 100 + y) / 100 % 10 ≡ get_or s 1 0 = omega (arith, century.0.0, century.0.1, century.1, year.0.0, year.0.1, year.1) in
    let e : 48 + (c * 100 + y) % 100 / 10 ≡ get_or s 2 0 = omega (arith, year.0.0, year.0.1, year.1) in
    let f : 48 + (c * 100 + y) % 100 % 10 ≡ get_or s 3 0 = omega (arith, year.0.0, year.0.1, year.1) in
    let g : 48 + m / 10 ≡ get_or s 5 0 = omega (arith, month.0.0, month.0.1, month.1) in
    let h : 48 + m % 10 ≡ get_or s 6 0 = omega (arith, month.0.0, month.0.1, month.1) in
    let i : 48 + d / 10 ≡ get_or s 8 0 = omega (arith, day.0.0, day.0.1, day.1) in
    let j : 48 + d % 10 ≡ get_or s 9 0 = omega (arith, day.0.0, day.0.1, day.1) in
    rw (a, b, e, f, g, h, i, j) (rw (first, second) at (ten_bytes s len))

same_digits : (m n : ℕ) → m < 100 → n < 100 → two_digits m ≡ two_digits n → m ≡ n
same_digits m n h k e =
    let tens : 48 + m / 10 ≡ 48 + n / 10 = cc in
    let ones : 48 + m % 10 ≡ 48 + n % 10 = cc in
    omega arith

same_date : (a b : Date) → a.year ≡ b.year → a.month ≡ b.month → a.day ≡ b.day → a ≡ b
same_date a b y m d =
    let e : ymd a.year a.month a.day ≡ ymd b.year b.month b.day = rw (y, m, d) in e

-- a text is the text of one date
date_text-injective : (a b : Date) → a.year ≤ 9999 → a.month < 100 → a.day < 100 → IsDate b → date_text a ≡ date_text b → a ≡ b
date_text-injective a b year month day h e =
    let long = days_in_month_bounds (pos b.year) b.month in
    let c : a.year / 100 ≡ b.year / 100 = same_digits _ _ (omega arith) (omega (arith, h.year_high)) cc in
    let y : a.year % 100 ≡ b.year % 100 = same_digits _ _ (omega arith) (omega arith) cc in
    let m : a.month ≡ b.month = same_digits _ _ month (omega (arith, h.month_high)) cc in
    let d : a.day ≡ b.day = same_digits _ _ day (omega (arith, h.day_high)) cc in
    same_date a b (omega arith) m d

-- what is read of the text of a date
pub read_some : (r : Option ℤ) (date : Date) (text : List ℕ) → SomeIff r (IsDate date × IsDay (day_number date)) (day_number date) → text ≡ date_text date → IfSome r (λ day. IsDay day × IsDayText text day)
read_some None date text h e = tt
read_some (Some day) date text h e = (rw h.1 h.0.1, record { date = date; is_date = h.0.0; is_text = e; is_number = sym h.1 })

some_is : {T P : Type 0} (r : Option T) (v : T) → SomeIff r P v → P → r ≡ Some v
some_is None v h p = absurd (h p)
some_is (Some x) v h p = ap Some h.1

pub read_exact : (r : Option ℤ) (date : Date) (text : List ℕ) → date.year ≤ 9999 → date.month < 100 → date.day < 100 → SomeIff r (IsDate date × IsDay (day_number date)) (day_number date) → text ≡ date_text date → (day : ℤ) → IsDay day → IsDayText text day → r ≡ Some day
read_exact r date text year month small h e day range t =
    let same = date_text-injective date t.date year month small t.is_date (sym e ∙ t.is_text) in
    let number : day_number date ≡ day = ap day_number same ∙ t.is_number in
    let is : IsDate date = rw same t.is_date in
    some_is r (day_number date) h (is, rw number range) ∙ ap Some number

-- a date of the range is the date of its day
pub date_of-day_number : (date : Date) → IsDate date → IsTermDay (day_number date) → date_of (day_number date) ≡ date
unfolding plain
date_of-day_number date h range =
    let same = plain_is (plain date h) (day_number date) range (days_from_civil-day_number date h) in
    sym (same_date date (date_of (day_number date)) (omega (arith, signed_arith, same.0)) same.1 same.2)
