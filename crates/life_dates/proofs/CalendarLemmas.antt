-- The date of each day, and `jiff`'s day count.
use Rattle.life_dates.proofs.Names.{◌≡◌, ℕ, zero, suc, ◌+◌, ◌-◌, ◌*◌, ◌<◌, ◌≤◌, cond, [], ◌∷◌, get_or, lit<, nat_lt, true, false, refl, sym, ◌∙◌, inl, inr, arith, rules, ℤ, pos, ◌+ℤ◌, ◌-ℤ◌, unsigned_abs, cases_lt, Plain, epoch_day, IsYmd, signed_arith, one_part, days_of_months_table, days_of_months_more, days_of_months_mono, days_of_months_all, day_count-day_of_year, days_from_civil-day_count, Date, ymd, IsDate, IsDay, IsTermDay, days_before_year, days_of_months, days_before, day_number, year_of, month_of, date_at, date_of}
use Rattle.std.proofs.lemmas.Bool.Decides.{nat_tests}
use Rattle.jiff_core.specs.Calendar as jiff
use Rattle.jiff_core.proofs.MarchLemmas.{leap_day, days_in_year-leap_day, day_count-early}
use Rattle.jiff_core.proofs.DateLemmas.{epoch_day_injective}

pub day_number-days_before : (d : Date) → day_number d ≡ pos (days_before d) -ℤ pos 719_162
unfolding day_number days_before
day_number-days_before d = refl

pub days_before_year-suc : (y : ℕ) → 1 ≤ y → days_before_year (suc y) ≡ days_before_year y + 365 + leap_day (pos y)
unfolding days_before_year
days_before_year-suc zero h = absurd (omega arith)
days_before_year-suc (suc n) h = grind (arith, nat_tests)

days_before_year-add : (y k : ℕ) → 1 ≤ y → days_before_year y + 365 * k ≤ days_before_year (k + y)
days_before_year-add y zero h = let same : 0 + y ≡ y = omega arith in rw same (omega arith)
days_before_year-add y (suc k) h =
    let next : suc k + y ≡ suc (k + y) = omega arith in
    rw next (omega (arith, days_before_year-add y k h, days_before_year-suc (k + y) (omega arith)))

-- each year has 365 days at least
pub days_before_year_mono : (y later : ℕ) → 1 ≤ y → y ≤ later → days_before_year y + 365 * (later - y) ≤ days_before_year later
days_before_year_mono y later low h =
    let same : later - y + y ≡ later = omega arith in
    rw same at (days_before_year-add y (later - y) low)

-- the day count of `jiff` is that of the definitions, from another start
pub days_before-jiff : (d : Date) → IsDate d → jiff.day_count (pos d.year) d.month d.day ≡ days_before d + 3_652_791
unfolding days_before days_before_year
days_before-jiff d h =
    let first = day_count-early (pos d.year) (d.year + 9999) 1 1 (omega (arith, signed_arith)) (omega arith) (omega arith) (omega arith) in
    omega (arith, first, day_count-day_of_year (pos d.year) d.month d.day h.day_low)

pub days_from_civil-day_number : (d : Date) → IsDate d → jiff.days_from_civil (pos d.year) d.month d.day ≡ day_number d
days_from_civil-day_number d h =
    omega (arith, signed_arith, day_number-days_before d, days_from_civil-day_count (pos d.year) d.month d.day, days_before-jiff d h)

-- the year of a day begins at or before it, and the next one after it
pub year_of_is : (n : ℕ) → n < 900_000 → (1 ≤ year_of n) × (year_of n ≤ 2999) × (days_before_year (year_of n) ≤ n) × (n < days_before_year (year_of n + 1))
unfolding year_of days_before_year
year_of_is n h = grind (arith, nat_tests)

if_lt : {A : Type 0} (P : A → Type 0) (n k : ℕ) (a b : A) → (n < k → P a) → (k ≤ n → P b) → P (cond (nat_lt n k) a b)
if_lt P n k a b below above = elim (cases_lt n k) [
  | inl lt ↦ let e : nat_lt n k ≡ true = search (rules, nat_tests) in rw e (below lt)
  | inr le ↦ let e : nat_lt n k ≡ false = search (rules, nat_tests) in rw e (above le)
]

abbrev IsMonthOf : ℕ → ℕ → ℕ → Type 0
IsMonthOf y n m = (1 ≤ m) × (m ≤ 12) × (days_of_months (pos y) (m - 1) ≤ n) × (n < days_of_months (pos y) m)

-- the days of the months before each month, and of the whole year
months_before : (y n : ℕ) → n < 12 → days_of_months (pos y) n ≡ get_or (0 ∷ 31 ∷ 59 ∷ 90 ∷ 120 ∷ 151 ∷ 181 ∷ 212 ∷ 243 ∷ 273 ∷ 304 ∷ 334 ∷ []) n 0 + cond (nat_lt 1 n) (leap_day (pos y)) 0
months_before y n h = days_of_months_table (pos y) n h

months_all : (y : ℕ) → days_of_months (pos y) 12 ≡ 365 + leap_day (pos y)
months_all y = days_of_months_all (pos y) ∙ days_in_year-leap_day (pos y)

-- the month of a day of the year begins at or before it, and ends after it
pub month_of_is : (y n : ℕ) → n < 365 + leap_day (pos y) → IsMonthOf y n (month_of y n)
unfolding month_of
month_of_is y n h =
    let b : (k : ℕ) → k < 12 → days_of_months (pos y) k ≡ get_or (0 ∷ 31 ∷ 59 ∷ 90 ∷ 120 ∷ 151 ∷ 181 ∷ 212 ∷ 243 ∷ 273 ∷ 304 ∷ 334 ∷ []) k 0 + cond (nat_lt 1 k) (leap_day (pos y)) 0 = months_before y in
    let all = months_all y in
    let leap : ℕ = leap_day (pos y) in
    if_lt (IsMonthOf y n) n 31 _ _
    (λ below_1. (omega arith, omega arith, omega (arith, b 0 (lit< tt)), omega (arith, b 1 (lit< tt))))
    (λ above_1. if_lt (IsMonthOf y n) n (59 + leap) _ _
    (λ below_2. (omega arith, omega arith, omega (arith, b 1 (lit< tt)), omega (arith, b 2 (lit< tt))))
    (λ above_2. if_lt (IsMonthOf y n) n (90 + leap) _ _
    (λ below_3. (omega arith, omega arith, omega (arith, b 2 (lit< tt)), omega (arith, b 3 (lit< tt))))
    (λ above_3. if_lt (IsMonthOf y n) n (120 + leap) _ _
    (λ below_4. (omega arith, omega arith, omega (arith, b 3 (lit< tt)), omega (arith, b 4 (lit< tt))))
    (λ above_4. if_lt (IsMonthOf y n) n (151 + leap) _ _
    (λ below_5. (omega arith, omega arith, omega (arith, b 4 (lit< tt)), omega (arith, b 5 (lit< tt))))
    (λ above_5. if_lt (IsMonthOf y n) n (181 + leap) _ _
    (λ below_6. (omega arith, omega arith, omega (arith, b 5 (lit< tt)), omega (arith, b 6 (lit< tt))))
    (λ above_6. if_lt (IsMonthOf y n) n (212 + leap) _ _
    (λ below_7. (omega arith, omega arith, omega (arith, b 6 (lit< tt)), omega (arith, b 7 (lit< tt))))
    (λ above_7. if_lt (IsMonthOf y n) n (243 + leap) _ _
    (λ below_8. (omega arith, omega arith, omega (arith, b 7 (lit< tt)), omega (arith, b 8 (lit< tt))))
    (λ above_8. if_lt (IsMonthOf y n) n (273 + leap) _ _
    (λ below_9. (omega arith, omega arith, omega (arith, b 8 (lit< tt)), omega (arith, b 9 (lit< tt))))
    (λ above_9. if_lt (IsMonthOf y n) n (304 + leap) _ _
    (λ below_10. (omega arith, omega arith, omega (arith, b 9 (lit< tt)), omega (arith, b 10 (lit< tt))))
    (λ above_10. if_lt (IsMonthOf y n) n (334 + leap) _ _
    (λ below_11. (omega arith, omega arith, omega (arith, b 10 (lit< tt)), omega (arith, b 11 (lit< tt))))
    (λ above_11. (omega arith, omega arith, omega (arith, b 11 (lit< tt)), omega (arith, all)))))))))))))

date_parts_are : (n y m : ℕ) → 1 ≤ y → y ≤ 2999 → days_before_year y ≤ n → IsMonthOf y (n - days_before_year y) m → (d : Date) → d ≡ record { year = y; month = m; day = n - days_before_year y - days_of_months (pos y) (m - 1) + 1 } → IsDate d × (days_before d ≡ n)
unfolding days_before
date_parts_are n y m low high begun month d e =
    let next = days_of_months_more (pos y) m month.0 in
    rw e (record { year_low = low; year_high = omega arith; month_low = month.0; month_high = month.1; day_low = omega arith; day_high = omega (arith, month.3) }, omega (arith, month.2))

-- the n-th day after 0001-01-01 has a date, and n days are before that date
pub date_at_is : (n : ℕ) → n < 900_000 → IsDate (date_at n) × (days_before (date_at n) ≡ n)
unfolding date_at
date_at_is n h =
    let year = year_of_is n h in
    let next : year_of n + 1 ≡ suc (year_of n) = omega arith in
    let long = days_before_year-suc (year_of n) year.0 in
    let ended = rw next at year.3 in
    let month = month_of_is (year_of n) (n - days_before_year (year_of n)) (omega (arith, year.2)) in
    date_parts_are n (year_of n) _ year.0 year.1 year.2 month (date_at n) refl

date_of-date_at : (day : ℤ) → date_of day ≡ date_at (unsigned_abs (day +ℤ pos 719_162))
unfolding date_of date_at year_of
date_of-date_at day = refl

-- each day has a date
pub date_of_is : (day : ℤ) → IsTermDay day → IsDate (date_of day) × (day_number (date_of day) ≡ day)
date_of_is day h =
    let part = one_part (day +ℤ pos 719_162) in
    let at = date_at_is (unsigned_abs (day +ℤ pos 719_162)) (omega (arith, signed_arith)) in
    rw date_of-date_at (at.0, omega (arith, signed_arith, at.1, day_number-days_before (date_at (unsigned_abs (day +ℤ pos 719_162)))))

-- the date as `jiff` has it
unfoldable pub plain : (d : Date) → IsDate d → Plain
plain d h = record { year = pos d.year; month = d.month; day = d.day; year_in = omega (arith, signed_arith, h.year_high); month_in = (h.month_low, h.month_high); day_in = (h.day_low, h.day_high) }

-- a date of `jiff` that has a day's number has the parts of the day's date
pub plain_is : (x : Plain) (day : ℤ) → IsTermDay day → epoch_day x ≡ day → (x.year ≡ pos (date_of day).year) × (x.month ≡ (date_of day).month) × (x.day ≡ (date_of day).day)
unfolding plain
plain_is x day h e =
    let here = date_of_is day h in
    epoch_day_injective x (plain (date_of day) here.0) (e ∙ sym (days_from_civil-day_number (date_of day) here.0 ∙ here.1))

-- a date is among the days of its year
pub days_before-year : (d : Date) → IsDate d → (days_before_year d.year ≤ days_before d) × (days_before d < days_before_year (suc d.year))
unfolding days_before
days_before-year d h =
    let next = days_of_months_more (pos d.year) d.month h.month_low in
    let mono = days_of_months_mono (pos d.year) d.month 12 h.month_high in
    let all = months_all d.year in
    (omega arith, omega (arith, h.day_low, h.day_high, days_before_year-suc d.year h.year_low))

-- dates of later years have later days
pub days_before-lt : (a b : Date) → IsDate a → IsDate b → a.year < b.year → days_before a < days_before b
days_before-lt a b h k lt =
    omega (arith, days_before-year a h, days_before-year b k, days_before_year_mono (suc a.year) b.year (omega arith) (omega arith))

years_begin : (days_before_year 1900 ≡ 693_595) × (days_before_year 2200 ≡ 803_168) × (days_before_year 2400 ≡ 876_216)
unfolding days_before_year
years_begin = (refl, refl, refl)

year_at_least : (y : ℕ) → 693_595 < days_before_year (suc y) → 1900 ≤ y
year_at_least y h = elim (cases_lt y 1900) [
  | inr le ↦ le
  | inl lt ↦ absurd (omega (arith, years_begin.0, days_before_year_mono (suc y) 1900 (omega arith) (omega arith)))
]

year_below : (y end n : ℕ) → 1 ≤ end → days_before_year end ≡ n → days_before_year y < n → y < end
year_below y end n low e h = elim (cases_lt y end) [
  | inl lt ↦ lt
  | inr le ↦ absurd (omega (arith, days_before_year_mono end y low le))
]

-- the years of the days
pub IsTermDay-year : (d : Date) → IsDate d → IsTermDay (day_number d) → (1900 ≤ d.year) × (d.year < 2400)
IsTermDay-year d h k =
    let lies = days_before-year d h in
    (year_at_least d.year (omega (arith, signed_arith, day_number-days_before d, lies.1)), year_below d.year 2400 876_216 (omega arith) years_begin.2 (omega (arith, signed_arith, day_number-days_before d, lies.0)))

pub IsDay-year : (d : Date) → IsDate d → IsDay (day_number d) → (1900 ≤ d.year) × (d.year < 2200)
IsDay-year d h k =
    let lies = days_before-year d h in
    (year_at_least d.year (omega (arith, signed_arith, day_number-days_before d, lies.1)), year_below d.year 2200 803_168 (omega arith) years_begin.1 (omega (arith, signed_arith, day_number-days_before d, lies.0)))

-- and the days of the years
pub IsTermDay-from_year : (d : Date) → IsDate d → 1900 ≤ d.year → d.year < 2400 → IsTermDay (day_number d)
IsTermDay-from_year d h low high =
    let lies = days_before-year d h in
    let first = days_before_year_mono 1900 d.year (omega arith) low in
    let last = days_before_year_mono (suc d.year) 2400 (omega arith) (omega arith) in
    (omega (arith, signed_arith, day_number-days_before d, lies.0, years_begin.0), omega (arith, signed_arith, day_number-days_before d, lies.1, years_begin.2))

epoch_date : IsDate (ymd 1970 1 1)
epoch_date = record { year_low = omega arith; year_high = omega arith; month_low = omega arith; month_high = omega arith; day_low = omega arith; day_high = omega arith }

epoch_number : day_number (ymd 1970 1 1) ≡ pos 0
unfolding day_number
epoch_number = refl

-- the first day of 1970 is day 0
pub epoch_is : (x : Plain) → IsYmd (pos 1970) (pos 1) (pos 1) x → epoch_day x ≡ pos 0
epoch_is x h =
    let e : jiff.days_from_civil (pos 1970) 1 1 ≡ pos 0 = days_from_civil-day_number (ymd 1970 1 1) epoch_date ∙ epoch_number in
    let month : x.month ≡ 1 = omega (arith, signed_arith, h.1) in
    let day : x.day ≡ 1 = omega (arith, signed_arith, h.2) in
    rw (h.0, month, day) e
