-- Anniversaries are days, and come one after another.
use Rattle.life_dates.proofs.Names.{◌≡◌, ℕ, suc, ◌+◌, ◌-◌, ◌<◌, ◌≤◌, ◌↔◌, min, inl, inr, refl, ap, arith, ℤ, pos, ◌<ℤ◌, ◌≤ℤ◌, cases_lt, int_min, clamps, by_lt_z, Plain, epoch_day, signed_arith, days_in_month_bounds, Date, IsDate, IsDay, IsTermDay, day_number, date_of, years_later, anniversary_of, IsCompleted}
use Rattle.jiff_core.specs.Calendar.{days_in_month}
use Rattle.life_dates.proofs.CalendarLemmas.{date_of_is, days_before-lt, day_number-days_before, days_from_civil-day_number, IsDay-year, IsTermDay-year, IsTermDay-from_year}

-- the later date is one of the calendar
pub years_later_is : (d : Date) (t : ℕ) → IsDate d → d.year + t ≤ 9999 → IsDate (years_later d t)
years_later_is d t h high =
    let long = days_in_month_bounds (pos (d.year + t)) d.month in
    record { year_low = omega (arith, h.year_low); year_high = high; month_low = h.month_low; month_high = h.month_high; day_low = omega (arith, h.day_low); day_high = omega arith }

-- the date of a day of commands
pub IsDay-date : (day : ℤ) → IsDay day → IsDate (date_of day) × (day_number (date_of day) ≡ day) × (1900 ≤ (date_of day).year) × ((date_of day).year < 2200)
IsDay-date day h =
    let here = date_of_is day (h.0, omega (arith, signed_arith, h.1)) in
    let years = IsDay-year (date_of day) here.0 (rw here.1 h) in
    (here.0, here.1, years.0, years.1)

-- each anniversary, up to the 134th, of a day of commands is before the year 2400
pub anniversary_in : (issued : ℤ) (t : ℕ) → IsDay issued → t ≤ 134 → IsTermDay (anniversary_of issued t)
unfolding anniversary_of
anniversary_in issued t h most =
    let here = IsDay-date issued h in
    IsTermDay-from_year (years_later (date_of issued) t) (years_later_is (date_of issued) t here.0 (omega (arith, here.3))) (omega (arith, here.2)) (omega (arith, here.3))

-- anniversaries come one after another
pub anniversary_lt : (issued : ℤ) (t u : ℕ) → IsDay issued → t < u → u ≤ 134 → anniversary_of issued t <ℤ anniversary_of issued u
unfolding anniversary_of
anniversary_lt issued t u h lt most =
    let d = date_of issued in
    let here = IsDay-date issued h in
    let before = days_before-lt (years_later d t) (years_later d u) (years_later_is d t here.0 (omega (arith, here.3))) (years_later_is d u here.0 (omega (arith, here.3))) (omega arith) in
    omega (arith, signed_arith, day_number-days_before (years_later d t), day_number-days_before (years_later d u))

-- anniversary 0 is the day itself
pub anniversary_zero : (issued : ℤ) → IsDay issued → anniversary_of issued 0 ≡ issued
unfolding anniversary_of
anniversary_zero issued h =
    let d = date_of issued in
    let here = IsDay-date issued h in
    let year : d.year + 0 ≡ d.year = omega arith in
    let day : min d.day (days_in_month (pos d.year) d.month) ≡ d.day = omega (arith, here.0.day_high) in
    rw (year, day) here.1

-- a date of `jiff` with the parts of the later date has the anniversary's number
pub epoch_day-anniversary : (issued : ℤ) (t : ℕ) (x : Plain) → IsDay issued → t ≤ 134 → let later = years_later (date_of issued) t in (x.year ≡ pos later.year) × (x.month ≡ later.month) × (x.day ≡ later.day) → epoch_day x ≡ anniversary_of issued t
unfolding anniversary_of
epoch_day-anniversary issued t x h most parts =
    let here = IsDay-date issued h in
    let tie = days_from_civil-day_number (years_later (date_of issued) t) (years_later_is (date_of issued) t here.0 (omega (arith, here.3))) in
    rw (parts.0, parts.1, parts.2) tie

-- t years are completed if anniversary t has come and the next one, if it counts, hasn't
pub IsCompleted-next : (issued on : ℤ) (t : ℕ) → IsDay issued → t ≤ 131 → anniversary_of issued t ≤ℤ on → (t < 131 → on <ℤ anniversary_of issued (suc t)) → IsCompleted issued on t
IsCompleted-next issued on t h most reached next = record {
  most = most;
  reached = reached;
  greatest = λ u small came. elim (cases_lt t u) [
    | inr le ↦ le
    | inl lt ↦ elim (cases_lt (suc t) u) [
      | inl beyond ↦ absurd (omega (arith, signed_arith, anniversary_lt issued (suc t) u h beyond (omega arith), next (omega arith)))
      | inr at ↦ let e : u ≡ suc t = omega arith in absurd (omega (arith, signed_arith, rw e at came, next (omega arith)))
    ]
  ];
}

-- the number of completed years is one number
pub IsCompleted-unique : (issued on : ℤ) (t u : ℕ) → IsCompleted issued on t → IsCompleted issued on u → t ≡ u
IsCompleted-unique issued on t u h k = omega (arith, h.greatest u k.most k.reached, k.greatest t h.most h.reached)

-- an anniversary of an earlier year than a day's comes before it
pub anniversary_before : (issued on : ℤ) (t : ℕ) → IsDay issued → IsTermDay on → (date_of issued).year + t < (date_of on).year → anniversary_of issued t <ℤ on
unfolding anniversary_of
anniversary_before issued on t h k lt =
    let d = date_of issued in
    let here = IsDay-date issued h in
    let there = date_of_is on k in
    let years = IsTermDay-year (date_of on) there.0 (rw there.1 k) in
    let before = days_before-lt (years_later d t) (date_of on) (years_later_is d t here.0 (omega arith)) there.0 lt in
    omega (arith, signed_arith, there.1, day_number-days_before (years_later d t), day_number-days_before (date_of on))

-- and one of a later year after it
pub anniversary_after : (issued on : ℤ) (t : ℕ) → IsDay issued → IsTermDay on → t ≤ 134 → (date_of on).year < (date_of issued).year + t → on <ℤ anniversary_of issued t
unfolding anniversary_of
anniversary_after issued on t h k most lt =
    let d = date_of issued in
    let here = IsDay-date issued h in
    let there = date_of_is on k in
    let before = days_before-lt (date_of on) (years_later d t) there.0 (years_later_is d t here.0 (omega (arith, here.3))) lt in
    omega (arith, signed_arith, there.1, day_number-days_before (years_later d t), day_number-days_before (date_of on))

last_year : (date_of (pos 157_053)).year ≡ 2399
unfolding date_of
last_year = refl

-- a day is in the year of an earlier day or in a later year
pub later_year : (issued last : ℤ) → IsDay issued → IsTermDay last → issued ≤ℤ last → (date_of issued).year ≤ (date_of last).year
later_year issued last h k le = elim (cases_lt (date_of last).year (date_of issued).year) [
  | inr year ↦ year
  | inl lt ↦
      let year : (date_of last).year < (date_of issued).year + 0 = omega arith in
      absurd (omega (arith, signed_arith, anniversary_after issued last 0 h k (omega arith) year, anniversary_zero issued h))
]

-- the years from the year of the issue day to that of a later day, up to 131, are completed or one too many
pub completed_years : (issued on last : ℤ) (y : ℕ) → IsDay issued → issued ≤ℤ on → last ≡ int_min on (pos 157_053) → y ≡ min ((date_of last).year - (date_of issued).year) 131 → (anniversary_of issued y ≤ℤ on → IsCompleted issued on y) × (on <ℤ anniversary_of issued y → (1 ≤ y) × IsCompleted issued on (y - 1))
completed_years issued on last y h came is e =
    let k : IsTermDay last = (omega (arith, signed_arith, clamps, h.0), omega (arith, signed_arith, clamps)) in
    let years = later_year issued last h k (omega (arith, signed_arith, clamps, h.1)) in
    let low = IsDay-date issued h in
    let below : y < 131 → last ≡ on = λ small. by_lt_z (pos 157_053) on
    (λ beyond. let at : last ≡ pos 157_053 = omega (arith, signed_arith, clamps) in
    absurd (omega (arith, low.3, ap (λ d. (date_of d).year) at, last_year)))
    (λ le. omega (arith, signed_arith, clamps)) in
    let next : y < 131 → on <ℤ anniversary_of issued (suc y) = λ small.
    rw (below small) at (anniversary_after issued last (suc y) h k (omega arith) (omega arith)) in (
      λ reached. IsCompleted-next issued on y h (omega arith) reached next,
      λ missed. elim (cases_lt 0 y) [
        | inr none ↦ let zero : y ≡ 0 = omega arith in absurd (omega (arith, signed_arith, rw zero at missed, anniversary_zero issued h))
        | inl some ↦
            let back : suc (y - 1) ≡ y = omega arith in
            let before = anniversary_before issued last (y - 1) h k (omega arith) in
            (omega arith, IsCompleted-next issued on (y - 1) h (omega arith) (omega (arith, signed_arith, clamps, before)) (λ _. rw back missed))
      ],
    )

-- anniversaries that aren't after one another
pub anniversary_le : (issued : ℤ) (t u : ℕ) → IsDay issued → t ≤ u → u ≤ 134 → anniversary_of issued t ≤ℤ anniversary_of issued u
anniversary_le issued t u h le most = elim (cases_lt t u) [
  | inl lt ↦ omega (arith, signed_arith, anniversary_lt issued t u h lt most)
  | inr ge ↦ let e : u ≡ t = omega arith in rw e (omega (arith, signed_arith))
]

-- the anniversaries that have come are those up to the completed years
pub IsCompleted-come : (issued on : ℤ) (t u : ℕ) → IsDay issued → IsCompleted issued on t → u ≤ 131 → (anniversary_of issued u ≤ℤ on) ↔ (u ≤ t)
IsCompleted-come issued on t u h k most = (
  λ came. k.greatest u most came,
  λ le. omega (arith, signed_arith, k.reached, anniversary_le issued u t h le (omega (arith, k.most))),
)
