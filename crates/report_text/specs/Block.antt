-- The text of a valuation by a measure: a line that says what was valued, a row for each policy, and the total
use Rattle.std.specs.Prelude.{ℕ, ◌≤◌, ⊤, List, [], ◌∷◌, ◌++◌, ℤ, codes, decimal, length}
use Rattle.report_text.specs.Names.{All, sum_by, flat_map, cents_text, line_of, NoBasis, BelowTable, PastTable, RateHigh, Short, Enough, Close, Terminal, Mean, Deficiency, Row, Bounds, Both, Word}
use Rattle.life_dates.specs.DayText.{day_text}
use Rattle.policy_types.specs.Words.{status_word}
use Rattle.deficiency_reserve.specs.declared.answer.Adequacy.{Adequacy}
use Rattle.policy_value.specs.declared.worth.Measure.{Measure}
use Rattle.policy_value.specs.declared.worth.Worth.{Worth}
use Rattle.report_text.specs.declared.totals.Totals.{Totals}

-- the lower and the upper bound of a reserve, and with them those of the minimum reserve and how the premium
-- compares; or why there are none
abbrev pub worth_fields : Worth → List (List ℕ)
worth_fields (Bounds lo hi) = cents_text lo ∷ cents_text hi ∷ []
worth_fields (Both lo hi min_lo min_hi test) =
    cents_text lo ∷ cents_text hi ∷ cents_text min_lo ∷ cents_text min_hi ∷ adequacy_word test ∷ []
  where
    adequacy_word : Adequacy → List ℕ
    adequacy_word Short = codes "short"
    adequacy_word Enough = codes "enough"
    adequacy_word Close = codes "close"
worth_fields (Word NoBasis) = codes "nobasis" ∷ []
worth_fields (Word BelowTable) = codes "belowtable" ∷ []
worth_fields (Word PastTable) = codes "pasttable" ∷ []
worth_fields (Word RateHigh) = codes "ratehigh" ∷ []

-- the row of a policy: its number, its status, the years of its reserve, and what it is worth
unfoldable pub row_text : Row → List ℕ
row_text row =
    line_of (codes "row") (decimal row.id ∷ status_word row.status ∷ decimal row.t ∷ worth_fields row.worth)

-- what a row adds to the totals: its bounds in cents, which also count as those of the minimum reserve if it has none
-- of these; or one row with a word
abbrev pub totals_by : Worth → Totals
totals_by (Bounds lo hi) = record { lower = lo; upper = hi; lower_minimum = lo; upper_minimum = hi; unvalued = 0 }
totals_by (Both lo hi min_lo min_hi test) =
    record { lower = lo; upper = hi; lower_minimum = min_lo; upper_minimum = min_hi; unvalued = 0 }
totals_by (Word reason) = record { lower = 0; upper = 0; lower_minimum = 0; upper_minimum = 0; unvalued = 1 }

-- the sum of one of these over all rows
abbrev pub total_of : (Totals → ℕ) → List Row → ℕ
total_of part rows = sum_by (λ (row : Row). part (totals_by row.worth)) rows

-- the sums of the bounds; by the measure of deficiency, also those of the minimum reserve; and the number of rows
-- with a word
abbrev pub sum_fields : Measure → List Row → List (List ℕ)
sum_fields Deficiency rows =
    cents_text (total_of (λ t. t.lower) rows) ∷ cents_text (total_of (λ t. t.upper) rows)
    ∷ cents_text (total_of (λ t. t.lower_minimum) rows) ∷ cents_text (total_of (λ t. t.upper_minimum) rows)
    ∷ decimal (total_of (λ t. t.unvalued) rows) ∷ []
sum_fields _ rows =
    cents_text (total_of (λ t. t.lower) rows) ∷ cents_text (total_of (λ t. t.upper) rows)
    ∷ decimal (total_of (λ t. t.unvalued) rows) ∷ []

unfoldable pub total_text : Measure → List Row → List ℕ
total_text measure rows = line_of (codes "total") (sum_fields measure rows)

-- who asked, the day of the valuation, the position of the journal that is valued, the number of policies, and the
-- measure, if it isn't the terminal reserve
unfoldable pub heading_text : (lane : ℕ) (on : ℤ) (position policies : ℕ) → Measure → List ℕ
heading_text lane on position policies measure =
    line_of (decimal lane)
    (codes "value" ∷ day_text on ∷ decimal position ∷ decimal policies ∷ measure_fields measure)
  where
    measure_fields : Measure → List (List ℕ)
    measure_fields Terminal = []
    measure_fields Mean = codes "mean" ∷ []
    measure_fields Deficiency = codes "deficiency" ∷ []

-- the whole of a valuation
abbrev pub block_text : (lane : ℕ) (on : ℤ) (position : ℕ) → Measure → List Row → List ℕ
block_text lane on position measure rows =
    heading_text lane on position (length rows) measure ++ flat_map row_text rows ++ total_text measure rows

-- no bound is above 200,000,000.00
abbrev pub IsSummable : Worth → Type 0
IsSummable (Bounds lo hi) = (lo ≤ 20000000000) × (hi ≤ 20000000000)
IsSummable (Both lo hi min_lo min_hi test) =
    (lo ≤ 20000000000) × (hi ≤ 20000000000) × (min_lo ≤ 20000000000) × (min_hi ≤ 20000000000)
IsSummable (Word reason) = ⊤

-- none of the rows has a bound above that
abbrev pub AreSummable : List Row → Type 0
AreSummable rows = All (λ (row : Row). IsSummable row.worth) rows
