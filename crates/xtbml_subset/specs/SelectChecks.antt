-- The checks of a select and ultimate table, in order, over the elements of a document. The first `Table` has the rates
-- of each issue age by duration, the second the ultimate rates.
use Rattle.std.specs.Prelude.{◌≡◌, ℕ, ◌+◌, false, not, ◌&&◌, ◌==◌, nat_le, nat_lt, if◌then◌else◌, List, [], ◌∷◌, length, map, Option, None, Some, Result, Ok, Err, codes, is_some, is_none, slice_get, MatchBool, MatchOption}
use Rattle.std.specs.List.{list_any}
use Rattle.std.specs.Option.{option_map_or}
use Rattle.xtbml_subset.specs.Names.{Rates, last_age_of, Selected}
use Rattle.xtbml_subset.specs.declared.class.Class.TheVariants.{White}
use Rattle.xtbml_subset.specs.declared.fault.TableKind.TheVariants.{BadDuration, NoUltimate, UltimateGap}
use Rattle.xtbml_subset.specs.declared.fault.TableFault.{TableFault}
use Rattle.xtbml_subset.specs.declared.fault.TableFault.TheVariants.{Bad}
use Rattle.xtbml_subset.specs.declared.period.Attained.{Attained}
use Rattle.xtbml_subset.specs.Classes.{after}
use Rattle.xtbml_subset.specs.Texts.{◌>>=◌}
use Rattle.xtbml_subset.specs.Checks.{RateElement, Asks, in_first, factor_of, InTurn, ReadsAll, short_number, age_of_first, ReadsAge, ReadsRated, ReadsRates, IsScale}

-- ---- the issue ages

-- If the first axis has a label, the axes of the values are those of the issue ages; else the axes in the first axis
-- are.
unfoldable pub issue_axes : {N : Type 0} → Asks N → N → N → List N
issue_axes asks table axis =
    if is_some (asks.row axis).label
    then in_first asks (codes "Axis") (asks.children (codes "Values") table)
    else asks.children (codes "Axis") axis

-- the `Y` of an issue age: those in its axis, or, if it has none, those in the first axis in it
unfoldable pub durations_of : {N : Type 0} → Asks N → N → List N
durations_of asks axis =
    if is_some (slice_get (asks.children (codes "Y") axis) 0)
    then asks.children (codes "Y") axis
    else in_first asks (codes "Y") (asks.children (codes "Axis") axis)

-- without the blank rows at the end: the content of a blank row is only white space, or nothing
abbrev pub filled : List RateElement → List RateElement
filled [] = []
filled (row ∷ rows) =
    if list_any (λ one. not (option_map_or (λ text. is_none (slice_get (after White text) 0)) one.text false)) (row ∷ rows)
    then row ∷ filled rows
    else []

-- an issue age: the place of its axis, the label, and the rates by duration
pub record Issue : Type 0 where
  pub at : ℕ
  pub label : Option (List ℕ)
  pub rates : List RateElement

abbrev pub issue_age_of : {N : Type 0} → Asks N → N → Issue
issue_age_of asks axis = record {
  at = (asks.row axis).at;
  label = (asks.row axis).label;
  rates = filled (map (λ node. asks.row node) (durations_of asks axis));
}

-- A rate of an issue age is read, or is refused for its duration or for itself: the first duration is 0 or 1, each
-- other is the one before plus one, and the age at it is at most 130.
abbrev pub ReadsDuration : Attained → RateElement → Result (Attained × ℕ) TableFault → Type 0
ReadsDuration due row read =
    MatchOption (row.label >>= λ text. short_number text) (read ≡ Err (Bad row.at BadDuration))
    (λ duration. MatchBool (option_map_or (λ next. duration == next) due.duration (nat_le duration 1) && nat_le due.age 130)
    (ReadsRated row (record { duration = Some (duration + 1); age = due.age + 1 }) read)
    (read ≡ Err (Bad row.at BadDuration)))

-- the rates from the first duration on, of which there is at least one
abbrev pub ReadsPeriod : ℕ → ℕ → List RateElement → Result (Option ℕ × List ℕ) TableFault → Type 0
ReadsPeriod at age [] read = read ≡ Err (Bad at BadDuration)
ReadsPeriod at age (row ∷ rows) read =
    InTurn (ReadsAll ReadsDuration (record { duration = None; age = age }) (row ∷ rows))
    (λ rates whole. whole ≡ Ok (Some (age + 1), rates)) read

-- ---- the ultimate table

-- the ultimate rates, of which there is at least one
abbrev pub ReadsUltimate : ℕ → List RateElement → Result Rates TableFault → Type 0
ReadsUltimate at [] read = read ≡ Err (Bad at NoUltimate)
ReadsUltimate at (row ∷ rows) read = ReadsRates (row ∷ rows) read

-- The place of the first issue age with a gap between its select rates and the ultimate ones: the ultimate table goes on
-- from the age directly after the select period, but begins above it.
abbrev pub first_gap : Rates → ℕ → List ℕ → List (List ℕ) → Option ℕ
first_gap ultimate age [] rows = None
first_gap ultimate age (at ∷ places) [] = None
first_gap ultimate age (at ∷ places) (row ∷ rows) =
    if nat_le (age + length row) (last_age_of ultimate) && nat_lt (age + length row) ultimate.first_age
    then Some at
    else first_gap ultimate (age + 1) places rows

-- the table of these rates, unless there is a gap
abbrev pub IsJoinedBy : List Issue → List (List ℕ) → Rates → Result Selected TableFault → Type 0
IsJoinedBy issues rows ultimate answer =
    let first : ℕ = age_of_first issues (λ issue. issue.label) in
    answer ≡ option_map_or (λ at. Err (Bad at UltimateGap)) (first_gap ultimate first (map (λ issue. issue.at) issues) rows)
    (Ok (record { first_age = first; rows = rows; ultimate = ultimate }))

-- The result for a first table with its first axis, by the tables after it. An issue age is read, or is refused for
-- its age or for its rates. The ultimate rates are the `Y` of the first axis of the first values of the next table.
abbrev pub IsSelectTable : {N : Type 0} → Asks N → List N → N → N → Result Selected TableFault → Type 0
IsSelectTable {N} asks others table axis answer =
    let issues : List Issue = map (λ node. issue_age_of asks node) (issue_axes asks table axis) in
    let rates : List N = in_first asks (codes "Y") (in_first asks (codes "Axis") (in_first asks (codes "Values") others)) in
    InTurn (IsScale (factor_of asks (table ∷ []))) (λ none unscaled. InTurn (IsScale (factor_of asks others))
    (λ same read. InTurn (ReadsAll (λ due (issue : Issue) one. ReadsAge issue.at issue.label due
    (λ age rows. ReadsPeriod issue.at age issue.rates rows) one) None issues)
    (λ rows joined. InTurn (ReadsUltimate (asks.row table).at (map (λ node. asks.row node) rates))
    (λ ultimate whole. IsJoinedBy issues rows ultimate whole) joined) read) unscaled) answer
