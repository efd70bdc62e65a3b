-- Parts of the checks by names of their own, over which proofs go by cases.
use Rattle.std.specs.Prelude.{◌≡◌, ◌⊎◌, ℕ, ◌+◌, List, [], ◌∷◌, ◌++◌, Option, Some, Result, Ok, Err, slice_get, MatchBool, MatchOption, MatchResult}
use Rattle.std.specs.Option.{option_map, option_map_or, ok_or}
use Rattle.select_rates.specs.Select.{Selected}
use Rattle.select_rates.specs.declared.any.AnyTable.{AnyTable}
use Rattle.select_rates.specs.declared.any.AnyTable.TheVariants as any
use Rattle.xtbml_subset.specs.declared.fault.TableKind.TheVariants.{BadAge, AgeGap, BadRate, BadDuration, UltimateGap}
use Rattle.xtbml_subset.specs.declared.fault.TableFault.{TableFault}
use Rattle.xtbml_subset.specs.declared.fault.TableFault.TheVariants.{Bad}
use Rattle.xtbml_subset.specs.declared.period.Attained.{Attained}
use Rattle.xtbml_subset.specs.Checks.{RateElement, age_of_first, ReadsRated}
use Rattle.xtbml_subset.specs.SelectChecks.{Issue, ReadsPeriod}
use Rattle.xtbml_subset.specs.inside.Steps.{is_due, is_duration}
use Rattle.xtbml_subset.specs.declared.class.Class.TheVariants.{DoubleQuoted, SingleQuoted}
use Rattle.xtbml_subset.specs.Classes.{InClass}

-- a value between two `"` or two `'`
abbrev pub IsQuoted : List ℕ → List ℕ → Type 0
IsQuoted text value =
    ((text ≡ 34 ∷ (value ++ 34 ∷ [])) × InClass DoubleQuoted value) ⊎ ((text ≡ 39 ∷ (value ++ 39 ∷ [])) × InClass SingleQuoted value)

abbrev pub first : {A : Type 0} → List A → Option A
first xs = slice_get xs 0

abbrev pub first_age : List RateElement → ℕ
first_age rows = age_of_first rows (λ row. row.label)

abbrev pub first_issue_age : List Issue → ℕ
first_issue_age issues = age_of_first issues (λ issue. issue.label)

-- what is read after a value, or the fault before it
abbrev pub Further : {A B : Type 0} → (A → Result B TableFault → Type 0) → Result A TableFault → Result B TableFault → Type 0
Further Rest one read = MatchResult one (λ value. Rest value read) (λ fault. read ≡ Err fault)

-- a rate with what is due after it, or that it is bad
abbrev pub rated : {S : Type 0} → ℕ → S → Option ℕ → Result (S × ℕ) TableFault
rated at next rate = ok_or (option_map (λ value. (next, value)) rate) (Bad at BadRate)

-- a row is read by its age
abbrev pub IsAged : Option ℕ → RateElement → Option ℕ → Result (Option ℕ × ℕ) TableFault → Type 0
IsAged due row age read =
    MatchOption age (read ≡ Err (Bad row.at BadAge))
    (λ found. MatchBool (is_due due found) (ReadsRated row (Some (found + 1)) read) (read ≡ Err (Bad row.at AgeGap)))

-- what is due after a duration
abbrev pub timed : ℕ → ℕ → Attained
timed age duration = record { duration = Some (duration + 1); age = age + 1 }

-- a rate of an issue age is read by its duration
abbrev pub IsTimed : Attained → RateElement → Option ℕ → Result (Attained × ℕ) TableFault → Type 0
IsTimed due row duration read =
    MatchOption duration (read ≡ Err (Bad row.at BadDuration))
    (λ found. MatchBool (is_duration due found) (ReadsRated row (timed due.age found) read) (read ≡ Err (Bad row.at BadDuration)))

-- an issue age is read by its age
abbrev pub IsIssuedAt : Option ℕ → Issue → Option ℕ → Result (Option ℕ × List ℕ) TableFault → Type 0
IsIssuedAt due issue age read =
    MatchOption age (read ≡ Err (Bad issue.at BadAge))
    (λ found. MatchBool (is_due due found) (ReadsPeriod issue.at found issue.rates read) (read ≡ Err (Bad issue.at AgeGap)))

-- a table, if there is no gap
abbrev pub without_gap : Option ℕ → Selected → Result Selected TableFault
without_gap gap table = option_map_or (λ at. Err (Bad at UltimateGap)) gap (Ok table)

-- a select table, as a table of either kind
abbrev pub as_select : Result Selected TableFault → Result AnyTable TableFault
as_select (Ok table) = Ok (any.Select table)
as_select (Err fault) = Err fault
