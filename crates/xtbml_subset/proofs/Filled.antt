-- Rows with blank ones at their end, and issue ages one after the other.
use Rattle.xtbml_subset.proofs.Names.{◌≡◌, ℕ, Bool, true, false, not, ◌||◌, cond, List, [], ◌∷◌, ◌++◌, map, Option, None, Some, refl, sym, ap, ◌∙◌, append_assoc, codes, map-append, MatchOption, Element, Found, siblings_at, row_of, rows_from, found_asks, issues_from, found_of, RateElement, Issue, durations_of, issue_age_of, is_blank, has_filled, filled}

passed : (blank rest : Bool) → blank ≡ true → rest ≡ (not blank || rest)
passed true rest e = refl
passed false rest e = absurd cc

met : (blank rest : Bool) → blank ≡ false → true ≡ (not blank || rest)
met true rest e = absurd cc
met false rest e = refl

pub passed_blank : (row : RateElement) (rows : List RateElement) → is_blank row.text ≡ true → has_filled rows ≡ has_filled (row ∷ rows)
passed_blank row rows e = passed (is_blank row.text) (has_filled rows) e

pub met_filled : (row : RateElement) (rows : List RateElement) → is_blank row.text ≡ false → true ≡ has_filled (row ∷ rows)
met_filled row rows e = met (is_blank row.text) (has_filled rows) e

on : (test : Bool) (rows others : List RateElement) → test ≡ true → cond test rows others ≡ rows
on true rows others e = refl
on false rows others e = absurd cc

off : (test : Bool) (rows others : List RateElement) → test ≡ false → cond test rows others ≡ others
off true rows others e = absurd cc
off false rows others e = refl

pub filled_on : (row : RateElement) (rows : List RateElement) → has_filled (row ∷ rows) ≡ true → filled (row ∷ rows) ≡ row ∷ filled rows
filled_on row rows e = on (has_filled (row ∷ rows)) (row ∷ filled rows) [] e

pub filled_none : (rows : List RateElement) → has_filled rows ≡ false → filled rows ≡ []
filled_none [] e = refl
filled_none (row ∷ rows) e = off (has_filled (row ∷ rows)) (row ∷ filled rows) [] e

abbrev pub issues_left : ℕ → Option Element → List Issue
issues_left total None = []
issues_left total (Some element) = issues_from total (found_of element)

pub left_issues : (total : ℕ) (next : Option Element) (found : List Found)
    → MatchOption next (found ≡ []) (λ e. found ≡ found_of e ∷ siblings_at (codes "Axis") (found_of e)) → map (λ e. issue_age_of (found_asks total) e) found ≡ issues_left total next
left_issues total None found h = ap (λ (es : List Found). map (λ e. issue_age_of (found_asks total) e) es) h
left_issues total (Some e) found h = ap (λ (es : List Found). map (λ x. issue_age_of (found_asks total) x) es) h

-- a place that was reported, before those of the issue ages after it
pub place_told : (places : List ℕ) (at : ℕ) (more all : List ℕ) → places ++ at ∷ more ≡ all → (places ++ at ∷ []) ++ more ≡ all
place_told places at more all e = append_assoc places (at ∷ []) more ∙ e

-- the rates of an issue age, by the first `Y` of it
pub rates_by : (total : ℕ) (axis first : Found) → durations_of (found_asks total) axis ≡ first ∷ siblings_at (codes "Y") first
    → filled (rows_from total first) ≡ (issue_age_of (found_asks total) axis).rates
rates_by total axis first e = sym (ap (λ (found : List Found). filled (map (λ x. row_of total x) found)) e)

pub no_rates : (total : ℕ) (axis : Found) → durations_of (found_asks total) axis ≡ [] → [] ≡ (issue_age_of (found_asks total) axis).rates
no_rates total axis e = sym (ap (λ (found : List Found). filled (map (λ x. row_of total x) found)) e)

pub rows_told : {T : Type 0} (xs : List T) (x : T) (ys : List T) (rates : T → List ℕ) → ys ≡ xs ++ x ∷ [] → map rates ys ≡ map rates xs ++ rates x ∷ []
rows_told {T} xs x ys rates e = ap (λ (s : List T). map rates s) e ∙ map-append rates xs (x ∷ [])
