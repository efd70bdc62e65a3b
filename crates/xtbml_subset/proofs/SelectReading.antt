-- By what the reader found, the answer of the checks of a select table.
use Rattle.xtbml_subset.proofs.Names.{◌≡◌, ℕ, List, ◌∷◌, map, Option, None, Some, Ok, Err, refl, sym, ap, ◌∙◌, codes, Rates, Selected, UltimateGap, TableFault, Bad, IsScale, Issue, SelectParts, issue_axes, issue_age_of, ReadsAll, ReadsIssue, ReadsUltimate, first_issue_age, first_gap, without_gap, IsSelectBy, Found, siblings_at, found_asks, issues_from}

pub scale_refused : (parts : SelectParts) (fault : TableFault) → IsScale parts.factor (Err fault) → IsSelectBy parts (Err fault)
scale_refused parts fault h = (Err fault, h, refl)

pub second_refused : (parts : SelectParts) (fault : TableFault) → IsScale parts.factor (Ok tt) → IsScale parts.ultimate_factor (Err fault) → IsSelectBy parts (Err fault)
second_refused parts fault a h = (Ok tt, a, (Err fault, h, refl))

pub issues_refused : (parts : SelectParts) (fault : TableFault) → IsScale parts.factor (Ok tt) → IsScale parts.ultimate_factor (Ok tt) → ReadsAll ReadsIssue None parts.issues (Err fault)
    → IsSelectBy parts (Err fault)
issues_refused parts fault a b h = (Ok tt, a, (Ok tt, b, (Err fault, h, refl)))

pub ultimate_refused : (parts : SelectParts) (rows : List (List ℕ)) (fault : TableFault) → IsScale parts.factor (Ok tt) → IsScale parts.ultimate_factor (Ok tt)
    → ReadsAll ReadsIssue None parts.issues (Ok rows) → ReadsUltimate parts.at parts.ultimate (Err fault) → IsSelectBy parts (Err fault)
ultimate_refused parts rows fault a b c h = (Ok tt, a, (Ok tt, b, (Ok rows, c, (Err fault, h, refl))))

gapped : (issues : List Issue) (rows : List (List ℕ)) (u : Rates) (first_age : ℕ) (places : List ℕ) (gap : Option ℕ) → first_age ≡ first_issue_age issues → places ≡ map (λ one. one.at) issues
    → gap ≡ first_gap u first_age places rows → gap ≡ first_gap u (first_issue_age issues) (map (λ one. one.at) issues) rows
gapped issues rows u first_age places gap age_is places_are e =
    e ∙ ap (λ (n : ℕ). first_gap u n places rows) age_is ∙ ap (λ (s : List ℕ). first_gap u (first_issue_age issues) s rows) places_are

pub gap_refused : (parts : SelectParts) (rows : List (List ℕ)) (u : Rates) (first_age : ℕ) (places : List ℕ) (at : ℕ) → IsScale parts.factor (Ok tt) → IsScale parts.ultimate_factor (Ok tt)
    → ReadsAll ReadsIssue None parts.issues (Ok rows) → ReadsUltimate parts.at parts.ultimate (Ok u) → first_age ≡ first_issue_age parts.issues → places ≡ map (λ one. one.at) parts.issues
    → Some at ≡ first_gap u first_age places rows → IsSelectBy parts (Err (Bad at UltimateGap))
gap_refused parts rows u first_age places at a b c d age_is places_are e =
    let given : Selected = record { first_age = first_issue_age parts.issues; rows = rows; ultimate = u } in
    (Ok tt, a, (Ok tt, b, (Ok rows, c, (Ok u, d, ap (λ (gap : Option ℕ). without_gap gap given) (gapped parts.issues rows u first_age places (Some at) age_is places_are e)))))

pub joins : (parts : SelectParts) (rows : List (List ℕ)) (u : Rates) (first_age : ℕ) (places : List ℕ) → IsScale parts.factor (Ok tt) → IsScale parts.ultimate_factor (Ok tt)
    → ReadsAll ReadsIssue None parts.issues (Ok rows) → ReadsUltimate parts.at parts.ultimate (Ok u) → first_age ≡ first_issue_age parts.issues → places ≡ map (λ one. one.at) parts.issues
    → None ≡ first_gap u first_age places rows → IsSelectBy parts (Ok (record { first_age = first_age; rows = rows; ultimate = u }))
joins parts rows u first_age places a b c d age_is places_are e =
    let given : Selected = record { first_age = first_issue_age parts.issues; rows = rows; ultimate = u } in
    let whole = ap (λ (n : ℕ). Ok (record { first_age = n; rows = rows; ultimate = u })) age_is
    ∙ ap (λ (gap : Option ℕ). without_gap gap given) (gapped parts.issues rows u first_age places None age_is places_are e) in
    (Ok tt, a, (Ok tt, b, (Ok rows, c, (Ok u, d, whole))))

-- the issue ages, by the first axis of them
pub issues_by : (total : ℕ) (table axis first : Found) → issue_axes (found_asks total) table axis ≡ first ∷ siblings_at (codes "Axis") first
    → issues_from total first ≡ map (λ node. issue_age_of (found_asks total) node) (issue_axes (found_asks total) table axis)
issues_by total table axis first e = sym (ap (λ (found : List Found). map (λ node. issue_age_of (found_asks total) node) found) e)
