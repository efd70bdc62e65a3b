-- Select rates that are read, with no gap before the ultimate ones, make a table with these.
use Rattle.xtbml_subset.proofs.Names.{◌≡◌, ℕ, zero, suc, ◌+◌, ◌-◌, ◌<◌, ◌≤◌, true, false, leb, ltb, List, [], ◌∷◌, length, map, get_or, Option, Some, None, Result, Ok, Err, refl, sym, ap, subst, ◌∙◌, inl, inr, arith, unwrap_or, eqb-true, leb-true, le-leb, ltb-false, and_parts, and_cases, true≢false, length-map, Rates, ONE, last_age_of, IsSelectPeriod, AreSelected, TableFault, BadDuration, Bad, Attained, RateElement, age_of, is_due, Issue, Further, ReadsAll, short_number, ◌>>=◌, follows, is_duration, timed, IsTimed, ReadsDuration, ReadsPeriod, IsIssuedAt, ReadsIssue, first_issue_age, leaves_gap, first_gap}
use Rattle.xtbml_subset.proofs.Options.{chosen}
use Rattle.xtbml_subset.proofs.TableRates.{at_test, rated_ok, age_bound, rate_bound}
use Rattle.xtbml_subset.proofs.ReadingRuns.{first_of_all, ok_is_list, all_count}

-- ---- the rates of an issue age

record IsTimely (due next : Attained) (rate : ℕ) : Type 0 where
  young : due.age ≤ 130
  next_is : next.age ≡ due.age + 1
  low : rate ≤ 1000000000

timely : (due next : Attained) (row : RateElement) (rate : ℕ) → ReadsDuration due row (Ok (next, rate)) → IsTimely due next rate
timely due next row rate is = at (row.label >>= λ text. short_number text) is
  where
    at : (o : Option ℕ) → IsTimed due row o (Ok (next, rate)) → IsTimely due next rate
    at None e = absurd cc
    at (Some duration) read =
        elim (at_test (is_duration due duration) _ _ read) [
          | inl h ↦
              let r = rated_ok row.at row.text (timed due.age duration) next rate h.1.0 h.1.1 h.1.2 in
              record { young = leb-true due.age 130 (and_parts (follows due.duration duration) (leb due.age 130) h.0).1; next_is = ap (λ (x : Attained). x.age) r.0; low = rate_bound row.text rate r.1 }
          | inr h ↦ absurd (let no_rate = h.1 in cc)
        ]

-- no rate is past age 130, none is above 1
record IsPeriodFrom (age : ℕ) (rates : List ℕ) : Type 0 where
  ages : age + length rates ≤ 131
  bound : (k : ℕ) → k < length rates → get_or rates k 0 ≤ ONE

bound_at : (rate : ℕ) (more : List ℕ) → rate ≤ ONE → ((k : ℕ) → k < length more → get_or more k 0 ≤ ONE) → (k : ℕ) → k < length (rate ∷ more) → get_or (rate ∷ more) k 0 ≤ ONE
bound_at rate more low others zero lt = low
bound_at rate more low others (suc k) lt = others k (omega arith)

period_from : (rows : List RateElement) (due : Attained) (rates : List ℕ) → due.age ≤ 131 → ReadsAll ReadsDuration due rows (Ok rates) → IsPeriodFrom due.age rates
period_from [] due rates young are =
    let none : rates ≡ [] = ok_is_list rates [] are in
    subst (λ (s : List ℕ). IsPeriodFrom due.age s) (sym none) (record { ages = omega arith; bound = λ k lt. absurd (omega arith) })
period_from (row ∷ rows) due rates young are =
    let f = first_of_all ReadsDuration due row rows rates are in
    let t = timely due f.next row f.value f.read in
    let age : due.age ≤ 130 = t.young in
    let next : f.next.age ≡ due.age + 1 = t.next_is in
    let more = period_from rows f.next f.more (omega arith) f.others in
    let ages : f.next.age + length f.more ≤ 131 = more.ages in
    subst (λ (s : List ℕ). IsPeriodFrom due.age s) (sym f.all) (record { ages = omega arith; bound = bound_at f.value f.more t.low more.bound })

-- ---- an issue age

abbrev ok_issue : Option ℕ × List ℕ → Result (Option ℕ × List ℕ) TableFault
ok_issue x = Ok x

ok_is_issue : (x y : Option ℕ × List ℕ) → ok_issue x ≡ ok_issue y → x ≡ y
ok_is_issue x y e = cc

record IsIssueRead (due : Option ℕ) (issue : Issue) (next : Option ℕ) (rates : List ℕ) : Type 0 where
  age : ℕ
  age_is : age_of issue.label ≡ Some age
  due_is : is_due due age ≡ true
  next_is : next ≡ Some (age + 1)
  some : 1 ≤ length rates
  period : IsPeriodFrom age rates

record IsPeriodRead (age : ℕ) (next : Option ℕ) (rates : List ℕ) : Type 0 where
  next_is : next ≡ Some (age + 1)
  some : 1 ≤ length rates
  period : IsPeriodFrom age rates

period_read : (at age : ℕ) (rows : List RateElement) (next : Option ℕ) (rates : List ℕ) → age ≤ 130 → ReadsPeriod at age rows (Ok (next, rates)) → IsPeriodRead age next rates
period_read at age [] next rates young e = absurd cc
period_read at age (row ∷ rows) next rates young h = by h.0 h.1 h.2
  where
    begin : Attained
    begin = record { duration = None; age = age }

    by : (one : Result (List ℕ) TableFault) → ReadsAll ReadsDuration (record { duration = None; age = age }) (row ∷ rows) one
        → Further {B = Option ℕ × List ℕ} (λ (all : List ℕ) whole. whole ≡ Ok (Some (age + 1), all)) one (Ok (next, rates)) → IsPeriodRead age next rates
    by (Err fault) are e = absurd cc
    by (Ok all) are e =
        let p = ok_is_issue (next, rates) (Some (age + 1), all) e in
        let same : rates ≡ all = ap (λ (x : Option ℕ × List ℕ). x.1) p in
        let f = first_of_all ReadsDuration (record { duration = None; age = age }) row rows all are in
        let count : length rates ≡ suc (length f.more) = ap (λ (s : List ℕ). length s) (same ∙ f.all) in
        record {
          next_is = ap (λ (x : Option ℕ × List ℕ). x.0) p;
          some = omega arith;
          period = subst (λ (s : List ℕ). IsPeriodFrom age s) (sym same) (period_from (row ∷ rows) (record { duration = None; age = age }) all (omega arith) are);
        }

issue_read : (due : Option ℕ) (issue : Issue) (next : Option ℕ) (rates : List ℕ) → ReadsIssue due issue (Ok (next, rates)) → IsIssueRead due issue next rates
issue_read due issue next rates is = at (age_of issue.label) refl is
  where
    at : (o : Option ℕ) → age_of issue.label ≡ o → IsIssuedAt due issue o (Ok (next, rates)) → IsIssueRead due issue next rates
    at None e none = absurd cc
    at (Some age) e read =
        elim (at_test (is_due due age) _ _ read) [
          | inl h ↦
              let p = period_read issue.at age issue.rates next rates (age_bound issue.label age e) h.1 in
              record { age = age; age_is = e; due_is = h.0; next_is = p.next_is; some = p.some; period = p.period }
          | inr h ↦ absurd (let no_issue = h.1 in cc)
        ]

-- ---- gaps

no_gap : (u : Rates) (age : ℕ) → leaves_gap u age ≡ false → age ≤ last_age_of u → u.first_age ≤ age
no_gap u age e low =
    elim (and_cases (leb age (last_age_of u)) (ltb age u.first_age) e) [
      | inl h ↦ absurd (true≢false (sym (le-leb age (last_age_of u) low) ∙ h))
      | inr h ↦ ltb-false age u.first_age h
    ]

period_joined : (u : Rates) (age : ℕ) (rates : List ℕ) → 1 ≤ length rates → IsPeriodFrom age rates → leaves_gap u (age + length rates) ≡ false → IsSelectPeriod u age rates
period_joined u age rates some period e =
    record { some = some; bound = period.bound; ages = period.ages; joined = λ low. no_gap u (age + length rates) e low }

abbrev pub PeriodsFrom : Rates → ℕ → List (List ℕ) → Type 0
PeriodsFrom u age rows = (k : ℕ) → k < length rows → IsSelectPeriod u (age + k) (get_or rows k [])

periods_more : (u : Rates) (age : ℕ) (row : List ℕ) (rows : List (List ℕ)) → IsSelectPeriod u age row → PeriodsFrom u (age + 1) rows → PeriodsFrom u age (row ∷ rows)
periods_more u age row rows one others zero lt = let same : age ≡ age + 0 = omega arith in subst (λ (n : ℕ). IsSelectPeriod u n row) same one
periods_more u age row rows one others (suc k) lt =
    let same : (age + 1) + k ≡ age + suc k = omega arith in
    subst (λ (n : ℕ). IsSelectPeriod u n (get_or rows k [])) same (others k (omega arith))

first_ungapped : (u : Rates) (age at : ℕ) (places : List ℕ) (row : List ℕ) (rows : List (List ℕ)) → first_gap u age (at ∷ places) (row ∷ rows) ≡ None
    → (leaves_gap u (age + length row) ≡ false) × (first_gap u (age + 1) places rows ≡ None)
first_ungapped u age at places row rows e =
    elim (chosen (leaves_gap u (age + length row)) (Some at) (first_gap u (age + 1) places rows) None e) [
      | inl h ↦ absurd (let no_none = h.1 in cc)
      | inr h ↦ h
    ]

abbrev places_of : List Issue → List ℕ
places_of issues = map (λ issue. issue.at) issues

periods : (u : Rates) (issues : List Issue) (due : Option ℕ) (age : ℕ) (rows : List (List ℕ)) → ((n : ℕ) → is_due due n ≡ true → n ≡ age) → ReadsAll ReadsIssue due issues (Ok rows)
    → first_gap u age (places_of issues) rows ≡ None → PeriodsFrom u age rows
periods u [] due age rows dues are e =
    let none : rows ≡ [] = ok_is_list rows [] are in
    let counted : length rows ≡ 0 = ap (λ (s : List (List ℕ)). length s) none in
    λ k lt. absurd (omega arith)
periods u (issue ∷ issues) due age rows dues are e =
    let f = first_of_all ReadsIssue due issue issues rows are in
    let i = issue_read due issue f.next f.value f.read in
    let same : i.age ≡ age = dues i.age i.due_is in
    let e2 : first_gap u age (issue.at ∷ places_of issues) (f.value ∷ f.more) ≡ None = subst (λ (s : List (List ℕ)). first_gap u age (issue.at ∷ places_of issues) s ≡ None) f.all e in
    let g = first_ungapped u age issue.at (places_of issues) f.value f.more e2 in
    let one : IsSelectPeriod u age f.value = period_joined u age f.value i.some (subst (λ (n : ℕ). IsPeriodFrom n f.value) same i.period) g.0 in
    let next_is : f.next ≡ Some (age + 1) = i.next_is ∙ ap (λ (n : ℕ). Some (n + 1)) same in
    let others : PeriodsFrom u (age + 1) f.more =
    periods u issues f.next (age + 1) f.more (λ n is. eqb-true n (age + 1) (subst (λ (o : Option ℕ). is_due o n ≡ true) next_is is)) f.others g.1 in
    subst (λ (s : List (List ℕ)). PeriodsFrom u age s) (sym f.all) (periods_more u age f.value f.more one others)

first_periods : (u : Rates) (issue : Issue) (issues : List Issue) (rows : List (List ℕ)) → ReadsAll ReadsIssue None (issue ∷ issues) (Ok rows)
    → first_gap u (first_issue_age (issue ∷ issues)) (places_of (issue ∷ issues)) rows ≡ None → (1 ≤ length rows) × PeriodsFrom u (first_issue_age (issue ∷ issues)) rows
first_periods u issue issues rows are e =
    let f = first_of_all ReadsIssue None issue issues rows are in
    let i = issue_read None issue f.next f.value f.read in
    let age_is : first_issue_age (issue ∷ issues) ≡ i.age = ap (λ (o : Option ℕ). unwrap_or o 0) i.age_is in
    let e1 : first_gap u i.age (issue.at ∷ places_of issues) rows ≡ None = subst (λ (n : ℕ). first_gap u n (issue.at ∷ places_of issues) rows ≡ None) age_is e in
    let e2 : first_gap u i.age (issue.at ∷ places_of issues) (f.value ∷ f.more) ≡ None = subst (λ (s : List (List ℕ)). first_gap u i.age (issue.at ∷ places_of issues) s ≡ None) f.all e1 in
    let g = first_ungapped u i.age issue.at (places_of issues) f.value f.more e2 in
    let one : IsSelectPeriod u i.age f.value = period_joined u i.age f.value i.some i.period g.0 in
    let others : PeriodsFrom u (i.age + 1) f.more =
    periods u issues f.next (i.age + 1) f.more (λ n is. eqb-true n (i.age + 1) (subst (λ (o : Option ℕ). is_due o n ≡ true) i.next_is is)) f.others g.1 in
    let all : PeriodsFrom u i.age rows = subst (λ (s : List (List ℕ)). PeriodsFrom u i.age s) (sym f.all) (periods_more u i.age f.value f.more one others) in
    let count : length rows ≡ suc (length f.more) = ap (λ (s : List (List ℕ)). length s) f.all in
    (omega arith, subst (λ (n : ℕ). PeriodsFrom u n rows) (sym age_is) all)

pub are_selected : (u : Rates) (issue : Issue) (issues : List Issue) (rows : List (List ℕ)) → ReadsAll ReadsIssue None (issue ∷ issues) (Ok rows)
    → first_gap u (first_issue_age (issue ∷ issues)) (map (λ one. one.at) (issue ∷ issues)) rows ≡ None
    → AreSelected (record { first_age = first_issue_age (issue ∷ issues); rows = rows; ultimate = u })
are_selected u issue issues rows are e =
    let first = first_issue_age (issue ∷ issues) in
    let p = first_periods u issue issues rows are e in
    record {
      some = p.0;
      periods = λ age is.
          let same : first + (age - first) ≡ age = (let low : first ≤ age = is.0 in omega arith) in
          let within : age - first < length rows = (let high : age < first + length rows = is.1 in omega arith) in
          subst (λ (n : ℕ). IsSelectPeriod u n (get_or rows (age - first) [])) same (p.1 (age - first) within);
    }

-- ---- the first gap, by places

pub no_gaps : (u : Rates) (age : ℕ) (places : List ℕ) (rows : List (List ℕ)) → ((k : ℕ) → k < length rows → leaves_gap u (age + k + length (get_or rows k [])) ≡ false)
    → first_gap u age places rows ≡ None
no_gaps u age [] rows all = refl
no_gaps u age (at ∷ places) [] all = refl
no_gaps u age (at ∷ places) (row ∷ rows) all =
    let here : leaves_gap u (age + length row) ≡ false = (let same : age + 0 + length row ≡ age + length row = omega arith in subst (λ (n : ℕ). leaves_gap u n ≡ false) same (all 0 (omega arith))) in
    let later : first_gap u (age + 1) places rows ≡ None = no_gaps u (age + 1) places rows
    (λ k lt.
    let same : age + suc k + length (get_or rows k []) ≡ age + 1 + k + length (get_or rows k []) = omega arith in
    subst (λ (n : ℕ). leaves_gap u n ≡ false) same (all (suc k) (omega arith))) in
    rw (here, later) refl

pub gap_at : (u : Rates) (i : ℕ) (age : ℕ) (places : List ℕ) (rows : List (List ℕ)) → length places ≡ length rows → i < length rows
    → ((k : ℕ) → k < i → leaves_gap u (age + k + length (get_or rows k [])) ≡ false) → leaves_gap u (age + i + length (get_or rows i [])) ≡ true
    → first_gap u age places rows ≡ Some (get_or places i 0)
gap_at u i age places [] same within before here = absurd (omega arith)
gap_at u i age [] (row ∷ rows) same within before here = absurd (omega arith)
gap_at u zero age (at ∷ places) (row ∷ rows) same within before here =
    let gap : leaves_gap u (age + length row) ≡ true = (let same : age + 0 + length row ≡ age + length row = omega arith in subst (λ (n : ℕ). leaves_gap u n ≡ true) same here) in
    rw gap refl
gap_at u (suc i) age (at ∷ places) (row ∷ rows) same within before here =
    let none : leaves_gap u (age + length row) ≡ false = (let same : age + 0 + length row ≡ age + length row = omega arith in subst (λ (n : ℕ). leaves_gap u n ≡ false) same (before 0 (omega arith))) in
    let later : first_gap u (age + 1) places rows ≡ Some (get_or places i 0) = gap_at u i (age + 1) places rows (omega arith) (omega arith)
    (λ k lt.
    let moved : age + suc k + length (get_or rows k []) ≡ age + 1 + k + length (get_or rows k []) = omega arith in
    subst (λ (n : ℕ). leaves_gap u n ≡ false) moved (before (suc k) (omega arith)))
    (let moved : age + suc i + length (get_or rows i []) ≡ age + 1 + i + length (get_or rows i []) = omega arith in subst (λ (n : ℕ). leaves_gap u n ≡ true) moved here) in
    rw (none, later) refl

-- ---- what the reader asks

pub as_many : (issues : List Issue) (rows : List (List ℕ)) (places : List ℕ) → ReadsAll ReadsIssue None issues (Ok rows) → places ≡ map (λ issue. issue.at) issues → length places ≡ length rows
as_many issues rows places are same =
    ap (λ (s : List ℕ). length s) same ∙ length-map issues (λ (issue : Issue). issue.at) ∙ all_count ReadsIssue issues None rows are

pub ready : (u : Rates) (issue : Issue) (issues : List Issue) (rows : List (List ℕ)) (first_age : ℕ) (places : List ℕ) → ReadsAll ReadsIssue None (issue ∷ issues) (Ok rows)
    → first_age ≡ first_issue_age (issue ∷ issues) → places ≡ map (λ one. one.at) (issue ∷ issues) → None ≡ first_gap u first_age places rows
    → AreSelected (record { first_age = first_age; rows = rows; ultimate = u })
ready u issue issues rows first_age places are age_is places_are none =
    let e1 : first_gap u (first_issue_age (issue ∷ issues)) places rows ≡ None = subst (λ (n : ℕ). first_gap u n places rows ≡ None) age_is (sym none) in
    let e2 : first_gap u (first_issue_age (issue ∷ issues)) (map (λ one. one.at) (issue ∷ issues)) rows ≡ None
    = subst (λ (s : List ℕ). first_gap u (first_issue_age (issue ∷ issues)) s rows ≡ None) places_are e1 in
    subst (λ (n : ℕ). AreSelected (record { first_age = n; rows = rows; ultimate = u })) (sym age_is) (are_selected u issue issues rows are e2)

-- no select rate is past age 130
abbrev pub AgesFrom : ℕ → List (List ℕ) → Type 0
AgesFrom age rows = (k : ℕ) → k < length rows → age + k + length (get_or rows k []) ≤ 131

ages_more : (age : ℕ) (row : List ℕ) (rows : List (List ℕ)) → age + length row ≤ 131 → AgesFrom (age + 1) rows → AgesFrom age (row ∷ rows)
ages_more age row rows one others zero lt = omega arith
ages_more age row rows one others (suc k) lt =
    let later : (age + 1) + k + length (get_or rows k []) ≤ 131 = others k (omega arith) in
    omega arith

ages_from : (issues : List Issue) (due : Option ℕ) (age : ℕ) (rows : List (List ℕ)) → ((n : ℕ) → is_due due n ≡ true → n ≡ age) → ReadsAll ReadsIssue due issues (Ok rows) → AgesFrom age rows
ages_from [] due age rows dues are =
    let none : rows ≡ [] = ok_is_list rows [] are in
    let counted : length rows ≡ 0 = ap (λ (s : List (List ℕ)). length s) none in
    λ k lt. absurd (omega arith)
ages_from (issue ∷ issues) due age rows dues are =
    let f = first_of_all ReadsIssue due issue issues rows are in
    let i = issue_read due issue f.next f.value f.read in
    let same : i.age ≡ age = dues i.age i.due_is in
    let next_is : f.next ≡ Some (age + 1) = i.next_is ∙ ap (λ (n : ℕ). Some (n + 1)) same in
    let ages : i.age + length f.value ≤ 131 = i.period.ages in
    let others : AgesFrom (age + 1) f.more =
    ages_from issues f.next (age + 1) f.more (λ n is. eqb-true n (age + 1) (subst (λ (o : Option ℕ). is_due o n ≡ true) next_is is)) f.others in
    subst (λ (s : List (List ℕ)). AgesFrom age s) (sym f.all) (ages_more age f.value f.more (omega arith) others)

pub first_ages : (issue : Issue) (issues : List Issue) (rows : List (List ℕ)) (first_age : ℕ) → ReadsAll ReadsIssue None (issue ∷ issues) (Ok rows) → first_age ≡ first_issue_age (issue ∷ issues)
    → AgesFrom first_age rows
first_ages issue issues rows first_age are age_is =
    let f = first_of_all ReadsIssue None issue issues rows are in
    let i = issue_read None issue f.next f.value f.read in
    let same : first_age ≡ i.age = age_is ∙ ap (λ (o : Option ℕ). unwrap_or o 0) i.age_is in
    let next_is : f.next ≡ Some (first_age + 1) = i.next_is ∙ ap (λ (n : ℕ). Some (n + 1)) (sym same) in
    let ages : i.age + length f.value ≤ 131 = i.period.ages in
    let others : AgesFrom (first_age + 1) f.more =
    ages_from issues f.next (first_age + 1) f.more (λ n is. eqb-true n (first_age + 1) (subst (λ (o : Option ℕ). is_due o n ≡ true) next_is is)) f.others in
    subst (λ (s : List (List ℕ)). AgesFrom first_age s) (sym f.all) (ages_more first_age f.value f.more (omega arith) others)

-- ---- the rates of an issue age, by those of its rows

abbrev pub begins : ℕ → Attained
begins age = record { duration = None; age = age }

pub period_none : (at age : ℕ) (rows : List RateElement) → ReadsAll ReadsDuration (begins age) rows (Ok []) → ReadsPeriod at age rows (Err (Bad at BadDuration))
period_none at age [] are = refl
period_none at age (row ∷ rows) are =
    let f = first_of_all ReadsDuration (begins age) row rows [] are in
    let all = f.all in
    absurd cc

pub period_some : (at age : ℕ) (rows : List RateElement) (rates : List ℕ) → ReadsAll ReadsDuration (begins age) rows (Ok rates) → (rates ≡ [] → ⊥) → ReadsPeriod at age rows (Ok (Some (age + 1), rates))
period_some at age [] rates are some = absurd (some (ok_is_list rates [] are))
period_some at age (row ∷ rows) rates are some = (Ok rates, are, refl)

pub period_fault : (at age : ℕ) (rows : List RateElement) (fault : TableFault) → ReadsAll ReadsDuration (begins age) rows (Err fault) → ReadsPeriod at age rows (Err fault)
period_fault at age [] fault are = absurd cc
period_fault at age (row ∷ rows) fault are = (Err fault, are, refl)
