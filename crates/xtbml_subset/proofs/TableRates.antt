-- Rows that are read make the rates of a table.
use Rattle.xtbml_subset.proofs.Names.{◌≡◌, ℕ, zero, suc, ◌+◌, ◌<◌, ◌≤◌, Bool, true, false, cond, leb, List, [], ◌∷◌, length, get_or, Option, Some, None, Result, Ok, refl, sym, ap, subst, ◌⊎◌, inl, inr, arith, MatchBool, unwrap_or, eqb-true, leb-true, Rates, ONE, AreRates, TableFault, ◌>>=◌, RateElement, short_number, age_of, is_due, ReadsRate, rated, IsAged, ReadsAll, ReadsRow, first_age}
use Rattle.rate_table.specs.Faults.{IsFirstFault}
use Rattle.rate_table.specs.declared.fault.RatesFault.{RatesFault}
use Rattle.rate_table.specs.declared.fault.RatesFault.TheVariants.{Empty, PastAge130, RateAboveOne}
use Rattle.xtbml_subset.proofs.Options.{bind_some, chosen, some_is}
use Rattle.xtbml_subset.proofs.ReadingRuns.{first_of_all, ok_is_list}

abbrev ok_pair : {S : Type 0} → S × ℕ → Result (S × ℕ) TableFault
ok_pair x = Ok x

ok_is_pair : {S : Type 0} (x y : S × ℕ) → ok_pair x ≡ ok_pair y → x ≡ y
ok_is_pair x y e = cc

-- a row that is read
pub record IsRead (due : Option ℕ) (row : RateElement) (next : Option ℕ) (rate : ℕ) : Type 0 where
  pub age : ℕ
  pub age_is : age_of row.label ≡ Some age
  pub due_is : is_due due age ≡ true
  pub next_is : next ≡ Some (age + 1)
  pub rate_is : ReadsRate row.text (Some rate)

pub at_test : (b : Bool) (P Q : Type 0) → MatchBool b P Q → ((b ≡ true) × P) ⊎ ((b ≡ false) × Q)
at_test true P Q h = inl (refl, h)
at_test false P Q h = inr (refl, h)

pub rated_ok : {S : Type 0} (at : ℕ) (text : Option (List ℕ)) (given next : S) (rate : ℕ) (read : Option ℕ) → ReadsRate text read → ok_pair (next, rate) ≡ rated at given read
    → (next ≡ given) × ReadsRate text (Some rate)
rated_ok at text given next rate None reads e = absurd cc
rated_ok {S} at text given next rate (Some r) reads e =
    let p = ok_is_pair (next, rate) (given, r) e in
    let same : rate ≡ r = ap (λ (x : S × ℕ). x.1) p in
    (ap (λ (x : S × ℕ). x.0) p, subst (λ (n : ℕ). ReadsRate text (Some n)) (sym same) reads)

aged_ok : (due : Option ℕ) (row : RateElement) (found next : Option ℕ) (rate : ℕ) → age_of row.label ≡ found → IsAged due row found (Ok (next, rate)) → IsRead due row next rate
aged_ok due row None next rate e is = absurd cc
aged_ok due row (Some found) next rate e is =
    elim (at_test (is_due due found) _ _ is) [
      | inl h ↦
          let r = rated_ok row.at row.text (Some (found + 1)) next rate h.1.0 h.1.1 h.1.2 in
          record { age = found; age_is = e; due_is = h.0; next_is = r.0; rate_is = r.1 }
      | inr h ↦ absurd (let no_row = h.1 in cc)
    ]

pub row_ok : (due : Option ℕ) (row : RateElement) (next : Option ℕ) (rate : ℕ) → ReadsRow due row (Ok (next, rate)) → IsRead due row next rate
row_ok due row next rate is = aged_ok due row (age_of row.label) next rate refl is

pub age_bound : (label : Option (List ℕ)) (age : ℕ) → age_of label ≡ Some age → age ≤ 130
unfolding age_of
age_bound label age e =
    let b = bind_some (label >>= λ text. short_number text) (λ n. cond (leb n 130) (Some n) None) age e in
    elim (chosen (leb b.0 130) (Some b.0) None (Some age) b.2) [
      | inl h ↦ let same : b.0 ≡ age = some_is b.0 age h.1 in let low : b.0 ≤ 130 = leb-true b.0 130 h.0 in omega arith
      | inr h ↦ absurd (let no_age = h.1 in cc)
    ]

pub rate_bound : (text : Option (List ℕ)) (rate : ℕ) → ReadsRate text (Some rate) → rate ≤ 1000000000
rate_bound None rate reads = absurd cc
rate_bound (Some text) rate reads = reads.3

ages_bound : (rows : List RateElement) (due : ℕ) (rates : List ℕ) → due ≤ 131 → ReadsAll ReadsRow (Some due) rows (Ok rates) → due + length rates ≤ 131
ages_bound [] due rates low are = let none : rates ≡ [] = ok_is_list rates [] are in omega (arith, ap (λ (s : List ℕ). length s) none)
ages_bound (row ∷ rows) due rates low are =
    let f = first_of_all ReadsRow (Some due) row rows rates are in
    let r = row_ok (Some due) row f.next f.value f.read in
    let same : r.age ≡ due = eqb-true r.age due r.due_is in
    let old : r.age ≤ 130 = age_bound row.label r.age r.age_is in
    let others : ReadsAll ReadsRow (Some (r.age + 1)) rows (Ok f.more) = subst (λ (o : Option ℕ). ReadsAll ReadsRow o rows (Ok f.more)) r.next_is f.others in
    let more : (r.age + 1) + length f.more ≤ 131 = ages_bound rows (r.age + 1) f.more (omega arith) others in
    omega (arith, ap (λ (s : List ℕ). length s) f.all)

rates_bound : (rows : List RateElement) (due : Option ℕ) (rates : List ℕ) → ReadsAll ReadsRow due rows (Ok rates) → (k : ℕ) → k < length rates → get_or rates k 0 ≤ ONE
rates_bound [] due rates are k lt = let none : rates ≡ [] = ok_is_list rates [] are in absurd (omega (arith, ap (λ (s : List ℕ). length s) none))
rates_bound (row ∷ rows) due rates are k lt =
    let f = first_of_all ReadsRow due row rows rates are in
    let r = row_ok due row f.next f.value f.read in
    let P : List ℕ → Type 0 = λ s. (k : ℕ) → k < length s → get_or s k 0 ≤ ONE in
    subst P (sym f.all) (bound_at f.value f.more (rate_bound row.text f.value r.rate_is) (rates_bound rows f.next f.more f.others)) k lt
  where
    bound_at : (rate : ℕ) (more : List ℕ) → rate ≤ ONE → ((k : ℕ) → k < length more → get_or more k 0 ≤ ONE) → (k : ℕ) → k < length (rate ∷ more) → get_or (rate ∷ more) k 0 ≤ ONE
    bound_at rate more low others zero lt = low
    bound_at rate more low others (suc k) lt = others k (omega arith)

pub rows_make_rates : (rows : List RateElement) (rates : List ℕ) → 1 ≤ length rows → ReadsAll ReadsRow None rows (Ok rates) → AreRates (record { first_age = first_age rows; rates = rates })
rows_make_rates [] rates some are = absurd (omega arith)
rows_make_rates (row ∷ rows) rates some are =
    let f = first_of_all ReadsRow None row rows rates are in
    let r = row_ok None row f.next f.value f.read in
    let age_is : first_age (row ∷ rows) ≡ r.age = ap (λ (o : Option ℕ). unwrap_or o 0) r.age_is in
    let old : r.age ≤ 130 = age_bound row.label r.age r.age_is in
    let others : ReadsAll ReadsRow (Some (r.age + 1)) rows (Ok f.more) = subst (λ (o : Option ℕ). ReadsAll ReadsRow o rows (Ok f.more)) r.next_is f.others in
    let more : (r.age + 1) + length f.more ≤ 131 = ages_bound rows (r.age + 1) f.more (omega arith) others in
    let count : length rates ≡ suc (length f.more) = ap (λ (s : List ℕ). length s) f.all in
    record {
      some = omega arith;
      ages = omega arith;
      bound = rates_bound (row ∷ rows) None rates are;
    }

pub no_fault : (given : Rates) (fault : RatesFault) → AreRates given → IsFirstFault given fault → ⊥
no_fault given Empty are is = omega (arith, are.some)
no_fault given PastAge130 are is = omega (arith, are.ages)
no_fault given (RateAboveOne age) are is =
    let first = is.2.2 in
    omega (arith, are.bound is.2.0 first.within, first.above)
