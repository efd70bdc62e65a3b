-- The table of a select age as a value.
use Rattle.select_rates.proofs.Names.{◌≡◌, ℕ, ◌+◌, ◌-◌, ◌<◌, ◌≤◌, ◌++◌, List, length, drop, arith, ◌∙◌, sym, ap, refl, inl, inr, slice_index, slice_index_or, Rates, rate_at, Selected, IsSelectPeriod, AreJoined, IsJoined, ArePrepared}
use Rattle.std.proofs.lemmas.Bool.{cases_lt, lt-ltb}
use Rattle.std.proofs.lemmas.Grind.{common_steps}
use Rattle.std.proofs.lemmas.List.{ext_get_or, get_or-drop, get_or_default, get_or_past, get_or-append_right, get_or_append_left, length-append, length-drop}
use Rattle.select_rates.specs.Table.{select_table}

-- select rates, and after them the ultimate ones of the attained ages
abbrev joined_rates : Rates → ℕ → List ℕ → List ℕ
joined_rates ultimate age select = select ++ drop (age + length select - ultimate.first_age) ultimate.rates

count_is : (ultimate : Rates) (age : ℕ) (select rates : List ℕ) → IsSelectPeriod ultimate age select → AreJoined ultimate age select rates
    → length rates ≡ length (joined_rates ultimate age select)
count_is ultimate age select rates period are =
    let count = are.count in
    let joined = period.joined in
    let whole = length-append select (drop (age + length select - ultimate.first_age) ultimate.rates) in
    let rest = length-drop (age + length select - ultimate.first_age) ultimate.rates in
    grind (arith, common_steps)

each_is : (ultimate : Rates) (age : ℕ) (select rates : List ℕ) → IsSelectPeriod ultimate age select → AreJoined ultimate age select rates
    → (k : ℕ) → k < length rates → slice_index rates k ≡ slice_index (joined_rates ultimate age select) k
each_is ultimate age select rates period are k within =
    let behind = drop (age + length select - ultimate.first_age) ultimate.rates in
    are.each k within ∙ (elim (cases_lt k (length select)) [
      | inl before ↦ sym (get_or_append_left select behind 0 k before ∙ get_or_default select k 0 (rate_at ultimate (age + k)) before)
      | inr after ↦
          let count = are.count in
          let joined = period.joined (grind (arith, common_steps)) in
          sym (get_or-append_right select behind (length select) k 0 (omega arith) (omega arith)
          ∙ get_or-drop (age + length select - ultimate.first_age) ultimate.rates (k - length select) 0
          ∙ ap (λ i. slice_index ultimate.rates i) (omega arith)
          ∙ sym (get_or_past select k (rate_at ultimate (age + k)) (omega arith)))
    ])

pub joined_is : (ultimate : Rates) (age : ℕ) (select : List ℕ) (given : Rates) → IsSelectPeriod ultimate age select → IsJoined ultimate age select given
    → given ≡ record { first_age = age; rates = joined_rates ultimate age select }
joined_is ultimate age select given period is =
    let rates = ext_get_or 0 given.rates (joined_rates ultimate age select) (count_is ultimate age select given.rates period is.rates)
    (each_is ultimate age select given.rates period is.rates) in
    same given (joined_rates ultimate age select) is.first rates
  where
    same : (given : Rates) (rates : List ℕ) → given.first_age ≡ age → given.rates ≡ rates → given ≡ record { first_age = age; rates = rates }
    same given rates first are = rw (← first, ← are) refl

-- the prepared table of a select age
pub prepared_is : (table : Selected) (tables : List Rates) (age : ℕ) (d : Rates) → ArePrepared table tables → table.first_age ≤ age
    → age - table.first_age < length tables → slice_index_or tables (age - table.first_age) d ≡ select_table table age
prepared_is table tables age d are least within =
    let count = are.count in
    let is = are.each (age - table.first_age) d within in
    let below : age < table.first_age + length table.rows = omega (arith, count) in
    let place : table.first_age + (age - table.first_age) ≡ age = omega arith in
    let here = rw place at is in
    let period = are.selected.periods age (least, below) in
    rw (lt-ltb age (table.first_age + length table.rows) below) (joined_is table.ultimate age _ _ period here)
