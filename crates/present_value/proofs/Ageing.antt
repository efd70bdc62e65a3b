-- A column by the attained age, year by year.
use Rattle.present_value.proofs.Names.{◌≡◌, ℕ, ◌+◌, ◌-◌, ◌*◌, ◌<◌, ◌≤◌, refl, ap, sym, ◌∙◌, arith, List, length, get_or, EachIndex, slice_set, Bool, true, false, if◌then◌else◌, add-zero, length-set, Rates, ONE, rate_at, AreRatesFrom, UNIT, cover_of, ben_bound, pair_of, pair_at, cover_to, benefits_to, premiums_to, value_to, IsOf, IsStarted, IsColumn, CanEnd}
use Rattle.std.proofs.Math.Nat.{le_trans, mul-le-mul_right}
use Rattle.rate_table.specs.declared.shape.Shape.{Shape}
use Rattle.present_value.specs.declared.column.Column.{Column}
use Rattle.present_value.specs.declared.pair.Pair.{Pair}
use Rattle.present_value.specs.declared.column.Stream.{Stream}
use Rattle.present_value.specs.declared.column.Stream.TheVariants.{Insurance, Endowment, Annuity}
use Rattle.present_value.specs.inside.Earlier.{benefits_earlier, premiums_earlier, earlier, most, end_payment}
use Rattle.present_value.proofs.Steps.{ann-after, ben_lo-most, ben_hi-most, ann_lo-most, ann_hi-most}
use Rattle.present_value.proofs.Places.{ben_pair-before, ann_pair-before, put}
use Rattle.present_value.proofs.Ends.{benefits_are, premiums_are}

-- a value from that of the next age
benefits_to-earlier : (table : Rates) (bp : ℕ) (matures : Bool) (end age : ℕ) → age < end
    → benefits_earlier (rate_at table age) (ONE * (10000 + bp)) (benefits_to table bp matures end (age + 1)) ≡ benefits_to table bp matures end age
benefits_to-earlier table bp matures end age below =
    let shape : Shape = record { age = age; n = end - age; h = end - age; matures = matures } in
    let same : age + (end - age) ≡ end = omega arith in
    let later = rw same at (benefits_are table shape bp 1 (omega arith)) in
    ben_pair-before (cover_of table shape bp) 0 (rate_at table age) (ONE * (10000 + bp)) (benefits_to table bp matures end (age + 1))
    (benefits_earlier (rate_at table age) (ONE * (10000 + bp)) (benefits_to table bp matures end (age + 1)))
    (omega arith) (ap (λ k. rate_at table k) (sym (add-zero age))) refl (sym later) refl refl

premiums_to-earlier : (table : Rates) (bp end age : ℕ) → age < end
    → premiums_earlier (rate_at table age) (ONE * (10000 + bp)) (premiums_to table bp end (age + 1)) ≡ premiums_to table bp end age
premiums_to-earlier table bp end age below =
    let shape : Shape = record { age = age; n = end - age; h = end - age; matures = true } in
    let same : age + (end - age) ≡ end = omega arith in
    let later = rw same at (premiums_are table shape bp 1 (omega arith) (omega arith)) in
    ann_pair-before (cover_of table shape bp) 0 (rate_at table age) (ONE * (10000 + bp)) (premiums_to table bp end (age + 1))
    (premiums_earlier (rate_at table age) (ONE * (10000 + bp)) (premiums_to table bp end (age + 1)))
    (omega arith) (omega arith) (ap (λ k. rate_at table k) (sym (add-zero age))) refl (sym later) refl refl

pub value_to-earlier : (table : Rates) (bp : ℕ) (stream : Stream) (end age : ℕ) → age < end
    → earlier stream (rate_at table age) (ONE * (10000 + bp)) (value_to table bp stream end (age + 1)) ≡ value_to table bp stream end age
value_to-earlier table bp Insurance end age below = benefits_to-earlier table bp false end age below
value_to-earlier table bp Endowment end age below = benefits_to-earlier table bp true end age below
value_to-earlier table bp Annuity end age below = premiums_to-earlier table bp end age below

-- a stream that ends at once
benefits_to-end : (table : Rates) (bp : ℕ) (matures : Bool) (end : ℕ)
    → benefits_to table bp matures end end ≡ pair_of (if matures then UNIT else 0) (if matures then UNIT else 0)
unfolding ben_bound
benefits_to-end table bp matures end = let none : end - end - 0 ≡ 0 = omega arith in rw none refl

pub value_to-end : (table : Rates) (bp : ℕ) (stream : Stream) (end : ℕ) → value_to table bp stream end end ≡ pair_of (end_payment stream) (end_payment stream)
value_to-end table bp Insurance end = benefits_to-end table bp false end
value_to-end table bp Endowment end = benefits_to-end table bp true end
value_to-end table bp Annuity end = ann-after (cover_to table bp true end end) 0 (omega arith) (omega arith)

-- a column that knows its last value is right by each table
pub started : (stream : Stream) (end : ℕ) (column : Column) → IsOf column stream end → column.from ≡ end → end ≤ 131 → length column.pairs ≡ 132
    → pair_at column.pairs end ≡ pair_of (end_payment stream) (end_payment stream) → IsStarted stream end column
started stream end column is_of from few places paid = record {
  is_of = is_of;
  is_column = λ table bp. record {
    places = places;
    end = omega (arith, is_of.1);
    from = omega (arith, is_of.1);
    done = λ age least most.
        let last : age ≡ end = omega (arith, is_of.1) in
        rw (last, is_of.0, is_of.1) (paid ∙ sym (value_to-end table bp stream end));
  };
}

-- the rates of a table from an age on are at most 1
pub rates_to_most : (table : Rates) (low end age : ℕ) (rates : List ℕ) → AreRatesFrom table low rates → EachIndex rates (λ k. get_or rates k 0 ≤ ONE)
    → low ≤ age → end ≤ low + length rates → (k : ℕ) → k < end - age → rate_at table (age + k) ≤ ONE
rates_to_most table low end age rates from bound least last k below =
    let place : low + (age + k - low) ≡ age + k = omega arith in
    let within : age + k - low < length rates = omega arith in
    rw (← place) (rw (from.each (age + k - low) within) at (bound (age + k - low) within))

-- how large the values are
benefits_to-most : (table : Rates) (bp : ℕ) (matures : Bool) (end age : ℕ) → ((k : ℕ) → k < end - age → rate_at table (age + k) ≤ ONE)
    → ((benefits_to table bp matures end age).lo ≤ UNIT) × ((benefits_to table bp matures end age).hi ≤ UNIT)
benefits_to-most table bp matures end age rates =
    let c = cover_to table bp matures end age in
    (ben_lo-most c 0 (omega arith) rates, ben_hi-most c 0 rates)

premiums_to-most : (table : Rates) (bp end age : ℕ) → end ≤ 131
    → ((premiums_to table bp end age).lo ≤ UNIT * 131) × ((premiums_to table bp end age).hi ≤ UNIT * 131)
premiums_to-most table bp end age few =
    let c = cover_to table bp true end age in
    let years : end - age - 0 ≤ 131 = omega arith in
    let all : (end - age - 0) * UNIT ≤ UNIT * 131 = omega (arith, mul-le-mul_right UNIT years) in
    (le_trans (ann_lo-most c 0 (omega arith) (omega arith)) all, le_trans (ann_hi-most c 0) all)

pub value_to-most : (table : Rates) (bp : ℕ) (stream : Stream) (end age : ℕ) → end ≤ 131 → ((k : ℕ) → k < end - age → rate_at table (age + k) ≤ ONE)
    → ((value_to table bp stream end age).lo ≤ most stream) × ((value_to table bp stream end age).hi ≤ most stream)
value_to-most table bp Insurance end age few rates = benefits_to-most table bp false end age rates
value_to-most table bp Endowment end age few rates = benefits_to-most table bp true end age rates
value_to-most table bp Annuity end age few rates = premiums_to-most table bp end age few

-- the same for the value of a later age, which is at hand
pub next_most : (table : Rates) (bp : ℕ) (stream : Stream) (end age t : ℕ) (pair : Pair) (rates : List ℕ) → pair ≡ value_to table bp stream end (age + t)
    → CanEnd table bp end age → AreRatesFrom table age rates → EachIndex rates (λ k. get_or rates k 0 ≤ ONE) → age + length rates ≤ 131
    → (pair.lo ≤ most stream) × (pair.hi ≤ most stream)
next_most table bp stream end age t pair rates is can from bound few =
    let last : end ≤ age + length rates = omega (arith, from.count, can.last) in
    rw is (value_to-most table bp stream end (age + t) (omega (arith, few)) (rates_to_most table age end (age + t) rates from bound (omega arith) last))

-- a column goes down by a year
pub gone_down : (table : Rates) (bp : ℕ) (column : Column) (pair : Pair) → IsColumn table bp column → 0 < column.from
    → pair ≡ earlier column.stream (rate_at table (column.from - 1)) (ONE * (10000 + bp)) (pair_at column.pairs column.from)
    → IsColumn table bp (record { stream = column.stream; end = column.end; from = column.from - 1; pairs = slice_set column.pairs (column.from - 1) pair })
gone_down table bp column pair is above new =
    let value : ℕ → Pair = λ k. value_to table bp column.stream column.end k in
    let place : column.from ≡ column.from - 1 + 1 = omega arith in
    let later = is.done column.from (omega arith) is.from in
    let step = value_to-earlier table bp column.stream column.end (column.from - 1) (omega (arith, is.from)) in
    let later' : pair_at column.pairs column.from ≡ value (column.from - 1 + 1) = later ∙ ap value place in
    let here : pair ≡ value (column.from - 1) =
    new ∙ ap (λ p. earlier column.stream (rate_at table (column.from - 1)) (ONE * (10000 + bp)) p) later' ∙ step in
    record {
      places = length-set column.pairs (column.from - 1) pair ∙ is.places;
      end = is.end;
      from = omega (arith, is.from);
      done = λ age least most. put column.pairs pair value (column.from - 1) (omega (arith, is.places, is.end, is.from)) here age (λ other. is.done age (omega arith) most);
    }

-- the last known value of a column is no larger than it may be
pub last_most : (table : Rates) (bp : ℕ) (column : Column) (age : ℕ) (rates : List ℕ) → IsColumn table bp column → CanEnd table bp column.end age → age < column.from
    → AreRatesFrom table age rates → EachIndex rates (λ k. get_or rates k 0 ≤ ONE)
    → ((pair_at column.pairs column.from).lo ≤ most column.stream) × ((pair_at column.pairs column.from).hi ≤ most column.stream)
last_most table bp column age rates is can below from bound =
    let last : column.end ≤ age + length rates = omega (arith, from.count, can.last) in
    rw (is.done column.from (omega arith) is.from)
    (value_to-most table bp column.stream column.end column.from is.end
    (rates_to_most table age column.end column.from rates from bound (omega arith) last))

-- the rate of the year before the column's lowest age
pub rate_below : (table : Rates) (bp : ℕ) (column : Column) (age : ℕ) (rates : List ℕ) → IsColumn table bp column → CanEnd table bp column.end age → age < column.from
    → AreRatesFrom table age rates → (column.from - 1 - age < length rates) × (get_or rates (column.from - 1 - age) 0 ≡ rate_at table (column.from - 1))
rate_below table bp column age rates is can below from =
    let within : column.from - 1 - age < length rates = omega (arith, from.count, can.last, is.from) in
    let place : age + (column.from - 1 - age) ≡ column.from - 1 = omega arith in
    (within, from.each (column.from - 1 - age) within ∙ ap (λ k. rate_at table k) place)
