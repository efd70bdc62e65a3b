-- Values by the age at which a stream of payments ends. What is paid from an age on until the end depends on nothing
-- before that age. So all covers that end at one age have their values in one column, by the attained age.
use Rattle.std.specs.Prelude.{◌≡◌, ℕ, ◌+◌, ◌-◌, ◌≤◌, Bool, true, false, length}
use Rattle.rate_table.specs.Rates.{Rates}
use Rattle.present_value.specs.Sums.{Cover, cover_of}
use Rattle.present_value.specs.Recursion.{ben_lo, ben_hi, ann_lo, ann_hi}
use Rattle.present_value.specs.Values.{pair_of, pair_at}
use Rattle.present_value.specs.declared.pair.Pair.{Pair}
use Rattle.present_value.specs.declared.pair.Values.{Values}
use Rattle.present_value.specs.declared.column.Column.{Column}
use Rattle.present_value.specs.declared.column.Stream.{Stream}
use Rattle.present_value.specs.declared.column.Stream.TheVariants.{Insurance, Endowment, Annuity}

-- the cover from an age to the end, with a premium in each year
abbrev pub cover_to : Rates → ℕ → Bool → ℕ → ℕ → Cover
cover_to table bp matures end age = cover_of table (record { age = age; n = end - age; h = end - age; matures = matures }) bp

-- the rounded value at an age of the benefits until the end
abbrev pub benefits_to : Rates → ℕ → Bool → ℕ → ℕ → Pair
benefits_to table bp matures end age = pair_of (ben_lo (cover_to table bp matures end age) 0) (ben_hi (cover_to table bp matures end age) 0)

-- the rounded value at an age of 1 at the start of each year until the end
abbrev pub premiums_to : Rates → ℕ → ℕ → ℕ → Pair
premiums_to table bp end age = pair_of (ann_lo (cover_to table bp true end age) 0) (ann_hi (cover_to table bp true end age) 0)

abbrev pub value_to : Rates → ℕ → Stream → ℕ → ℕ → Pair
value_to table bp Insurance end age = benefits_to table bp false end age
value_to table bp Endowment end age = benefits_to table bp true end age
value_to table bp Annuity end age = premiums_to table bp end age

-- the benefits of a cover, by whether it pays a survivor
abbrev pub benefit_stream : Bool → Stream
benefit_stream false = Insurance
benefit_stream true = Endowment

-- the table holds the ages from this one to the end, and interest is at most 20 percent
pub record CanEnd (table : Rates) (bp end age : ℕ) : Type 0 where
  pub first : table.first_age ≤ age
  pub before : age ≤ end
  pub last : end ≤ table.first_age + length table.rates
  pub interest : bp ≤ 2000

-- a column holds the values of its stream from its lowest age to the end
pub record IsColumn (table : Rates) (bp : ℕ) (column : Column) : Type 0 where
  pub places : length column.pairs ≡ 132
  pub end : column.end ≤ 131
  pub from : column.from ≤ column.end
  pub done : (age : ℕ) → column.from ≤ age → age ≤ column.end
      → pair_at column.pairs age ≡ value_to table bp column.stream column.end age

abbrev pub IsOf : Column → Stream → ℕ → Type 0
IsOf column stream end = (column.stream ≡ stream) × (column.end ≡ end)

-- a column of a stream, right by each table and interest
pub record IsStarted (stream : Stream) (end : ℕ) (column : Column) : Type 0 where
  pub is_of : IsOf column stream end
  pub is_column : (table : Rates) → (bp : ℕ) → IsColumn table bp column

-- the values of a cover at year t
pub record AreValuesAt (c : Cover) (t : ℕ) (values : Values) : Type 0 where
  pub benefits : values.ben ≡ pair_of (ben_lo c t) (ben_hi c t)
  pub premiums : values.ann ≡ pair_of (ann_lo c t) (ann_hi c t)
