-- Rates worked by hand: issue ages 0 and 1 with a select period of two years, over table Q, whose rates of the ages 0 to
-- 4 are 0.1, 0.2, 0.25, 0.5 and 1.
use Rattle.std.specs.Prelude.{[], ◌∷◌}
use Rattle.rate_table.specs.Rates.{Rates}
use Rattle.select_rates.specs.Select.{Selected, HasSelectRate, SelectRate}

abbrev pub table_q : Rates
table_q = record { first_age = 0; rates = 100000000 ∷ 200000000 ∷ 250000000 ∷ 500000000 ∷ 1000000000 ∷ [] }

-- at issue age 0 the select rates 0.05 and 0.1, at issue age 1 0.1 and 0.2
abbrev pub selected_q : Selected
selected_q = record {
  first_age = 0;
  rows = (50000000 ∷ 100000000 ∷ []) ∷ (100000000 ∷ 200000000 ∷ []) ∷ [];
  ultimate = table_q;
}

-- issue age 0: two select rates, and from duration 2 on the ultimate ones of the ages 2 to 4
pub record FirstIssueAge : Type 0 where
  pub first : SelectRate selected_q 0 0 50000000
  pub second : SelectRate selected_q 0 1 100000000
  pub third : SelectRate selected_q 0 2 250000000
  pub fourth : SelectRate selected_q 0 3 500000000
  pub fifth : SelectRate selected_q 0 4 1000000000
  pub end : ¬ HasSelectRate selected_q 0 5

-- issue age 1: two select rates, and from duration 2 on the ultimate ones of the ages 3 and 4
pub record SecondIssueAge : Type 0 where
  pub first : SelectRate selected_q 1 0 100000000
  pub second : SelectRate selected_q 1 1 200000000
  pub third : SelectRate selected_q 1 2 500000000
  pub fourth : SelectRate selected_q 1 3 1000000000
  pub end : ¬ HasSelectRate selected_q 1 4

-- issue age 2, above the select ages: the ultimate rates of the ages 2 to 4
pub record AboveSelectAges : Type 0 where
  pub first : SelectRate selected_q 2 0 250000000
  pub second : SelectRate selected_q 2 1 500000000
  pub third : SelectRate selected_q 2 2 1000000000
  pub end : ¬ HasSelectRate selected_q 2 3

-- issue ages 3 and 4 over table Q, with select periods of one year and of three, the second of which goes past the last
-- ultimate age
abbrev pub late_q : Selected
late_q = record {
  first_age = 3;
  rows = (10000000 ∷ []) ∷ (20000000 ∷ 30000000 ∷ 40000000 ∷ []) ∷ [];
  ultimate = table_q;
}

pub record LateSelectAges : Type 0 where
  pub selected : SelectRate late_q 3 0 10000000
  pub ultimate : SelectRate late_q 3 1 1000000000
  pub end : ¬ HasSelectRate late_q 3 2
  pub first : SelectRate late_q 4 0 20000000
  pub second : SelectRate late_q 4 1 30000000
  pub third : SelectRate late_q 4 2 40000000
  pub past : ¬ HasSelectRate late_q 4 3
