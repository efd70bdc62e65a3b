-- Projections worked by hand, over a table whose rates for the ages 0 to 4 are 0.1, 0.2, 0.25, 0.5 and 1.
use Rattle.std.specs.Prelude.{◌≡◌, ℕ, ◌+◌, List, [], ◌∷◌, true, false}
use Rattle.cash_projection.specs.Names.{rate_at, pair_of}
use Rattle.present_value.specs.Worked.{five_ages}
use Rattle.cash_projection.specs.Prospects.{Prospect}
use Rattle.cash_projection.specs.Cash.{EnclosesExpected, rounded_year}
use Rattle.cash_projection.specs.declared.years.Year.{Year}

-- exactly these cents, in the j-th year
abbrev pub exact_year : (premiums deaths maturities : ℕ) → Year
exact_year premiums deaths maturities =
    record { premium = pair_of premiums premiums; death = pair_of deaths deaths; maturity = pair_of maturities maturities }

pub record IsYearly (ps : List Prospect) (j premiums deaths maturities : ℕ) : Type 0 where
  pub exact : EnclosesExpected ps j (exact_year premiums deaths maturities)
  pub rounded : rounded_year ps j ≡ exact_year premiums deaths maturities

-- an endowment of three years from the age 0 in its year t, with the premium 400.00 for 1000.00; `paid` premiums are
-- paid
abbrev pub endowment_in : (t paid : ℕ) → Prospect
endowment_in t paid = record {
  rates = λ j. rate_at five_ages (0 + t + j);
  t = t;
  n = 3;
  h = 3;
  paid = paid;
  premium = 40000;
  amount = 100000;
  matures = true;
  words = 0;
}

pub record EndowmentCash : Type 0 where
  pub first : IsYearly (endowment_in 0 0 ∷ []) 0 40000 10000 0
  pub second : IsYearly (endowment_in 0 0 ∷ []) 1 36000 18000 0
  pub third : IsYearly (endowment_in 0 0 ∷ []) 2 28800 18000 54000
  pub fourth : IsYearly (endowment_in 0 0 ∷ []) 3 0 0 0

-- a premium that is paid isn't due again
pub record PaidPremiumCash : Type 0 where
  pub first : IsYearly (endowment_in 0 1 ∷ []) 0 0 10000 0
  pub second : IsYearly (endowment_in 0 1 ∷ []) 1 36000 18000 0

-- a year later: those who are alive then
pub record LaterCash : Type 0 where
  pub first : IsYearly (endowment_in 1 1 ∷ []) 0 40000 20000 0
  pub second : IsYearly (endowment_in 1 1 ∷ []) 1 32000 20000 60000
  pub over : IsYearly (endowment_in 3 3 ∷ []) 0 0 0 0

-- a term of two years, a paid-up endowment and a whole life with two premiums, together
abbrev pub term_of_two : Prospect
term_of_two = record { rates = λ j. rate_at five_ages (0 + 0 + j); t = 0; n = 2; h = 2; paid = 0; premium = 100; amount = 10000; matures = false; words = 0 }

abbrev pub paid_up_of_two : Prospect
paid_up_of_two = record { rates = λ j. rate_at five_ages (0 + 1 + j); t = 1; n = 3; h = 3; paid = 1; premium = 0; amount = 5000; matures = true; words = 0 }

abbrev pub whole_from_three : Prospect
whole_from_three = record { rates = λ j. rate_at five_ages (3 + 0 + j); t = 0; n = 2; h = 1; paid = 0; premium = 500; amount = 3; matures = true; words = 0 }

pub record TogetherCash : Type 0 where
  pub first : IsYearly (term_of_two ∷ paid_up_of_two ∷ []) 0 100 2000 0
  pub second : IsYearly (term_of_two ∷ paid_up_of_two ∷ []) 1 90 2800 3000
  pub exact : EnclosesExpected (whole_from_three ∷ []) 0 (record { premium = pair_of 500 500; death = pair_of 1 2; maturity = pair_of 0 0 })
  pub rounded : rounded_year (whole_from_three ∷ []) 0 ≡ record { premium = pair_of 500 500; death = pair_of 1 2; maturity = pair_of 0 0 }
  pub end : rounded_year (whole_from_three ∷ []) 1 ≡ record { premium = pair_of 0 0; death = pair_of 1 2; maturity = pair_of 0 0 }
