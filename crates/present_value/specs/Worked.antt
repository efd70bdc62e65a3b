-- Mean reserves worked by hand, over a table whose rates for the ages 0 to 4 are 0.1, 0.2, 0.25, 0.5 and 1.
use Rattle.std.specs.Prelude.{ℕ, true, false, [], ◌∷◌}
use Rattle.rate_table.specs.Rates.{Rates}
use Rattle.present_value.specs.Fractions.{Fraction, Between}
use Rattle.present_value.specs.Sums.{Cover, cover_of}
use Rattle.present_value.specs.Premium.{cap_of}
use Rattle.present_value.specs.Mean.{net_premium, mean_reserve, paid_up_mean}

abbrev pub five_ages : Rates
five_ages = record { first_age = 0; rates = 100000000 ∷ 200000000 ∷ 250000000 ∷ 500000000 ∷ 1000000000 ∷ [] }

-- a value is the quotient of two whole numbers
abbrev pub IsQuotient : ℕ → ℕ → Fraction → Type 0
IsQuotient number divisor value = Between number number divisor value

-- an endowment of three years with a premium in each, without interest: (A) is 5/9, but at most the 10/27 of the cap,
-- and (B) is 1/10
abbrev pub endowment : Cover
endowment = cover_of five_ages (record { age = 0; n = 3; h = 3; matures = true }) 0

-- whole life to the table's end with two premiums, without interest
abbrev pub limited : Cover
limited = cover_of five_ages (record { age = 0; n = 5; h = 2; matures = true }) 0

-- a term of three years with a premium in each, at 5 percent
abbrev pub term : Cover
term = cover_of five_ages (record { age = 0; n = 3; h = 3; matures = false }) 500

-- the modified net premium of the endowment is 1715/3537, and its excess is 73/270
pub record NetPremiums : Type 0 where
  pub first : IsQuotient 281 1310 (net_premium endowment (cap_of five_ages 0 0) 0)
  pub second : IsQuotient 1715 3537 (net_premium endowment (cap_of five_ages 0 0) 1)
  pub third : IsQuotient 1715 3537 (net_premium endowment (cap_of five_ages 0 0) 2)
  pub last : IsQuotient 343 513 (net_premium limited (cap_of five_ages 0 0) 1)
  pub after : IsQuotient 0 1 (net_premium limited (cap_of five_ages 0 0) 2)

-- the terminal reserves of the endowment are 0, 50/393, 1822/3537 and 1
pub record MeanReserves : Type 0 where
  pub first : IsQuotient 1343 7860 (mean_reserve endowment (cap_of five_ages 0 0) 0)
  pub second : IsQuotient 443 786 (mean_reserve endowment (cap_of five_ages 0 0) 1)
  pub third : IsQuotient 1 1 (mean_reserve endowment (cap_of five_ages 0 0) 2)
  pub end : IsQuotient 1 1 (mean_reserve endowment (cap_of five_ages 0 0) 3)
  pub paid : IsQuotient 1 1 (mean_reserve limited (cap_of five_ages 0 0) 2)

-- the benefits of the term are worth 142/343, 164/441, 5/21 and 0
pub record PaidUpMeans : Type 0 where
  pub first : IsQuotient 1213 3087 (paid_up_mean term 0)
  pub second : IsQuotient 269 882 (paid_up_mean term 1)
  pub third : IsQuotient 5 42 (paid_up_mean term 2)
  pub end : IsQuotient 0 1 (paid_up_mean term 3)
