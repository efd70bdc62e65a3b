-- Worked cases of the minimum reserve and of the test of a premium: an endowment by a table of five rates, without
-- interest
use Rattle.std.specs.Prelude.{◌≡◌, ℕ, [], ◌∷◌, true}
use Rattle.rate_table.specs.Rates.{Rates}
use Rattle.deficiency_reserve.specs.Names.{Fraction, Cover, cover_of, beta, cap_of, down, up}
use Rattle.crvm_reserve.specs.Rounded.{beta_bound, rounded}
use Rattle.deficiency_reserve.specs.Minimum.{minimum}
use Rattle.deficiency_reserve.specs.RoundedMinimum.{rounded_minimum}
use Rattle.deficiency_reserve.specs.Premiums.{adequacy_by}
use Rattle.deficiency_reserve.specs.MinimumLaws.{AreEqual}
use Rattle.deficiency_reserve.specs.declared.answer.Adequacy.{Adequacy}
use Rattle.deficiency_reserve.specs.declared.answer.Adequacy.TheVariants.{Short, Enough, Close}

-- rates of death 0.1, 0.2, 0.25, 0.5 and 1
abbrev pub five_rates : Rates
five_rates = record { first_age = 0; rates = 100000000 ∷ 200000000 ∷ 250000000 ∷ 500000000 ∷ 1000000000 ∷ [] }

-- three years from age 0 with a premium in so many of them
abbrev pub endowment_paid_in : ℕ → Cover
endowment_paid_in years = cover_of five_rates (record { age = 0; n = 3; h = years; matures = true }) 0

abbrev pub cap_of_age_one : Cover
cap_of_age_one = cap_of five_rates 0 0

-- of 1000.00 after a year, by the yearly premium
abbrev pub minimum_after_a_year : ℕ → Fraction
minimum_after_a_year premium = minimum (endowment_paid_in 3) cap_of_age_one 100000 premium 1

abbrev pub bounds_after_a_year : ℕ → ℕ × ℕ
bounds_after_a_year premium =
    rounded_minimum (endowment_paid_in 3) (rounded (endowment_paid_in 3) cap_of_age_one 100000 1) 100000 premium 1

abbrev pub adequacy_of_yearly : ℕ → ℕ → Adequacy
adequacy_of_yearly amount premium =
    adequacy_by (beta_bound down up (endowment_paid_in 3) cap_of_age_one) (beta_bound up down (endowment_paid_in 3) cap_of_age_one)
    amount premium

-- 400.00 is short: 1 - 0.4 * 1.8 = 0.28
abbrev pub ShortAfterAYear : Type 0
ShortAfterAYear = (bounds_after_a_year 40000 ≡ (28000, 28000)) × (adequacy_of_yearly 100000 40000 ≡ Short)
    × AreEqual (minimum_after_a_year 40000) (record { num = 28; den = 100 })

-- 500.00 is enough: the ordinary reserve, 1 - 1715 / 3537 * 1.8
abbrev pub EnoughAfterAYear : Type 0
EnoughAfterAYear = (bounds_after_a_year 50000 ≡ (12722, 12723)) × (adequacy_of_yearly 100000 50000 ≡ Enough)
    × AreEqual (minimum_after_a_year 50000) (record { num = 450; den = 3537 })

-- the net premium is 1715 / 3537: for 35.37 it is 17.15, and no bounds decide whether it is more or less
abbrev pub PremiumsAroundTheNetPremium : Type 0
PremiumsAroundTheNetPremium = AreEqual (beta (endowment_paid_in 3) cap_of_age_one) (record { num = 1715; den = 3537 })
    × (adequacy_of_yearly 3537 1714 ≡ Short) × (adequacy_of_yearly 3537 1715 ≡ Close)
    × (adequacy_of_yearly 3537 1716 ≡ Enough)

-- bounds that are equal decide: a net premium of one half
abbrev pub PremiumsAroundOneHalf : Type 0
PremiumsAroundOneHalf = (adequacy_by 5000000000000000 5000000000000000 200 99 ≡ Short)
    × (adequacy_by 5000000000000000 5000000000000000 200 100 ≡ Enough)
    × (adequacy_by 5000000000000000 5000000000000000 200 101 ≡ Enough)

-- with premiums in the first two years: 0.01 a year less than 1 before the last premium, and nothing is subtracted
-- from then on
abbrev pub MinimumsOncePaid : Type 0
MinimumsOncePaid =
    AreEqual (minimum (endowment_paid_in 2) cap_of_age_one 100 1 1) (record { num = 99; den = 100 })
    × AreEqual (minimum (endowment_paid_in 2) cap_of_age_one 100 1 2) (record { num = 1; den = 1 })
    × AreEqual (minimum (endowment_paid_in 2) cap_of_age_one 100 1 3) (record { num = 1; den = 1 })
    × (rounded_minimum (endowment_paid_in 2) (0, 0) 100 1 1 ≡ (99, 99))
    × (rounded_minimum (endowment_paid_in 2) (0, 0) 100 1 2 ≡ (100, 100))
    × (rounded_minimum (endowment_paid_in 2) (0, 0) 100 1 3 ≡ (100, 100))
