-- Mean reserves of 1000.00 in cents, worked by hand over the table of five ages.
use Rattle.std.specs.Prelude.{◌≡◌}
use Rattle.present_value.specs.Premium.{cap_of}
use Rattle.present_value.specs.Worked.{five_ages, endowment, term}
use Rattle.crvm_reserve.specs.RoundedMean.{rounded_mean, rounded_paid_up_mean}

-- the endowment in force: 1000.00 times 1343/7860, 443/786, 1 and 1; the third was rounded in between
pub record MeanRows : Type 0 where
  pub first : rounded_mean endowment (cap_of five_ages 0 0) 100000 0 ≡ (17086, 17087)
  pub second : rounded_mean endowment (cap_of five_ages 0 0) 100000 1 ≡ (56361, 56362)
  pub third : rounded_mean endowment (cap_of five_ages 0 0) 100000 2 ≡ (99999, 100001)
  pub end : rounded_mean endowment (cap_of five_ages 0 0) 100000 3 ≡ (100000, 100000)

-- the paid-up term at 5 percent: 1000.00 times 1213/3087, 269/882, 5/42 and 0
pub record PaidUpMeanRows : Type 0 where
  pub first : rounded_paid_up_mean term 100000 0 ≡ (39293, 39294)
  pub second : rounded_paid_up_mean term 100000 1 ≡ (30498, 30499)
  pub third : rounded_paid_up_mean term 100000 2 ≡ (11904, 11905)
  pub end : rounded_paid_up_mean term 100000 3 ≡ (0, 0)
