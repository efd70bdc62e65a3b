use Rattle.std.specs.Prelude.{ℕ, zero, suc, ◌+◌, ◌-◌, ◌*◌, ◌^◌, Bool, if◌then◌else◌}
use Rattle.std.specs.List.{sum_by, range_with_len}
use Rattle.rate_table.specs.Rates.{Rates, ONE, rate_at}
use Rattle.rate_table.specs.declared.shape.Shape.{Shape}
use Rattle.present_value.specs.Fractions.{Fraction}

-- Present values of insurances and annuities, as finite sums over the policy years (Dickson, Hardy and
-- Waters, Actuarial Mathematics for Life Contingent Risks: insurance benefits, pure endowment, annuity
-- due), cleared of denominators.

-- what is to be valued: the rate of death in policy year k, from 0, in units of 10^-9; interest in basis
-- points; n years of cover; premiums in h years; whether a survivor of year n is paid
pub record Cover : Type 0 where
  pub rates : ℕ → ℕ
  pub interest : ℕ
  pub n : ℕ
  pub h : ℕ
  pub matures : Bool

-- the cover of a shape by a table at an interest
abbrev pub cover_of : Rates → Shape → ℕ → Cover
cover_of table shape bp = record {
  rates = λ k. rate_at table (shape.age + k);
  interest = bp;
  n = shape.n;
  h = shape.h;
  matures = shape.matures;
}

-- v = 10000 / (10000 + interest): death / year is v q
abbrev pub year : Cover → ℕ
year c = ONE * (10000 + c.interest)

abbrev pub death : Cover → ℕ → ℕ
death c k = 10000 * c.rates k

-- v^k times the part of those alive at year t who are alive k years later, multiplied by the k-th power of the year
-- to clear the denominators: each year's factor is v p, where p = 1 - q
unfoldable pub survivors : Cover → ℕ → ℕ → ℕ
survivors c t zero = 1
survivors c t (suc k) = survivors c t k * (10000 * (ONE - c.rates (t + k)))

-- the value at year t of 1 at the end of the year of death within the cover, and of 1 to a survivor of
-- year n where the cover matures
unfoldable pub ben : Cover → ℕ → Fraction
ben c t = record {
  num = sum_by (λ k. survivors c t k * death c (t + k) * year c ^ (c.n - t - k - 1)) (range_with_len 0 (c.n - t))
      + (if c.matures then survivors c t (c.n - t) else 0);
  den = year c ^ (c.n - t);
}

-- the value at year t of 1 at the start of each year from t to h - 1
unfoldable pub ann : Cover → ℕ → Fraction
ann c t = record {
  num = sum_by (λ k. survivors c t k * year c ^ (c.n - t - k)) (range_with_len 0 (c.h - t));
  den = year c ^ (c.n - t);
}
