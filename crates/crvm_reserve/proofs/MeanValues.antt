-- The parts of a mean reserve are those of its cover.
use Rattle.crvm_reserve.proofs.Names.{◌≡◌, ℕ, zero, suc, ◌+◌, ◌-◌, ◌*◌, ◌<◌, ◌≤◌, refl, inl, inr, arith, Cover, AreValuesAt, ben_lo, ben_hi, UNIT, Columns, Values, ben_hi-most, ben_lo-most, reserve_lo, reserve_hi, net_lo, net_hi, double_lo, double_hi, AreMadeFor, ArePaidUpFor, IsMadeFor, premium_of, net_bound}
use Rattle.std.proofs.lemmas.Bool.Decides.{leb_tells}
use Rattle.crvm_reserve.specs.MeanMade.{AreMeanPartsOf, ArePaidUpMeanOf}
use Rattle.crvm_reserve.specs.declared.mean.MeanParts.{MeanParts}
use Rattle.crvm_reserve.specs.declared.premium.Premium.{Premium}

-- the net premium by the year
pub net_first : (c cap : Cover) (t : ℕ) (premium : Premium) → premium ≡ premium_of c cap → t ≡ 0
    → (premium.lo - premium.excess_hi ≡ net_lo c cap t) × (premium.hi - premium.excess_lo ≡ net_hi c cap t)
unfolding net_bound
net_first c cap t premium made first = rw (first, made) (refl, refl)

pub net_due : (c cap : Cover) (t : ℕ) (premium : Premium) → premium ≡ premium_of c cap → 0 < t → t < c.h
    → (premium.lo ≡ net_lo c cap t) × (premium.hi ≡ net_hi c cap t)
unfolding net_bound
net_due c cap zero premium made later due = absurd (omega (arith, later))
net_due c cap (suc t) premium made later due = elim (leb_tells (suc (suc t)) c.h) [
  | inl h ↦ rw (h.0, made) (refl, refl)
  | inr h ↦ absurd (omega (arith, h.1))
]

pub net_after : (c cap : Cover) (t : ℕ) → 0 < t → c.h ≤ t → (0 ≡ net_lo c cap t) × (0 ≡ net_hi c cap t)
unfolding net_bound
net_after c cap zero later after = absurd (omega (arith, later))
net_after c cap (suc t) later after = elim (leb_tells (suc (suc t)) c.h) [
  | inl h ↦ absurd (omega (arith, h.1))
  | inr h ↦ rw h.0 (refl, refl)
]

-- the parts at the start of the year and at its end are those that a terminal reserve rests on
pub parts_start : (c cap : Cover) (t : ℕ) (parts : MeanParts) → AreMeanPartsOf c cap t parts → IsMadeFor c cap t parts.start parts.premium
parts_start c cap t parts are = record {
  reserved = are.reserved;
  within = omega (arith, are.before);
  values_are = are.start;
  premium_is = are.premium;
}

pub parts_end : (c cap : Cover) (t : ℕ) (parts : MeanParts) → AreMeanPartsOf c cap t parts → IsMadeFor c cap (t + 1) parts.end parts.premium
parts_end c cap t parts are = record {
  reserved = are.reserved;
  within = omega (arith, are.before);
  values_are = are.end;
  premium_is = are.premium;
}

pub double_lo_is : (c cap : Cover) (t start net end : ℕ) → start ≡ reserve_lo c cap t → net ≡ net_lo c cap t → end ≡ reserve_lo c cap (t + 1)
    → start + net + end ≡ double_lo c cap t
double_lo_is c cap t start net end p q r = rw (p, q, r) refl

pub double_hi_is : (c cap : Cover) (t start net end : ℕ) → start ≡ reserve_hi c cap t → net ≡ net_hi c cap t → end ≡ reserve_hi c cap (t + 1)
    → start + net + end ≡ double_hi c cap t
double_hi_is c cap t start net end p q r = rw (p, q, r) refl

-- columns have the parts of each year before the end of cover
pub mean_parts_at : (c cap : Cover) (columns : Columns) (premium : Premium) (t : ℕ) (start end : Values) → AreMadeFor c cap columns premium → t < c.n
    → AreValuesAt c t start → AreValuesAt c (t + 1) end
    → AreMeanPartsOf c cap t (record { t = t; h = columns.h; start = start; end = end; premium = premium })
mean_parts_at c cap columns premium t start end made before is later = record {
  reserved = made.reserved;
  before = before;
  year = refl;
  payments = made.columns_are.payments;
  start = is;
  end = later;
  premium = made.premium_is;
}

pub paid_up_mean_at : (c : Cover) (columns : Columns) (t : ℕ) (start end : Values) → ArePaidUpFor c columns → t < c.n
    → AreValuesAt c t start → AreValuesAt c (t + 1) end → ArePaidUpMeanOf c t start end
paid_up_mean_at c columns t start end made before is later = record {
  before = before;
  years = made.years;
  rates = made.rates;
  start_are = is;
  end_are = later;
}

-- the benefits of the two years
pub benefits_are : (c : Cover) (t : ℕ) (start end : Values) → ArePaidUpMeanOf c t start end
    → (start.ben.lo + end.ben.lo ≡ ben_lo c t + ben_lo c (t + 1)) × (start.ben.hi + end.ben.hi ≡ ben_hi c t + ben_hi c (t + 1))
benefits_are c t start end are = rw (are.start_are.benefits, are.end_are.benefits) (refl, refl)

pub record AreSmallBenefits (start end : Values) : Type 0 where
  pub lo : start.ben.lo + end.ben.lo ≤ 2 * UNIT
  pub hi : start.ben.hi + end.ben.hi ≤ 2 * UNIT

pub small_benefits : (c : Cover) (t : ℕ) (start end : Values) → ArePaidUpMeanOf c t start end → AreSmallBenefits start end
small_benefits c t start end are =
    let same = benefits_are c t start end are in
    let before = are.before in
    record {
      lo = rw same.0 (omega (arith, ben_lo-most c t (omega arith) are.rates, ben_lo-most c (t + 1) (omega arith) are.rates));
      hi = rw same.1 (omega (arith, ben_hi-most c t are.rates, ben_hi-most c (t + 1) are.rates));
    }
