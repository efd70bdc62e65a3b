-- The bounds of the minimum enclose it, and are close together.
use Rattle.deficiency_reserve.proofs.Names.{◌≡◌, ℕ, ◌+◌, ◌-◌, ◌*◌, ◌<◌, ◌≤◌, refl, sym, inl, inr, max, arith, Fraction, Between, less, times, Cover, ben, ann, beta, reserve, Encloses, ben_lo, ben_hi, ann_lo, ann_hi, gross, greater, minimum, gross_lo, gross_hi, IsAtMost}
use Rattle.std.proofs.Math.Nat.{mul-le-mul_left, mul-le-mul_right, mul-pos, le_of_mul-le-mul_right, le_trans, le-max_left, le-max_right, max-le, max-eq_left, max-eq_right}
use Rattle.std.proofs.lemmas.Bool.Decides.{leb_tells}
use Rattle.rate_table.specs.Rates.{ONE}
use Rattle.present_value.specs.Rounding.{UNIT, down, up}
use Rattle.present_value.specs.Ends.{AreValuesAt}
use Rattle.present_value.specs.declared.pair.Columns.{Columns}
use Rattle.present_value.specs.declared.pair.Values.{Values}
use Rattle.present_value.proofs.Quotients.{down-le, le-up, apart, up-le}
use Rattle.present_value.proofs.Fractions.{less-between, equal-between}
use Rattle.present_value.proofs.Steps.{ben-between, ann-between, ben-narrow, ann-narrow, ben_hi-most}
use Rattle.crvm_reserve.specs.Made.{IsMadeFor}
use Rattle.crvm_reserve.specs.declared.premium.Premium.{Premium}
use Rattle.crvm_reserve.proofs.PaidUp.{paid_up_at}
use Rattle.deficiency_reserve.specs.Ordinary.{HasOrdinaryFor, HaveOrdinaryFor}
use Rattle.deficiency_reserve.proofs.Orders.{less-antitone, times-monotone, lesser-second}
use Rattle.deficiency_reserve.proofs.Minima.{anew, anew_by, anew-proper, minimum-proper, equal_where_enough}

-- what is at most a value is bounded from below by its lower bound
raised : (u l an ad bn bd : ℕ) → 0 < ad → l * ad ≤ u * an → an * bd ≤ bn * ad → l * bd ≤ u * bn
raised u l an ad bn bd positive p q =
    let p' = mul-le-mul_right bd p in
    let q' = mul-le-mul_left u q in
    let spread : (l * bd) * ad ≤ (u * bn) * ad = omega arith in
    le_of_mul-le-mul_right spread positive

max_most : (x y d z : ℕ) → x * d ≤ z → y * d ≤ z → max x y * d ≤ z
max_most x y d z p q = elim (leb_tells x y) [
  | inl h ↦ rw (max-eq_right h.1) q
  | inr h ↦ let g : y ≤ x = omega (arith, h.1) in rw (max-eq_left g) p
]

-- a value, if another is at most as great
pub floor-between : (u : ℕ) (a b : Fraction) (alo ahi blo bhi : ℕ)
    → Between alo ahi u a → Between blo bhi u b → IsAtMost b a → Between (max alo blo) (max ahi bhi) u a
floor-between u a b alo ahi blo bhi p q most = record {
  proper = p.proper;
  above = max_most alo blo a.den (u * a.num) p.above (raised u blo b.num b.den a.num a.den q.proper q.above most);
  below = le_trans p.below (mul-le-mul_right a.den (le-max_left ahi bhi));
}

pub greater-between : (u : ℕ) (a b : Fraction) (alo ahi blo bhi : ℕ)
    → Between alo ahi u a → Between blo bhi u b → Between (max alo blo) (max ahi bhi) u (greater a b)
unfolding greater
greater-between u a b alo ahi blo bhi p q = elim (leb_tells (a.num * b.den) (b.num * a.den)) [
  | inl h ↦ rw h.0 (record {
    proper = q.proper;
    above = max_most alo blo b.den (u * b.num) (raised u alo a.num a.den b.num b.den p.proper p.above h.1) q.above;
    below = le_trans q.below (mul-le-mul_right b.den (le-max_right ahi bhi));
  })
  | inr h ↦ rw h.0 (floor-between u a b alo ahi blo bhi p q (omega (arith, h.1)))
]

-- the reserve by the gross premium, of an amount

insured-between : (u amount : ℕ) (a : Fraction) (lo hi : ℕ) → Between lo hi u a → Between (amount * lo) (amount * hi) (amount * u) a
insured-between u amount a lo hi p = record {
  proper = p.proper;
  above = let h = mul-le-mul_left amount p.above in omega arith;
  below = let h = mul-le-mul_left amount p.below in omega arith;
}

charged_above : (u amount premium l d n : ℕ) → l * d ≤ u * n → (premium * l) * (amount * d) ≤ (amount * u) * (premium * n)
charged_above u amount premium l d n p = let h = mul-le-mul_left (premium * amount) p in omega arith

charged_below : (u amount premium l d n : ℕ) → u * n ≤ l * d → (amount * u) * (premium * n) ≤ (premium * l) * (amount * d)
charged_below u amount premium l d n p = let h = mul-le-mul_left (premium * amount) p in omega arith

charged-between : (u amount premium : ℕ) (a : Fraction) (lo hi : ℕ) → 0 < amount → Between lo hi u a
    → Between (premium * lo) (premium * hi) (amount * u) (times (gross amount premium) a)
unfolding times
charged-between u amount premium a lo hi some p = record {
  proper = mul-pos some p.proper;
  above = charged_above u amount premium lo a.den a.num p.above;
  below = charged_below u amount premium hi a.den a.num p.below;
}

cents-between : (u amount : ℕ) (a : Fraction) (lo hi : ℕ) → 0 < u → Between lo hi (amount * u) a → Between (down lo u) (up hi u) amount a
cents-between u amount a lo hi positive p =
    let low = mul-le-mul_right a.den (down-le lo u) in
    let high = mul-le-mul_right a.den (le-up hi u positive) in
    let above : (down lo u * a.den) * u ≤ (amount * a.num) * u = omega (arith, p.above) in
    let below : (amount * a.num) * u ≤ (up hi u * a.den) * u = omega (arith, p.below) in
    record {
      proper = p.proper;
      above = le_of_mul-le-mul_right above positive;
      below = le_of_mul-le-mul_right below positive;
    }

pub gross-between : (c : Cover) (amount premium t : ℕ) → 0 < amount → c.h ≤ c.n → t ≤ c.n
    → Between (gross_lo c amount premium t) (gross_hi c amount premium t) amount (less (ben c t) (times (gross amount premium) (ann c t)))
gross-between c amount premium t some covered within =
    cents-between UNIT amount _ _ _ (omega arith)
    (less-between (amount * UNIT) _ _ _ _ _ _ (insured-between UNIT amount _ _ _ (ben-between c t within))
    (charged-between UNIT amount premium _ _ _ some (ann-between c t covered within)))

spread_narrow : (amount premium bl bh al ah : ℕ) → amount ≤ 10000000000 → premium ≤ 10000000000 → bh ≤ bl + 131 → ah ≤ al + 131
    → amount * bh - premium * al ≤ (amount * bl - premium * ah) + 1 * UNIT
spread_narrow amount premium bl bh al ah few cheap near_b near_a =
    let b = mul-le-mul_left amount near_b in
    let a = mul-le-mul_left premium near_a in
    omega arith

pub gross-narrow : (c : Cover) (amount premium t : ℕ) → c.n ≤ 131 → amount ≤ 10000000000 → premium ≤ 10000000000
    → gross_hi c amount premium t ≤ gross_lo c amount premium t + 2
gross-narrow c amount premium t years few cheap =
    let near_b : ben_hi c t ≤ ben_lo c t + 131 = omega (arith, ben-narrow c t) in
    let near_a : ann_hi c t ≤ ann_lo c t + 131 = omega (arith, ann-narrow c t) in
    let near = spread_narrow amount premium (ben_lo c t) (ben_hi c t) (ann_lo c t) (ann_hi c t) few cheap near_b near_a in
    omega (arith, apart _ _ UNIT 1 (omega arith) near)

-- the minimum

-- if the premium isn't short, it subtracts at least as much
at_most_ordinary : (c cap : Cover) (amount premium t : ℕ) → IsAtMost (beta c cap) (gross amount premium)
    → IsAtMost (less (ben c t) (times (gross amount premium) (ann c t))) (reserve c cap t)
unfolding reserve
at_most_ordinary c cap amount premium t enough =
    less-antitone (ben c t) (times (beta c cap) (ann c t)) (times (gross amount premium) (ann c t))
    (times-monotone (beta c cap) (gross amount premium) (ann c t) enough)

pub minimum-between : (c cap : Cover) (amount premium t lo hi : ℕ) → 0 < amount → c.h ≤ c.n → t ≤ c.n
    → Between lo hi amount (reserve c cap t)
    → Between (max lo (gross_lo c amount premium t)) (max hi (gross_hi c amount premium t)) amount (minimum c cap amount premium t)
unfolding minimum greater
minimum-between c cap amount premium t lo hi some covered within ordinary =
    let by_gross = gross-between c amount premium t some covered within in
    elim (leb_tells ((beta c cap).num * (gross amount premium).den) ((gross amount premium).num * (beta c cap).den)) [
      | inl h ↦
          let same = equal_where_enough c cap amount premium t h.1 in
          equal-between _ _ amount (reserve c cap t) (minimum c cap amount premium t) (minimum-proper c cap amount premium t some ordinary.proper)
          (sym same)
          (floor-between amount (reserve c cap t) (less (ben c t) (times (gross amount premium) (ann c t))) lo hi _ _ ordinary by_gross
          (at_most_ordinary c cap amount premium t h.1))
      | inr h ↦
          let same = anew_by c cap amount premium t (gross amount premium) (lesser-second (beta c cap) (gross amount premium) h.0) in
          greater-between amount (reserve c cap t) (anew c cap amount premium t) lo hi _ _ ordinary
          (equal-between _ _ amount (less (ben c t) (times (gross amount premium) (ann c t))) (anew c cap amount premium t)
          (anew-proper c cap amount premium t some ordinary.proper) (sym same) by_gross)
    ]

max_narrow : (xl xh yl yh : ℕ) → xh ≤ xl + 2 → yh ≤ yl + 2 → max xh yh ≤ max xl yl + 2
max_narrow xl xh yl yh p q = max-le (omega (arith, p, le-max_left xl yl)) (omega (arith, q, le-max_right xl yl))

pub minimum-encloses : (c cap : Cover) (t : ℕ) (values : Values) (ordinary : ℕ × ℕ) (amount premium : ℕ)
    → HasOrdinaryFor c cap t values ordinary amount → 1 ≤ amount → amount ≤ 10000000000 → premium ≤ 10000000000
    → Encloses (max ordinary.0 (gross_lo c amount premium t)) (max ordinary.1 (gross_hi c amount premium t)) amount (minimum c cap amount premium t)
minimum-encloses c cap t values ordinary amount premium has some few cheap = record {
  between = minimum-between c cap amount premium t ordinary.0 ordinary.1 (omega (arith, some)) has.ordinary_is.covered has.values_are.within
      has.ordinary_is.encloses.between;
  narrow = max_narrow ordinary.0 ordinary.1 _ _ has.ordinary_is.encloses.narrow
      (gross-narrow c amount premium t has.values_are.years few cheap);
}

-- the reserve by the gross premium is at most the amount
pub gross_hi-most : (c : Cover) (amount premium t : ℕ) → ((k : ℕ) → k < c.n → c.rates k ≤ ONE) → gross_hi c amount premium t ≤ amount
gross_hi-most c amount premium t rates =
    let most = mul-le-mul_left amount (ben_hi-most c t rates) in
    up-le (amount * ben_hi c t - premium * ann_lo c t) UNIT amount (omega arith) (omega arith)

-- the rounded bounds from the values

pub gross_lo_is : (c : Cover) (amount premium t : ℕ) (values : Values) → AreValuesAt c t values
    → down (amount * values.ben.lo - premium * values.ann.hi) UNIT ≡ gross_lo c amount premium t
gross_lo_is c amount premium t values are = rw (are.benefits, are.premiums) refl

pub gross_hi_is : (c : Cover) (amount premium t : ℕ) (values : Values) → AreValuesAt c t values
    → up (amount * values.ben.hi - premium * values.ann.lo) UNIT ≡ gross_hi c amount premium t
gross_hi_is c amount premium t values are = rw (are.benefits, are.premiums) refl

-- what the callers have

-- columns have the values of each year
pub has_at : (c cap : Cover) (t : ℕ) (columns : Columns) (ordinary : ℕ × ℕ) (amount : ℕ) (values : Values)
    → HaveOrdinaryFor c cap t columns ordinary amount → t ≤ columns.n → AreValuesAt c t values → HasOrdinaryFor c cap t values ordinary amount
has_at c cap t columns ordinary amount values have within are = record {
  values_are = paid_up_at c columns t values have.columns_are within are;
  ordinary_is = have.ordinary_is;
}

-- values that were made for a premium, and bounds of the reserve
pub has_ordinary : (c cap : Cover) (t : ℕ) (values : Values) (premium : Premium) (ordinary : ℕ × ℕ) (amount : ℕ)
    → IsMadeFor c cap t values premium → Encloses ordinary.0 ordinary.1 amount (reserve c cap t) → HasOrdinaryFor c cap t values ordinary amount
has_ordinary c cap t values premium ordinary amount made encloses = record {
  values_are = record {
    within = made.within;
    years = made.reserved.years;
    rates = made.reserved.rates;
    values_are = made.values_are;
  };
  ordinary_is = record { covered = made.reserved.covered; encloses = encloses };
}
