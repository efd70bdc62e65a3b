-- Columns place by place.
use Rattle.present_value.proofs.Names.{◌≡◌, ◌≢◌, ℕ, zero, suc, ◌+◌, ◌*◌, ◌<◌, refl, ap, ◌∙◌, arith, List, length, slice_set, inl, inr, get_or-set_same, get_or-set_other, ONE, pair_at, pair_of, UNIT, down, up, benefit_dividend, annuity_dividend, Cover, year, ben_lo, ben_hi, ann_lo, ann_hi}
use Rattle.std.specs.Prelude.{replicate}
use Rattle.std.proofs.lemmas.Bool.{cases_eq}
use Rattle.present_value.specs.declared.pair.Pair.{Pair}
use Rattle.present_value.proofs.Steps.{ben_lo-before, ben_hi-before, ann_lo-before, ann_hi-before}

pub empty_at : (count k : ℕ) → pair_at (replicate count (pair_of 0 0)) k ≡ pair_of 0 0
empty_at zero k = refl
empty_at (suc count) zero = refl
empty_at (suc count) (suc k) = empty_at count k

-- a place that gets its value, beside those that have theirs
pub put : (pairs : List Pair) (pair : Pair) (value : ℕ → Pair) (i : ℕ) → i < length pairs → pair ≡ value i
    → (k : ℕ) → (k ≢ i → pair_at pairs k ≡ value k) → pair_at (slice_set pairs i pair) k ≡ value k
put pairs pair value i room new k done = elim (cases_eq k i) [
  | inl same ↦ rw same (get_or-set_same pairs i pair (pair_of 0 0) room ∙ new)
  | inr other ↦ get_or-set_other pairs i k pair (pair_of 0 0) other ∙ done other
]

-- a year's pair from the next year's
pub ben_pair-before : (c : Cover) (t rate w : ℕ) (later pair : Pair) → t < c.n
    → rate ≡ c.rates t → w ≡ year c → later ≡ pair_of (ben_lo c (t + 1)) (ben_hi c (t + 1))
    → pair.lo ≡ down (benefit_dividend rate later.lo) w → pair.hi ≡ up (benefit_dividend rate later.hi) w
    → pair ≡ pair_of (ben_lo c t) (ben_hi c t)
ben_pair-before c t rate w later pair below rate_is w_is later_is lo hi =
    let low : pair.lo ≡ ben_lo c t = rw (ben_lo-before c t below, lo, later_is, rate_is, w_is) refl in
    let high : pair.hi ≡ ben_hi c t = rw (ben_hi-before c t below, hi, later_is, rate_is, w_is) refl in
    ap (λ n. pair_of n pair.hi) low ∙ ap (λ n. pair_of (ben_lo c t) n) high

pub ann_pair-before : (c : Cover) (t rate w : ℕ) (later pair : Pair) → t < c.n → t < c.h
    → rate ≡ c.rates t → w ≡ year c → later ≡ pair_of (ann_lo c (t + 1)) (ann_hi c (t + 1))
    → pair.lo ≡ UNIT + down (annuity_dividend rate later.lo) w → pair.hi ≡ UNIT + up (annuity_dividend rate later.hi) w
    → pair ≡ pair_of (ann_lo c t) (ann_hi c t)
ann_pair-before c t rate w later pair below due rate_is w_is later_is lo hi =
    let low : pair.lo ≡ ann_lo c t = rw (ann_lo-before c t below due, lo, later_is, rate_is, w_is) refl in
    let high : pair.hi ≡ ann_hi c t = rw (ann_hi-before c t below due, hi, later_is, rate_is, w_is) refl in
    ap (λ n. pair_of n pair.hi) low ∙ ap (λ n. pair_of (ann_lo c t) n) high

-- a year's denominator; the code divides by a ten-thousandth of it
pub year_is : (bp divisor : ℕ) → divisor ≡ 100000 * (10000 + bp) → 10000 * divisor ≡ ONE * (10000 + bp)
year_is bp divisor p = omega arith
