-- What the proofs say by names of their own: a survivor's factor, a sum by its last term, and the rounded values by the
-- years of cover that are left.
use Rattle.std.proofs.Common.{◌≡◌, ℕ, zero, suc, ◌+◌, ◌-◌, ◌*◌, List, [], ◌∷◌, ◌++◌, refl, ap, ◌∙◌, arith, nat_lt, if◌then◌else◌, add-zero}
use Rattle.std.specs.List.{sum_by, range_with_len}
use Rattle.std.proofs.lemmas.List.Sums.{sum_by_push}
use Rattle.rate_table.specs.Rates.{ONE}
use Rattle.present_value.specs.Sums.{Cover, year}
use Rattle.present_value.specs.Rounding.{UNIT}
use Rattle.present_value.specs.Recursion.{ben_bound, ann_bound}
use Rattle.present_value.specs.inside.Earlier.{benefit_dividend, annuity_dividend}

-- survival / year is v p
abbrev pub survival : Cover → ℕ → ℕ
survival c k = 10000 * (ONE - c.rates k)

-- f 0 + .. + f (count - 1)
unfoldable pub sum_below : (ℕ → ℕ) → ℕ → ℕ
sum_below f zero = 0
sum_below f (suc count) = sum_below f count + f count

range_push : (a n : ℕ) → range_with_len a (suc n) ≡ range_with_len a n ++ (a + n) ∷ []
range_push a zero = rw (add-zero a) refl
range_push a (suc n) =
    let last : (a + 1) + n ≡ a + suc n = omega arith in
    ap (λ (ns : List ℕ). a ∷ ns) (range_push (a + 1) n ∙ ap (λ (k : ℕ). range_with_len (a + 1) n ++ k ∷ []) last)

pub sum_below-is : (f : ℕ → ℕ) (count : ℕ) → sum_by f (range_with_len 0 count) ≡ sum_below f count
unfolding sum_below
sum_below-is f zero = refl
sum_below-is f (suc count) =
    let last : 0 + count ≡ count = omega arith in
    ap (λ (ns : List ℕ). sum_by f ns) (range_push 0 count) ∙ sum_by_push f (range_with_len 0 count) (0 + count)
    ∙ ap (λ (k : ℕ). sum_by f (range_with_len 0 count) + f k) last ∙ ap (λ (s : ℕ). s + f count) (sum_below-is f count)

-- the benefits with so many years of cover left
unfoldable pub rounded_ben : (ℕ → ℕ → ℕ) → Cover → ℕ → ℕ
rounded_ben quotient c zero = if c.matures then UNIT else 0
rounded_ben quotient c (suc left) =
    quotient (benefit_dividend (c.rates (c.n - suc left)) (rounded_ben quotient c left)) (year c)

-- the premiums with so many years of cover left
unfoldable pub rounded_ann : (ℕ → ℕ → ℕ) → Cover → ℕ → ℕ
rounded_ann quotient c zero = 0
rounded_ann quotient c (suc left) =
    if nat_lt (c.n - suc left) c.h
    then UNIT + quotient (annuity_dividend (c.rates (c.n - suc left)) (rounded_ann quotient c left)) (year c)
    else 0

ben_with_left : (q : ℕ → ℕ → ℕ) (c : Cover) (t left : ℕ) → c.n - t ≡ left → ben_bound q c t ≡ rounded_ben q c left
unfolding ben_bound rounded_ben
ben_with_left q c t zero same = rw same refl
ben_with_left q c t (suc left) same =
    let next : c.n - (t + 1) ≡ left = omega arith in
    let later = rw next at (ben_with_left q c (t + 1) left next) in
    rw same (rw later refl)

ann_with_left : (q : ℕ → ℕ → ℕ) (c : Cover) (t left : ℕ) → c.n - t ≡ left → ann_bound q c t ≡ rounded_ann q c left
unfolding ann_bound rounded_ann
ann_with_left q c t zero same = rw same refl
ann_with_left q c t (suc left) same =
    let next : c.n - (t + 1) ≡ left = omega arith in
    let later = rw next at (ann_with_left q c (t + 1) left next) in
    rw same (rw later refl)

pub ben_is_rounded : (q : ℕ → ℕ → ℕ) (c : Cover) (t : ℕ) → ben_bound q c t ≡ rounded_ben q c (c.n - t)
ben_is_rounded q c t = ben_with_left q c t (c.n - t) refl

pub ann_is_rounded : (q : ℕ → ℕ → ℕ) (c : Cover) (t : ℕ) → ann_bound q c t ≡ rounded_ann q c (c.n - t)
ann_is_rounded q c t = ann_with_left q c t (c.n - t) refl
