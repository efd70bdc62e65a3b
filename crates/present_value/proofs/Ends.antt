-- Two covers with as many years left, with the same interest and the same rates from there on, have the same values.
use Rattle.present_value.proofs.Names.{true, false, ◌≡◌, ℕ, zero, suc, ◌+◌, ◌-◌, ◌<◌, ◌≤◌, refl, ap, sym, ◌∙◌, arith, add-zero, Bool, true, if◌then◌else◌, Rates, rate_at, UNIT, down, up, Cover, cover_of, rounded_ben, rounded_ann, ben_is_rounded, ann_is_rounded, ben_lo, ben_hi, ann_lo, ann_hi, pair_of, cover_to, benefits_to, premiums_to, value_to, benefit_stream}
use Rattle.rate_table.specs.declared.shape.Shape.{Shape}
use Rattle.present_value.specs.declared.column.Stream.TheVariants.{Annuity}
use Rattle.present_value.proofs.Steps.{rounded_ben-before, rounded_ann-before, rounded_ann-after}

-- the rates of two covers from these years on, for so many years
abbrev pub AreAlike : Cover → Cover → (t s years : ℕ) → Type 0
AreAlike c d t s years = (k : ℕ) → k < years → c.rates (t + k) ≡ d.rates (s + k)

alike_now : (c d : Cover) (t s years : ℕ) → AreAlike c d t s (suc years) → c.rates t ≡ d.rates s
alike_now c d t s years alike =
    sym (ap (λ k. c.rates k) (add-zero t)) ∙ alike 0 (omega arith) ∙ ap (λ k. d.rates k) (add-zero s)

alike_later : (c d : Cover) (t s years : ℕ) → AreAlike c d t s (suc years) → AreAlike c d (t + 1) (s + 1) years
alike_later c d t s years alike k below =
    let here : (t + 1) + k ≡ t + suc k = omega arith in
    let there : s + suc k ≡ (s + 1) + k = omega arith in
    ap (λ j. c.rates j) here ∙ alike (suc k) (omega arith) ∙ ap (λ j. d.rates j) there

-- the benefits with so many years of cover left
pub ben_alike : (q : ℕ → ℕ → ℕ) (c d : Cover) (t s years : ℕ) → t + years ≡ c.n → s + years ≡ d.n
    → c.interest ≡ d.interest → c.matures ≡ d.matures → AreAlike c d t s years
    → rounded_ben q c (c.n - t) ≡ rounded_ben q d (d.n - s)
unfolding rounded_ben
ben_alike q c d t s zero here there interest matures alike =
    let none : c.n - t ≡ 0 = omega arith in
    let none' : d.n - s ≡ 0 = omega arith in
    rw (none, none') (ap (λ (b : Bool). if b then UNIT else 0) matures)
ben_alike q c d t s (suc years) here there interest matures alike =
    let later = ben_alike q c d (t + 1) (s + 1) years (omega arith) (omega arith) interest matures (alike_later c d t s years alike) in
    rw (rounded_ben-before q c t (omega arith), rounded_ben-before q d s (omega arith), alike_now c d t s years alike, later, interest) refl

-- the premiums with so many of them left
pub ann_alike : (q : ℕ → ℕ → ℕ) (c d : Cover) (t s years : ℕ) → t + years ≡ c.h → s + years ≡ d.h → c.h ≤ c.n → d.h ≤ d.n
    → c.interest ≡ d.interest → AreAlike c d t s years
    → rounded_ann q c (c.n - t) ≡ rounded_ann q d (d.n - s)
ann_alike q c d t s zero here there covered covered' interest alike =
    rounded_ann-after q c (c.n - t) (omega arith) ∙ sym (rounded_ann-after q d (d.n - s) (omega arith))
ann_alike q c d t s (suc years) here there covered covered' interest alike =
    let later = ann_alike q c d (t + 1) (s + 1) years (omega arith) (omega arith) covered covered' interest (alike_later c d t s years alike) in
    rw (
      rounded_ann-before q c t (omega arith) (omega arith),
      rounded_ann-before q d s (omega arith) (omega arith),
      alike_now c d t s years alike,
      later,
      interest,
    ) refl

-- by one table, from one attained age on
table_alike : (table : Rates) (shape : Shape) (bp : ℕ) (matures : Bool) (end t years : ℕ)
    → AreAlike (cover_of table shape bp) (cover_to table bp matures end (shape.age + t)) t 0 years
table_alike table shape bp matures end t years k below =
    let same : shape.age + (t + k) ≡ (shape.age + t) + (0 + k) = omega arith in
    ap (λ age. rate_at table age) same

-- the benefits of a cover at a year are those until the end of the cover at the attained age
pub benefits_are : (table : Rates) (shape : Shape) (bp t : ℕ) → t ≤ shape.n
    → pair_of (ben_lo (cover_of table shape bp) t) (ben_hi (cover_of table shape bp) t)
    ≡ benefits_to table bp shape.matures (shape.age + shape.n) (shape.age + t)
benefits_are table shape bp t within =
    let c = cover_of table shape bp in
    let end = shape.age + shape.n in
    let d = cover_to table bp shape.matures end (shape.age + t) in
    let alike = table_alike table shape bp shape.matures end t (shape.n - t) in
    let lo = ben_is_rounded down c t ∙ ben_alike down c d t 0 (shape.n - t) (omega arith) (omega arith) refl refl alike ∙ sym (ben_is_rounded down d 0) in
    let hi = ben_is_rounded up c t ∙ ben_alike up c d t 0 (shape.n - t) (omega arith) (omega arith) refl refl alike ∙ sym (ben_is_rounded up d 0) in
    ap (λ k. pair_of k (ben_hi c t)) lo ∙ ap (λ k. pair_of (ben_lo d 0) k) hi

-- the premiums of a cover at a year are those until the age of the last, or nothing
pub premiums_are : (table : Rates) (shape : Shape) (bp t : ℕ) → shape.h ≤ shape.n → t ≤ shape.h
    → pair_of (ann_lo (cover_of table shape bp) t) (ann_hi (cover_of table shape bp) t)
    ≡ premiums_to table bp (shape.age + shape.h) (shape.age + t)
premiums_are table shape bp t covered within =
    let c = cover_of table shape bp in
    let end = shape.age + shape.h in
    let d = cover_to table bp true end (shape.age + t) in
    let alike = table_alike table shape bp true end t (shape.h - t) in
    let lo = ann_is_rounded down c t ∙ ann_alike down c d t 0 (shape.h - t) (omega arith) (omega arith) covered (omega arith) refl alike ∙ sym (ann_is_rounded down d 0) in
    let hi = ann_is_rounded up c t ∙ ann_alike up c d t 0 (shape.h - t) (omega arith) (omega arith) covered (omega arith) refl alike ∙ sym (ann_is_rounded up d 0) in
    ap (λ k. pair_of k (ann_hi c t)) lo ∙ ap (λ k. pair_of (ann_lo d 0) k) hi

-- the values of a cover at a year, in the columns of its benefits and of its premiums
pub benefits_in : (table : Rates) (shape : Shape) (bp t : ℕ) → t ≤ shape.n
    → value_to table bp (benefit_stream shape.matures) (shape.age + shape.n) (shape.age + t)
    ≡ pair_of (ben_lo (cover_of table shape bp) t) (ben_hi (cover_of table shape bp) t)
benefits_in table shape bp t within = by_stream shape.matures ∙ sym (benefits_are table shape bp t within)
  where
    by_stream : (b : Bool) → value_to table bp (benefit_stream b) (shape.age + shape.n) (shape.age + t) ≡ benefits_to table bp b (shape.age + shape.n) (shape.age + t)
    by_stream true = refl
    by_stream false = refl

pub premiums_in : (table : Rates) (shape : Shape) (bp t : ℕ) → shape.h ≤ shape.n → t ≤ shape.h
    → value_to table bp Annuity (shape.age + shape.h) (shape.age + t)
    ≡ pair_of (ann_lo (cover_of table shape bp) t) (ann_hi (cover_of table shape bp) t)
premiums_in table shape bp t covered within = sym (premiums_are table shape bp t covered within)
