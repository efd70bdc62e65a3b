-- For callers: what the years of a list of policies are.
use Rattle.cash_projection.proofs.Names.{◌≡◌, ap, sym, ◌∙◌, ℕ, ◌*◌, ◌<◌, ◌≤◌, arith, List, length, get_or, All, ℤ, subst, le_trans, le_of_mul-le-mul_right, most_commands, Policy, Pair, Dated, IsCash, rounded_year, IsCashOf, IsProspect, IsTellable, Year}
use Rattle.std.proofs.lemmas.List.FromFn.{length-map-range_with_len, get_or-map-range_with_len}
use Rattle.present_value.specs.Fractions.{Fraction}
use Rattle.cash_projection.proofs.Tallying.{zip_length}

-- bounds of at most 4,000,000 policies
few_cents : (count : ℕ) (exact : Fraction) (pair : Pair) → IsCash count exact pair → count ≤ most_commands
    → (pair.lo ≤ 100000000000000000) × (pair.hi ≤ 100000000000000000)
few_cents count exact pair is few =
    let order : pair.lo * exact.den ≤ pair.hi * exact.den = le_trans is.between.above is.between.below in
    let least : pair.lo ≤ pair.hi = le_of_mul-le-mul_right order is.between.proper in
    (omega (arith, is.most, least), omega (arith, is.most))

tellable : (count : ℕ) (a b d : Fraction) (year : Year) → IsCash count a year.premium → IsCash count b year.death → IsCash count d year.maturity → count ≤ most_commands
    → IsTellable year
tellable count a b d year premium death maturity few =
    let p = few_cents count a year.premium premium few in
    let q = few_cents count b year.death death few in
    let r = few_cents count d year.maturity maturity few in
    record { premium_lo = p.0; premium_hi = p.1; death_lo = q.0; death_hi = q.1; maturity_lo = r.0; maturity_hi = r.1 }

-- they can be printed
pub cash_tellable : (basis : List Dated) (on : ℤ) (policies : List Policy) (count unvalued : ℕ) (years : List Year)
    → IsCashOf basis on policies count unvalued years → length policies ≤ most_commands → All IsTellable years
cash_tellable basis on policies count unvalued years is few =
    λ j none below.
    let all : length is.prospects ≤ most_commands = omega (arith, zip_length (IsProspect basis on) policies is.prospects is.each) in
    let many : length years ≡ count = ap length is.rounded ∙ length-map-range_with_len (rounded_year is.prospects) 0 count in
    let within : j < count = omega (arith, many) in
    let year = is.exact j within in
    let told : get_or years j none ≡ rounded_year is.prospects j =
    ap (λ (ys : List Year). get_or ys j none) is.rounded
    ∙ get_or-map-range_with_len (rounded_year is.prospects) 0 count j j none within (omega arith) in
    subst IsTellable (sym told)
    (tellable (length is.prospects) _ _ _ (rounded_year is.prospects j) year.premium year.death year.maturity all)
