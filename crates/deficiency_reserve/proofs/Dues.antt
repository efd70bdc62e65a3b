-- What is due each year, as a sum over the years.
use Rattle.deficiency_reserve.proofs.Names.{◌≡◌, ℕ, zero, suc, ◌+◌, ◌-◌, ◌*◌, ◌^◌, ap, arith, Fraction, whole, plus, times, Cover, year, survivors, sum_below, sum_below-is, ann, deferred, total_below, value_of_dues, AreEqual}

-- one more year
one_more : (tn td d xn s f : ℕ) → tn * d ≡ xn * s * td → (tn * d + (xn * f) * td) * d ≡ xn * (s + f) * (td * d)
one_more tn td d xn s f before = let spread = ap (λ n. n * d) before in omega arith

total_level : (c : Cover) (x : Fraction) (t count : ℕ)
    → (total_below (λ k. times x (deferred c t k)) count).num * (x.den * year c ^ (c.n - t))
    ≡ x.num * sum_below (λ k. survivors c t k * year c ^ (c.n - t - k)) count * (total_below (λ k. times x (deferred c t k)) count).den
unfolding total_below sum_below deferred plus times whole
total_level c x t zero = omega arith
total_level c x t (suc count) =
    let total = total_below (λ k. times x (deferred c t k)) count in
    one_more total.num total.den (x.den * year c ^ (c.n - t)) x.num
    (sum_below (λ k. survivors c t k * year c ^ (c.n - t - k)) count) (survivors c t count * year c ^ (c.n - t - count))
    (total_level c x t count)

-- the same payment each year is worth that payment times the annuity
pub level : (c : Cover) (x : Fraction) (t : ℕ) → AreEqual (value_of_dues c (λ k. x) t) (times x (ann c t))
unfolding value_of_dues times ann
level c x t = rw (sum_below-is (λ k. survivors c t k * year c ^ (c.n - t - k)) (c.h - t)) (total_level c x t (c.h - t))
