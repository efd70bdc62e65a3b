-- How many premiums have fallen due and weren't paid
use Rattle.policy_machine.proofs.Names.{◌≡◌, ℕ, zero, suc, ◌+◌, ◌-◌, ◌<◌, ◌≤◌, min, ◌⊎◌, inl, inr, Bool, true, false, cond, ap, ◌∙◌, arith, ℤ, int_le, cases_lt, ints, sum_by-cons, count_by-le-length, count_by, range_with_len, IsDay, anniversary_of, IsCompleted, Policy, IsSound, payments_of, premiums_missed}
use Rattle.std.proofs.lemmas.List.FromFn.{length-range_with_len}
use Rattle.life_dates.proofs.AnniversaryLemmas.{IsCompleted-come}

-- among n numbers from a on, those up to t are counted
count_by-up_to : (f : ℕ → Bool) (t a n : ℕ) → ((j : ℕ) → j < a + n → ((f j ≡ true) × (j ≤ t)) ⊎ ((f j ≡ false) × (t < j)))
    → count_by f (range_with_len a n) ≡ min (t + 1) (a + n) - a
count_by-up_to f t a zero tells = omega arith
count_by-up_to f t a (suc n) tells =
    let test : ℕ → ℕ = λ j. cond (f j) 1 0 in
    let more = sum_by-cons test a (range_with_len (a + 1) n) in
    let rest = count_by-up_to f t (a + 1) n (λ j lt. tells j (omega arith)) in
    elim (tells a (omega arith)) [
      | inl come ↦ let one : test a ≡ 1 = ap (λ b. cond b 1 0) come.0 in omega (arith, more, rest, one, come.1)
      | inr later ↦ let none : test a ≡ 0 = ap (λ b. cond b 1 0) later.0 in omega (arith, more, rest, none, later.1)
    ]

-- whether an anniversary has come by a day
come_tells : (issued day : ℤ) (t j : ℕ) → IsDay issued → IsCompleted issued day t → j ≤ 131
    → ((int_le (anniversary_of issued j) day ≡ true) × (j ≤ t)) ⊎ ((int_le (anniversary_of issued j) day ≡ false) × (t < j))
come_tells issued day t j h completed most =
    let come = IsCompleted-come issued day t j h completed most in
    elim (cases_lt t j) [
      | inl lt ↦ inr (grind (arith, ints), lt)
      | inr le ↦ inl (grind (arith, ints), le)
    ]

-- the premiums missed by a day are those up to the completed years, but for the paid ones
pub premiums_missed-by : (p : Policy) (day : ℤ) (t : ℕ) → IsSound p → IsCompleted p.issued day t → payments_of p ≤ 131
    → premiums_missed p day ≡ min (t + 1) (payments_of p) - p.paid
premiums_missed-by p day t sound completed most =
    let n : p.paid + (payments_of p - p.paid) ≡ payments_of p = omega (arith, sound.paid_in) in
    count_by-up_to (λ j. int_le (anniversary_of p.issued j) day) t p.paid (payments_of p - p.paid)
    (λ j lt. come_tells p.issued day t j sound.issue_in.day_in completed (omega (arith, n)))
    ∙ ap (λ k. min (t + 1) k - p.paid) n

-- no more than there are
pub premiums_missed-le : (p : Policy) (day : ℤ) → premiums_missed p day ≤ payments_of p - p.paid
premiums_missed-le p day =
    let range = range_with_len p.paid (payments_of p - p.paid) in
    omega (arith, count_by-le-length (λ j. int_le (anniversary_of p.issued j) day) range, length-range_with_len p.paid (payments_of p - p.paid))
