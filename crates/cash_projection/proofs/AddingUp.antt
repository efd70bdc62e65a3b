-- Deaths and survivors add up.
use Rattle.cash_projection.proofs.Names.{◌≡◌, ℕ, zero, suc, ◌+◌, ◌-◌, ◌*◌, ◌^◌, ◌<◌, ◌≤◌, inl, inr, refl, sym, ap, ◌∙◌, arith, true, add-one, mul-zero, eqb_tells, ONE, alive, dying, Prospect, death_due, maturity_due}
use Rattle.std.proofs.Math.Nat.{mul-le-mul_left, pow-succ', pow-zero, mul-add}
use Rattle.present_value.proofs.Recursions.{sum_below, sum_below-is}
use Rattle.cash_projection.specs.Laws.{NeverRiseLaw, AddUpLaw, deaths_of}
use Rattle.cash_projection.proofs.Dues.{due_cases}

pub never_rise : NeverRiseLaw
unfolding alive
never_rise = record {
  survivors = λ rates j. rw (add-one j) (let part : ONE - rates j ≤ ONE = omega arith in mul-le-mul_left (alive rates j) part);
  and_dying = λ rates j most. rw (add-one j) (split (alive rates j) (rates j) most);
}
  where
    split : (a r : ℕ) → r ≤ ONE → a * (ONE - r) + a * r ≡ a * ONE
    split a r most =
        let whole : ONE - r + r ≡ ONE = omega arith in
        sym (mul-add a (ONE - r) r) ∙ ap (λ w. a * w) whole

-- a sum in which each term is the same multiple of another sum's term
scaled_sum : (a : ℕ) (f g : ℕ → ℕ) (count : ℕ) → ((k : ℕ) → k < count → f k ≡ a * g k) → sum_below f count ≡ a * sum_below g count
unfolding sum_below
scaled_sum a f g zero same = sym (mul-zero a)
scaled_sum a f g (suc count) same =
    let before = scaled_sum a f g count (λ k below. same k (omega arith)) in
    let last = same count (omega arith) in
    let spread = mul-add a (sum_below g count) (g count) in
    omega arith

-- for one life that is alive now
unfoldable pub deaths_to : (ℕ → ℕ) → ℕ → ℕ
deaths_to rates left = sum_below (λ j. dying rates j * ONE ^ (left - (j + 1))) left

term_later : (rates : ℕ → ℕ) (left k : ℕ) → k < left → dying rates k * ONE ^ (suc left - (k + 1)) ≡ ONE * (dying rates k * ONE ^ (left - (k + 1)))
term_later rates left k below =
    let power : suc left - (k + 1) ≡ suc (left - (k + 1)) = omega arith in
    rw (power, pow-succ' ONE (left - (k + 1))) (omega arith)

last_term : (rates : ℕ → ℕ) (left : ℕ) → dying rates left * ONE ^ (suc left - (left + 1)) ≡ dying rates left
last_term rates left =
    let power : suc left - (left + 1) ≡ 0 = omega arith in
    rw (power, pow-zero ONE) (omega arith)

alive_none : (rates : ℕ → ℕ) → 0 + alive rates 0 ≡ 1
unfolding alive
alive_none rates = omega arith

pub all_add_up : (rates : ℕ → ℕ) (left : ℕ) → ((j : ℕ) → j < left → rates j ≤ ONE) → deaths_to rates left + alive rates left ≡ ONE ^ left
unfolding deaths_to sum_below
all_add_up rates zero most = alive_none rates
all_add_up rates (suc left) most =
    let before = all_add_up rates left (λ j below. most j (omega arith)) in
    let earlier = scaled_sum ONE (λ j. dying rates j * ONE ^ (suc left - (j + 1))) (λ j. dying rates j * ONE ^ (left - (j + 1))) left (term_later rates left) in
    let last = last_term rates left in
    let year = rw (add-one left) at (never_rise.and_dying rates left (most left (omega arith))) in
    rw (pow-succ' ONE left, earlier, last) (omega (arith, before, year))

death_within : (p : Prospect) (left j : ℕ) → p.t + left ≡ p.n → j < left → death_due p j ≡ p.amount
death_within p left j whole below = elim (due_cases 0 p.n p.amount (p.t + j)) [
  | inl a ↦ a.2
  | inr a ↦ absurd (omega (arith, a.0 (omega arith)))
]

deaths_are : (p : Prospect) (left : ℕ) → p.t + left ≡ p.n → deaths_of p left ≡ p.amount * deaths_to p.rates left
unfolding deaths_to
deaths_are p left whole =
    sum_below-is (λ j. death_due p j * dying p.rates j * ONE ^ (left - (j + 1))) left
    ∙ scaled_sum p.amount (λ j. death_due p j * dying p.rates j * ONE ^ (left - (j + 1))) (λ j. dying p.rates j * ONE ^ (left - (j + 1))) left
    (λ k below. rw (death_within p left k whole below) (omega arith))

term_adds_up : (p : Prospect) (left : ℕ) → p.t + left ≡ p.n → ((j : ℕ) → j < left → p.rates j ≤ ONE)
    → deaths_of p left + p.amount * alive p.rates left ≡ p.amount * ONE ^ left
term_adds_up p left whole most =
    let all = all_add_up p.rates left most in
    rw (deaths_are p left whole) (sym (mul-add p.amount (deaths_to p.rates left) (alive p.rates left)) ∙ ap (λ w. p.amount * w) all)

maturity_at_end : (p : Prospect) (left : ℕ) → p.matures ≡ true → p.t + left ≡ p.n → 1 ≤ left → maturity_due p (left - 1) ≡ p.amount
maturity_at_end p left matures whole some = elim (eqb_tells (p.t + (left - 1) + 1) p.n) [
  | inl a ↦ rw (matures, a.0) refl
  | inr a ↦ absurd (a.1 (omega arith))
]

pub add_up : AddUpLaw
add_up = record {
  matures = λ p left matures whole some most. rw (maturity_at_end p left matures whole some) (term_adds_up p left whole most);
  term = term_adds_up;
}
