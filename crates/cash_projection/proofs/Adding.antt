-- What a policy adds to a tally.
use Rattle.cash_projection.proofs.Names.{◌≡◌, ℕ, ◌+◌, ◌-◌, ◌*◌, ◌<◌, ◌≤◌, inl, inr, refl, ap, ap₂, subst, ◌∙◌, arith, List, length, Bool, true, false, if◌then◌else◌, nat_eq, le_trans, eqb_tells, Policy, Rates, AreRates, UNIT, down, up, pair_at, Pair, alive_by, dying_by, Prospect, IsSmall, due, premium_due, death_due, maturity_due, premium_by, death_by, maturity_by, nothing_ahead, prospect_of, charged, IsOfIssue, rates_after, alive_pair, dying_pair, IsSurvivalPath, Fits, HasAdded, HasGained, HasRisen, IsIdle, sum_at, Sums, SurvivalPath, Tally}
use Rattle.policy_types.specs.declared.policy.Status.{Status}
use Rattle.policy_types.specs.declared.policy.Status.TheVariants.{InForce, Lapsed, Claimed, Matured, Expired, Settled, PaidUp}
use Rattle.rate_table.specs.declared.shape.Shape.{Shape}
use Rattle.cash_projection.proofs.Survivors.{alive_lo_most, alive_hi_most, dying_lo_most, dying_hi_most}
use Rattle.cash_projection.proofs.Dues.{due_cases, due_same, due_shifted, maturity_is}

-- a policy for which nothing is due
no_gain : (years : ℕ) (part : (ℕ → ℕ → ℕ) → ℕ → Prospect → ℕ) (p : Prospect) (sums : List Sums) → length sums ≡ 131
    → ((quotient : ℕ → ℕ → ℕ) (j : ℕ) → part quotient j p ≡ 0) → HasGained years part p sums sums
no_gain years part p sums places none = record {
  places = places;
  lo = λ j below. omega (arith, none down j);
  hi = λ j below. omega (arith, none up j);
}

none_of : (d x : ℕ) → d ≡ 0 → d * x ≡ 0
none_of d x none = rw none (omega arith)

pub idle_added : (old new : Tally) (words : ℕ) (p : Prospect) → IsIdle p → p.words ≡ words
    → length old.premium.sums ≡ 131 → length old.death.sums ≡ 131 → length old.maturity.sums ≡ 131
    → new.years ≡ old.years → new.policies ≡ old.policies + 1 → new.unvalued ≡ old.unvalued + words
    → new.premium ≡ old.premium → new.death ≡ old.death → new.maturity ≡ old.maturity → HasAdded old.years p old new
idle_added old new words p idle is a b d years policies unvalued premium death maturity = record {
  same = years;
  policies = policies;
  unvalued = rw is unvalued;
  premium = rw premium (no_gain old.years premium_by p old.premium.sums a (λ q j. none_of (premium_due p j) (alive_by q p.rates j) (idle.premium j)));
  death = rw death (no_gain old.years death_by p old.death.sums b (λ q j. none_of (death_due p j) (dying_by q p.rates j) (idle.death j)));
  maturity = rw maturity (no_gain old.years maturity_by p old.maturity.sums d (λ q j. none_of (maturity_due p j) (alive_by q p.rates (j + 1)) (idle.maturity j)));
}

-- after the last year of premiums, or of cover
due_after : (from to cents y : ℕ) → to ≤ y → due from to cents y ≡ 0
due_after from to cents y after = elim (due_cases from to cents y) [
  | inl a ↦ absurd (omega (arith, a.1))
  | inr a ↦ a.1
]

pub nothing_idle : (words : ℕ) → IsIdle (nothing_ahead words)
nothing_idle words = record {
  premium = λ j. due_after 0 0 0 (0 + j) (omega arith);
  death = λ j. due_after 0 0 0 (0 + j) (omega arith);
  maturity = λ j. refl;
}

ended : (matures : Bool) (t n amount j : ℕ) → n ≤ t → (if matures then (if nat_eq (t + j + 1) n then amount else 0) else 0) ≡ 0
ended false t n amount j after = refl
ended true t n amount j after = elim (eqb_tells (t + j + 1) n) [
  | inl a ↦ absurd (omega (arith, a.1))
  | inr a ↦ rw a.0 refl
]

pub ended_idle : (policy : Policy) (table : Rates) (shape : Shape) (t : ℕ) → shape.h ≤ shape.n → shape.n ≤ t → IsIdle (prospect_of policy table shape t)
ended_idle policy table shape t paid after = record {
  premium = λ j. due_after policy.paid shape.h (charged policy.status policy.premium) (t + j) (omega arith);
  death = λ j. due_after 0 shape.n policy.amount (t + j) (omega arith);
  maturity = λ j. ended shape.matures t shape.n policy.amount j after;
}

-- within the limits of the office
charged_most : (status : Status) (premium : ℕ) → charged status premium ≤ premium
charged_most InForce premium = omega arith
charged_most Lapsed premium = omega arith
charged_most Claimed premium = omega arith
charged_most Matured premium = omega arith
charged_most Expired premium = omega arith
charged_most Settled premium = omega arith
charged_most PaidUp premium = omega arith

pub small_charge : (policy : Policy) → IsOfIssue policy → charged policy.status policy.premium ≤ 10000000000
small_charge policy issued = le_trans (charged_most policy.status policy.premium) issued.premium_in.1

pub nothing_small : (words : ℕ) → words ≤ 1 → IsSmall (nothing_ahead words)
nothing_small words few = record {
  premium = omega arith;
  amount = omega arith;
  covered = omega arith;
  rates = λ j below. omega arith;
  years = omega arith;
  words = few;
}

pub prospect_small : (policy : Policy) (table : Rates) (shape : Shape) (t : ℕ) → IsOfIssue policy → Fits table shape → AreRates table
    → IsSmall (prospect_of policy table shape t)
prospect_small policy table shape t issued fits ages = record {
  premium = small_charge policy issued;
  amount = issued.amount_in.1;
  covered = fits.paid;
  rates = λ j below. ages.bound (shape.age + t + j - table.first_age) (omega (arith, fits.first, fits.last));
  years = omega (arith, fits.last, ages.ages);
  words = omega arith;
}

-- what is due times one number is so times an equal one
due_times : (from to cents y a b : ℕ) → (from ≤ y → y < to → a ≡ b) → due from to cents y * a ≡ due from to cents y * b
due_times from to cents y a b same = elim (due_cases from to cents y) [
  | inl h ↦ rw (same h.0 h.1) refl
  | inr h ↦ rw h.1 (omega arith)
]

column_gained : (years : ℕ) (part : (ℕ → ℕ → ℕ) → ℕ → Prospect → ℕ) (p : Prospect) (old new : List Sums) (from to cents : ℕ) (pairs : List Pair)
    → HasRisen from to cents pairs old new
    → ((j : ℕ) → j < years → due from to cents j * (pair_at pairs j).lo ≡ part down j p)
    → ((j : ℕ) → j < years → due from to cents j * (pair_at pairs j).hi ≡ part up j p) → HasGained years part p old new
column_gained years part p old new from to cents pairs risen lo hi = record {
  places = risen.places;
  lo = λ j below. risen.lo j ∙ ap (λ n. (sum_at old j).lo + n) (lo j below);
  hi = λ j below. risen.hi j ∙ ap (λ n. (sum_at old j).hi + n) (hi j below);
}

-- along the path of the age, the facts that the code has of each column
module _ (policy : Policy) (table : Rates) (shape : Shape) (t years : ℕ) (path : SurvivalPath) (fits : Fits table shape) (year : t < shape.n)
    (is : IsSurvivalPath table (shape.age + t) path) where
  alive_at : (j : ℕ) → t + j ≤ shape.n → pair_at path.alive j ≡ alive_pair (rates_after table (shape.age + t)) j
  alive_at j within = is.knows.alive j (omega (arith, is.whole, fits.last))

  dying_at : (j : ℕ) → t + j < shape.n → pair_at path.dying j ≡ dying_pair (rates_after table (shape.age + t)) j
  dying_at j within = is.knows.dying j (omega (arith, is.whole, fits.last))

  pub premium_gained : (old new : List Sums) (a b from to cents : ℕ) → a ≡ policy.paid - t → b ≡ shape.h - t → cents ≡ charged policy.status policy.premium
      → HasRisen from to cents path.alive old new → ((cents j : ℕ) → j < years → due from to cents j ≡ due a b cents j)
      → HasGained years premium_by (prospect_of policy table shape t) old new
  premium_gained old new a b from to given a_is b_is given_is given_risen given_same =
      let cents = charged policy.status policy.premium in
      let risen : HasRisen from to cents path.alive old new = subst (λ n. HasRisen from to n path.alive old new) given_is given_risen in
      let same = λ (cents j : ℕ) (below : j < years). given_same cents j below ∙ ap₂ (λ x y. due x y cents j) a_is b_is in
      column_gained years premium_by (prospect_of policy table shape t) old new from to cents path.alive risen
      (λ j below. rw (same cents j below, due_shifted policy.paid shape.h cents t j)
      (due_times policy.paid shape.h cents (t + j) _ _ (λ a b. ap (λ (p : Pair). p.lo) (alive_at j (omega (arith, b, fits.paid))))))
      (λ j below. rw (same cents j below, due_shifted policy.paid shape.h cents t j)
      (due_times policy.paid shape.h cents (t + j) _ _ (λ a b. ap (λ (p : Pair). p.hi) (alive_at j (omega (arith, b, fits.paid))))))

  death_years : (j : ℕ) → due 0 (shape.n - t) policy.amount j ≡ due 0 shape.n policy.amount (t + j)
  death_years j = due_same 0 (shape.n - t) 0 shape.n policy.amount j (t + j) (λ a b. (omega arith, omega (arith, b))) (λ a b. (omega arith, omega (arith, b)))

  pub alive_small : (to : ℕ) → to ≤ shape.n - t → (j : ℕ) → j < to → ((pair_at path.alive j).lo ≤ UNIT) × ((pair_at path.alive j).hi ≤ UNIT)
  alive_small to within j below =
      let rates = rates_after table (shape.age + t) in
      rw (alive_at j (omega arith)) (alive_lo_most rates j, alive_hi_most rates j)

  pub dying_small : AreRates table → (to : ℕ) → to ≤ shape.n - t → (j : ℕ) → j < to → ((pair_at path.dying j).lo ≤ UNIT) × ((pair_at path.dying j).hi ≤ UNIT)
  dying_small ages to within j below =
      let rates = rates_after table (shape.age + t) in
      let most = ages.bound (shape.age + t + j - table.first_age) (omega (arith, fits.first, fits.last)) in
      rw (dying_at j (omega arith)) (dying_lo_most rates j most, dying_hi_most rates j most)

  pub death_gained : (old new : List Sums) (from to : ℕ) → HasRisen from to policy.amount path.dying old new
      → ((cents j : ℕ) → j < years → due from to cents j ≡ due 0 (shape.n - t) cents j)
      → HasGained years death_by (prospect_of policy table shape t) old new
  death_gained old new from to risen same =
      let cents = policy.amount in
      column_gained years death_by (prospect_of policy table shape t) old new from to cents path.dying risen
      (λ j below. rw (same cents j below, death_years j)
      (due_times 0 shape.n cents (t + j) _ _ (λ a b. ap (λ (p : Pair). p.lo) (dying_at j b))))
      (λ j below. rw (same cents j below, death_years j)
      (due_times 0 shape.n cents (t + j) _ _ (λ a b. ap (λ (p : Pair). p.hi) (dying_at j b))))

  module _ (ages : AreRates table) (after : List Pair) (ends : (j : ℕ) → j < 131 → pair_at after j ≡ pair_at path.alive (j + 1)) where
    after_at : (j : ℕ) → j < shape.n - t → pair_at after j ≡ alive_pair (rates_after table (shape.age + t)) (j + 1)
    after_at j below = ends j (omega (arith, fits.last, ages.ages)) ∙ alive_at (j + 1) (omega arith)

    pub after_small : (to : ℕ) → to ≤ shape.n - t → (j : ℕ) → j < to → ((pair_at after j).lo ≤ UNIT) × ((pair_at after j).hi ≤ UNIT)
    after_small to within j below =
        let rates = rates_after table (shape.age + t) in
        rw (after_at j (omega arith)) (alive_lo_most rates (j + 1), alive_hi_most rates (j + 1))

    pub maturity_gained : (old new : List Sums) (first from to : ℕ) → first ≡ (if shape.matures then shape.n - t - 1 else shape.n - t)
        → HasRisen from to policy.amount after old new
        → ((cents j : ℕ) → j < years → due from to cents j ≡ due first (shape.n - t) cents j)
        → HasGained years maturity_by (prospect_of policy table shape t) old new
    maturity_gained old new first from to first_is risen same =
        let cents = policy.amount in
        let rates = rates_after table (shape.age + t) in
        column_gained years maturity_by (prospect_of policy table shape t) old new from to cents after risen
        (λ j below. rw (same cents j below)
        (due_times first (shape.n - t) cents j _ _ (λ a b. ap (λ (p : Pair). p.lo) (after_at j b))
        ∙ ap (λ d. d * alive_by down rates (j + 1)) (years_are j first first_is)))
        (λ j below. rw (same cents j below)
        (due_times first (shape.n - t) cents j _ _ (λ a b. ap (λ (p : Pair). p.hi) (after_at j b))
        ∙ ap (λ d. d * alive_by up rates (j + 1)) (years_are j first first_is)))
      where
        years_are : (j first : ℕ) → first ≡ (if shape.matures then shape.n - t - 1 else shape.n - t)
            → due first (shape.n - t) policy.amount j ≡ maturity_due (prospect_of policy table shape t) j
        years_are j first first_is = ap (λ f. due f (shape.n - t) policy.amount j) first_is ∙ maturity_is shape.matures t shape.n policy.amount j year
