-- In which years something is due.
use Rattle.cash_projection.proofs.Names.{◌≡◌, ℕ, suc, ◌+◌, ◌-◌, ◌<◌, ◌≤◌, ◌⊎◌, inl, inr, min, refl, sym, ◌∙◌, arith, Bool, true, false, if◌then◌else◌, nat_eq, leb_tells, eqb_tells, Prospect, due, maturity_due}

pub due_cases : (from to cents y : ℕ) → ((from ≤ y) × (y < to) × (due from to cents y ≡ cents)) ⊎ ((from ≤ y → to ≤ y) × (due from to cents y ≡ 0))
due_cases from to cents y = elim (leb_tells from y) [
  | inl a ↦ elim (leb_tells (suc y) to) [
    | inl b ↦ inl (a.1, b.1, rw (a.0, b.0) refl)
    | inr b ↦ inr ((λ _. omega (arith, b.1)), rw (a.0, b.0) refl)
  ]
  | inr a ↦ inr ((λ h. absurd (omega (arith, a.1, h))), rw a.0 refl)
]

pub due_same : (from to from' to' cents y z : ℕ) → (from ≤ y → y < to → (from' ≤ z) × (z < to')) → (from' ≤ z → z < to' → (from ≤ y) × (y < to))
    → due from to cents y ≡ due from' to' cents z
due_same from to from' to' cents y z there back = elim (due_cases from to cents y) [
  | inl a ↦ elim (due_cases from' to' cents z) [
    | inl b ↦ a.2 ∙ sym b.2
    | inr b ↦
        let h = there a.0 a.1 in
        absurd (omega (arith, b.0 h.0, h.1))
  ]
  | inr a ↦ elim (due_cases from' to' cents z) [
    | inl b ↦
        let h = back b.0 b.1 in
        absurd (omega (arith, a.0 h.0, h.1))
    | inr b ↦ a.1 ∙ sym b.1
  ]
]

pub due_most : (from to cents y : ℕ) → due from to cents y ≤ cents
due_most from to cents y = elim (due_cases from to cents y) [
  | inl a ↦ omega (arith, a.2)
  | inr a ↦ omega (arith, a.1)
]

-- from the current year on
pub due_shifted : (from to cents t j : ℕ) → due (from - t) (to - t) cents j ≡ due from to cents (t + j)
due_shifted from to cents t j = due_same (from - t) (to - t) from to cents j (t + j) (λ a b. (omega (arith, a, b), omega (arith, a, b))) (λ a b. (omega (arith, a, b), omega (arith, a, b)))

-- the same within a number of years
pub due_within : (from to years first last cents j : ℕ) → last ≡ min to years → first ≡ min from last → j < years → due first last cents j ≡ due from to cents j
due_within from to years first last cents j last_is first_is below =
    due_same first last from to cents j j (λ a b. (omega (arith, a, b), omega (arith, a, b))) (λ a b. (omega (arith, a, b), omega (arith, a, b)))

pub maturity_most : (p : Prospect) (j : ℕ) → maturity_due p j ≤ p.amount
maturity_most p j = most p.matures
  where
    most : (m : Bool) → (if m then (if nat_eq (p.t + j + 1) p.n then p.amount else 0) else 0) ≤ p.amount
    most false = omega arith
    most true = elim (eqb_tells (p.t + j + 1) p.n) [
      | inl a ↦ rw a.0 (omega arith)
      | inr a ↦ rw a.0 (omega arith)
    ]

-- the end of cover
pub maturity_is : (matures : Bool) (t n amount j : ℕ) → t < n
    → due (if matures then n - t - 1 else n - t) (n - t) amount j ≡ (if matures then (if nat_eq (t + j + 1) n then amount else 0) else 0)
maturity_is false t n amount j below = elim (due_cases (n - t) (n - t) amount j) [
  | inl a ↦ absurd (omega (arith, a.0, a.1))
  | inr a ↦ a.1
]
maturity_is true t n amount j below = elim (due_cases (n - t - 1) (n - t) amount j) [
  | inl a ↦ elim (eqb_tells (t + j + 1) n) [
    | inl b ↦ rw b.0 a.2
    | inr b ↦ absurd (b.1 (omega (arith, a.0, a.1)))
  ]
  | inr a ↦ elim (eqb_tells (t + j + 1) n) [
    | inl b ↦ absurd (omega (arith, a.0 (omega (arith, b.1)), b.1))
    | inr b ↦ rw b.0 a.1
  ]
]
