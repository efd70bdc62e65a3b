use Rattle.script_run.proofs.Names.{◌≡◌, ◌≤◌, ℕ, zero, suc, List, [], length, take, Some, ap, refl, inl, inr, codes, lit≤, arith, Appends, concat}
use Rattle.std.specs.Fmt.{digits}
use Rattle.script_run.specs.Worked.{two_texts}
use Rattle.script_run.proofs.worked.scripts_by_hand.Goals as goal

pub returns-clause-values : goal.returns-clause-values
returns-clause-values c = (refl, refl)

pub returns-clause-text : goal.returns-clause-text
unfolding digits
returns-clause-text c = refl

pub returns-clause-long : goal.returns-clause-long
returns-clause-long c = (
  (λ bytes many. record { more = (bytes, refl, omega (arith, many)); left = tt }),
  (λ bytes many gave.
      let same : length bytes ≡ length gave.more.0 = ap (λ (xs : List ℕ). length xs) gave.more.1 in
      omega (arith, many, same, gave.more.2)),
)

pub returns-clause-row : goal.returns-clause-row
unfolding digits
returns-clause-row c = inr (
  codes "9,lapse,1,2020-01-01",
  record { given = refl; ended = tt; left = tt; end = tt },
  lit≤ tt,
  (1, (1, c.faults_are_placed.ensures.clerk, inl refl)),
)

pub returns-clause-failed : goal.returns-clause-failed
returns-clause-failed c = ((lit≤ tt, inl refl), (λ h. let no : 1 ≤ 0 = h.0 in omega arith))

pub returns-clause-shown : goal.returns-clause-shown
returns-clause-shown c = refl

-- no front of the two texts is of three bytes
no_cut : (many : ℕ) → many ≤ 2 → Appends (Some []) (Some (codes "abc")) (concat (take many two_texts)) → ⊥
no_cut zero few is = let no : 3 ≡ 0 = ap length is in omega (arith, no)
no_cut (suc zero) few is = let no : 3 ≡ 2 = ap length is in omega (arith, no)
no_cut (suc (suc zero)) few is = let no : 3 ≡ 4 = ap length is in omega (arith, no)
no_cut (suc (suc (suc many))) few is = omega (arith, few)

pub returns-clause-short : goal.returns-clause-short
returns-clause-short c = (
  record { held = refl; many = 1; upto = lit≤ tt; wrote = refl; part = record { taken = 2; not_all = lit≤ tt; written = refl } },
  record { held = refl; many = 2; upto = lit≤ tt; wrote = refl; part = record { taken = 4; not_all = lit≤ tt; written = refl } },
  (λ cut. no_cut cut.many cut.upto cut.wrote),
  (λ failed. let no : 4 ≡ 3 = failed.held in omega (arith, no)),
)
