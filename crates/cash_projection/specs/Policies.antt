-- The prospect of a policy on a day by a basis, and the cash of a list of policies.
use Rattle.std.specs.Prelude.{◌≡◌, map, ℕ, ◌+◌, List, ℤ, false, ◌<◌}
use Rattle.cash_projection.specs.Names.{AllZip, range_with_len, sum_by, Policy, Rates, rate_at, table_along, Dated, Shape}
use Rattle.policy_types.specs.Valid.{IsIssue}
use Rattle.policy_types.specs.declared.policy.Status.{Status}
use Rattle.policy_types.specs.declared.policy.Status.TheVariants.{InForce}
use Rattle.policy_value.specs.Rows.{IsByEntry, IsYear}
use Rattle.cash_projection.specs.Prospects.{Prospect}
use Rattle.cash_projection.specs.Cash.{EnclosesExpected, rounded_year}
use Rattle.cash_projection.specs.declared.years.Year.{Year}

-- for an insured policy, by the rates of its age at issue, in the policy year t; a paid-up policy is charged no
-- premium
abbrev pub prospect_of : Policy → Rates → Shape → ℕ → Prospect
prospect_of policy table shape t = record {
  rates = λ j. rate_at table (shape.age + t + j);
  t = t;
  n = shape.n;
  h = shape.h;
  paid = policy.paid;
  premium = charged policy.status;
  amount = policy.amount;
  matures = shape.matures;
  words = 0;
}
  where
    charged : Status → ℕ
    charged InForce = policy.premium
    charged _ = 0

-- for a policy: one that isn't insured neither pays nor is paid, and neither does one without a value, which has a
-- word
abbrev pub IsProspect : List Dated → ℤ → Policy → Prospect → Type 0
IsProspect basis on policy p = IsByEntry basis on policy (p ≡ nothing_ahead 0) (λ why. p ≡ nothing_ahead 1)
    (λ entry shape. (t : ℕ) × IsYear policy.issued on shape.n t × (p ≡ prospect_of policy (table_along entry.table shape.age) shape t))
  where
    nothing_ahead : (words : ℕ) → Prospect
    nothing_ahead words = record { rates = λ j. 0; t = 0; n = 0; h = 0; paid = 0; premium = 0; amount = 0; matures = false; words = words }

abbrev pub IsOfIssue : Policy → Type 0
IsOfIssue p = IsIssue p.id p.issued p.plan p.age p.years p.amount p.premium

-- the years from the current one on are the rounded totals of the prospects of the policies, and so many policies
-- have a word
pub record IsCashOf (basis : List Dated) (on : ℤ) (policies : List Policy) (count unvalued : ℕ) (years : List Year) : Type 0 where
  pub prospects : List Prospect
  pub each : AllZip (IsProspect basis on) policies prospects
  pub words : unvalued ≡ sum_by (λ (p : Prospect). p.words) prospects
  pub rounded : years ≡ map (rounded_year prospects) (range_with_len 0 count)
  pub exact : (j : ℕ) → j < count → EnclosesExpected prospects j (rounded_year prospects j)
