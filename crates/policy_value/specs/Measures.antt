-- What a policy is worth by each measure
use Rattle.std.specs.Prelude.{◌≡◌, ℕ, ◌*◌, ◌<◌, ⊤}
use Rattle.policy_value.specs.Names.{Policy, InForce, PaidUp, Cover, ben, beta, reserve, Encloses}
use Rattle.policy_types.specs.declared.policy.Status.{Status}
use Rattle.present_value.specs.Fractions.{Fraction}
use Rattle.present_value.specs.Rounding.{down, up}
use Rattle.present_value.specs.Mean.{mean_reserve, paid_up_mean}
use Rattle.crvm_reserve.specs.Rounded.{beta_bound, rounded, rounded_paid_up}
use Rattle.crvm_reserve.specs.RoundedMean.{rounded_mean, rounded_paid_up_mean}
use Rattle.deficiency_reserve.specs.Minimum.{minimum}
use Rattle.deficiency_reserve.specs.RoundedMinimum.{rounded_minimum}
use Rattle.deficiency_reserve.specs.Premiums.{Tells, adequacy_by}
use Rattle.deficiency_reserve.specs.declared.answer.Adequacy.TheVariants.{Enough}
use Rattle.policy_value.specs.declared.worth.Measure.{Measure}
use Rattle.policy_value.specs.declared.worth.Measure.TheVariants.{Terminal, Mean, Deficiency}
use Rattle.policy_value.specs.declared.worth.Worth.{Worth}
use Rattle.policy_value.specs.declared.worth.Worth.TheVariants.{Bounds, Both, Word}

-- the exact reserve per unit of amount at year t by a measure; for a paid-up policy no premium is subtracted, or
-- added to the mean reserve
abbrev pub exact_reserve : Measure → Status → Cover → Cover → ℕ → Fraction
exact_reserve Mean PaidUp c cap t = paid_up_mean c t
exact_reserve Mean _ c cap t = mean_reserve c cap t
exact_reserve _ PaidUp c cap t = ben c t
exact_reserve _ _ c cap t = reserve c cap t

-- the rounded bounds of the reserve for an amount by a measure
abbrev pub rounded_reserve : Measure → Status → Cover → Cover → ℕ → ℕ → ℕ × ℕ
rounded_reserve Mean PaidUp c cap amount t = rounded_paid_up_mean c amount t
rounded_reserve Mean _ c cap amount t = rounded_mean c cap amount t
rounded_reserve _ PaidUp c cap amount t = rounded_paid_up c amount t
rounded_reserve _ _ c cap amount t = rounded c cap amount t

-- the worth of a policy that isn't insured
abbrev pub no_reserve : Measure → Worth
no_reserve Deficiency = Both 0 0 0 0 Enough
no_reserve _ = Bounds 0 0

-- a premium is still due
abbrev pub IsPaying : Policy → Cover → ℕ → Type 0
IsPaying policy c t = (policy.status ≡ InForce) × (t < c.h)

-- the reserve, the minimum reserve, and how the premium compares with the net premium; if no premium is due, the
-- minimum is the reserve, and nothing is short
pub record IsBothOf (policy : Policy) (c cap : Cover) (t : ℕ) (worth : Worth) : Type 0 where
  pub paying : IsPaying policy c t → let ordinary = rounded c cap policy.amount t in
      let least = rounded_minimum c ordinary policy.amount policy.premium t in
      let test = adequacy_by (beta_bound down up c cap) (beta_bound up down c cap) policy.amount policy.premium in
      worth ≡ Both ordinary.0 ordinary.1 least.0 least.1 test
  pub other : (IsPaying policy c t → ⊥) → let ordinary = rounded_reserve Terminal policy.status c cap policy.amount t in
      worth ≡ Both ordinary.0 ordinary.1 ordinary.0 ordinary.1 Enough

-- the worth of a policy by a cover and its cap at year t
abbrev pub IsWorthOf : Measure → Policy → Cover → Cover → ℕ → Worth → Type 0
IsWorthOf Deficiency policy c cap t worth = IsBothOf policy c cap t worth
IsWorthOf measure policy c cap t worth =
    let bounds = rounded_reserve measure policy.status c cap policy.amount t in worth ≡ Bounds bounds.0 bounds.1

-- bounds enclose the exact reserve of the policy's amount by the measure, and other bounds the exact minimum reserve,
-- which differs from the reserve only for a policy in force; each pair of bounds differs by at most two cents; and if
-- a premium is due, the test says how it compares with the amount's exact net premium
abbrev pub IsExactFor : Measure → Policy → Cover → Cover → ℕ → Worth → Type 0
IsExactFor measure policy c cap t (Bounds lo hi) =
    Encloses lo hi policy.amount (exact_reserve measure policy.status c cap t)
IsExactFor measure policy c cap t (Both lo hi min_lo min_hi test) =
    Encloses lo hi policy.amount (exact_reserve Terminal policy.status c cap t)
    × Encloses min_lo min_hi policy.amount (exact_minimum policy.status)
    × (IsPaying policy c t → Tells test (beta c cap) policy.amount policy.premium)
  where
    exact_minimum : Status → Fraction
    exact_minimum InForce = minimum c cap policy.amount policy.premium t
    exact_minimum status = exact_reserve Terminal status c cap t
IsExactFor measure policy c cap t (Word word) = ⊤

-- the most that a bound may be: the amount; for a mean reserve, which includes a premium, twice the amount
abbrev pub most_worth : Measure → ℕ → ℕ
most_worth Mean amount = 2 * amount
most_worth _ amount = amount
