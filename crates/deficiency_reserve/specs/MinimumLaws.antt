-- Laws of the minimum reserve that follow from its definition.
use Rattle.std.specs.Prelude.{◌≡◌, ℕ, zero, suc, ◌+◌, ◌-◌, ◌*◌, ◌^◌, ◌<◌, ◌≤◌}
use Rattle.deficiency_reserve.specs.Names.{Fraction, whole, plus, times, Cover, year, survivors, ben, ann, beta, reserve}
use Rattle.deficiency_reserve.specs.Minimum.{minimum}

-- a ≤ b, by cross-multiplying
abbrev pub IsAtMost : Fraction → Fraction → Type 0
IsAtMost a b = a.num * b.den ≤ b.num * a.den

abbrev pub AreEqual : Fraction → Fraction → Type 0
AreEqual a b = a.num * b.den ≡ b.num * a.den

-- the premium that is charged for a year, per unit of amount
abbrev pub gross : ℕ → ℕ → Fraction
gross amount premium = record { num = premium; den = amount }

-- the value at year t of 1 at the start of year t + k
unfoldable pub deferred : Cover → ℕ → ℕ → Fraction
deferred c t k = record { num = survivors c t k * year c ^ (c.n - t - k); den = year c ^ (c.n - t) }

-- part 0 + .. + part (count - 1)
unfoldable pub total_below : (ℕ → Fraction) → ℕ → Fraction
total_below part zero = whole 0
total_below part (suc count) = plus (total_below part count) (part count)

-- the value at year t of what is due at the start of each year from t to h - 1
unfoldable pub value_of_dues : Cover → (ℕ → Fraction) → ℕ → Fraction
value_of_dues c due t = total_below (λ k. times (due (t + k)) (deferred c t k)) (c.h - t)

-- the same premium each year is worth the premium times the annuity, so counted year by year it subtracts as much
abbrev pub LevelDuesLaw : Type 0
LevelDuesLaw = (c : Cover) (premium : Fraction) (t : ℕ)
    → AreEqual (value_of_dues c (λ k. premium) t) (times premium (ann c t))

-- the minimum is never below the ordinary reserve
abbrev pub NeverBelowOrdinaryLaw : Type 0
NeverBelowOrdinaryLaw = (c cap : Cover) (amount premium t : ℕ) → IsAtMost (reserve c cap t) (minimum c cap amount premium t)

-- if the premium isn't short, both are equal
abbrev pub EqualWhereEnoughLaw : Type 0
EqualWhereEnoughLaw = (c cap : Cover) (amount premium t : ℕ) → IsAtMost (beta c cap) (gross amount premium)
    → AreEqual (minimum c cap amount premium t) (reserve c cap t)

-- the minimum falls, or stays, as the premium rises
abbrev pub FallsAsPremiumRisesLaw : Type 0
FallsAsPremiumRisesLaw = (c cap : Cover) (amount premium more t : ℕ) → 0 < amount → 0 < (reserve c cap t).den
    → premium ≤ more → IsAtMost (minimum c cap amount more t) (minimum c cap amount premium t)

-- once all premiums are paid it is the value of the benefits
abbrev pub PremiumsPaidLaw : Type 0
PremiumsPaidLaw = (c cap : Cover) (amount premium t : ℕ) → c.h ≤ t → AreEqual (minimum c cap amount premium t) (ben c t)
