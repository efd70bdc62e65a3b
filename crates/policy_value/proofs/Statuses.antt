-- The reserves by the status of a policy, at the end of cover and if no premium is due
use Rattle.policy_value.proofs.Names.{◌≡◌, ℕ, ◌≤◌, refl, sym, InForce, Lapsed, Claimed, Matured, Expired, Settled, PaidUp, Cover, Encloses, Terminal, Mean, exact_reserve, rounded_reserve}
use Rattle.policy_types.specs.declared.policy.Status.{Status}
use Rattle.present_value.specs.Fractions.{Fraction}
use Rattle.present_value.specs.Mean.{mean_reserve}
use Rattle.crvm_reserve.proofs.MeanEnclosed.{mean_end, mean_reserve_end, paid_up_mean_end, paid_up_mean_reserve_end}
use Rattle.deficiency_reserve.specs.Minimum.{minimum}
use Rattle.deficiency_reserve.proofs.Minima.{paid-encloses}

-- the exact minimum reserve at a yearly premium for an amount
abbrev pub exact_minimum : Status → Cover → Cover → (amount premium t : ℕ) → Fraction
exact_minimum status c cap amount premium t = by status
  where
    by : Status → Fraction
    by InForce = minimum c cap amount premium t
    by other = exact_reserve Terminal other c cap t

-- for a policy that isn't paid up
pub mean-other : (status : Status) (c cap : Cover) (t : ℕ) → (status ≡ PaidUp → ⊥) → exact_reserve Mean status c cap t ≡ mean_reserve c cap t
mean-other InForce c cap t other = refl
mean-other Lapsed c cap t other = refl
mean-other Claimed c cap t other = refl
mean-other Matured c cap t other = refl
mean-other Expired c cap t other = refl
mean-other Settled c cap t other = refl
mean-other PaidUp c cap t other = absurd (other refl)

-- if no premium is due the bounds of the reserve serve for the minimum reserve
pub least-other : (status : Status) (c cap : Cover) (amount premium t lo hi : ℕ) → 1 ≤ amount → (status ≡ InForce → c.h ≤ t)
    → Encloses lo hi amount (exact_reserve Terminal status c cap t) → Encloses lo hi amount (exact_minimum status c cap amount premium t)
least-other InForce c cap amount premium t lo hi some paid encloses = paid-encloses c cap amount premium t lo hi some (paid refl) encloses
least-other Lapsed c cap amount premium t lo hi some paid encloses = encloses
least-other Claimed c cap amount premium t lo hi some paid encloses = encloses
least-other Matured c cap amount premium t lo hi some paid encloses = encloses
least-other Expired c cap amount premium t lo hi some paid encloses = encloses
least-other Settled c cap amount premium t lo hi some paid encloses = encloses
least-other PaidUp c cap amount premium t lo hi some paid encloses = encloses

-- at the end of cover the mean reserve is the terminal one
pub exact-end : (status : Status) (c cap : Cover) (t : ℕ) → c.n ≤ t → exact_reserve Mean status c cap t ≡ exact_reserve Terminal status c cap t
exact-end InForce c cap t end = mean_reserve_end c cap t end
exact-end Lapsed c cap t end = mean_reserve_end c cap t end
exact-end Claimed c cap t end = mean_reserve_end c cap t end
exact-end Matured c cap t end = mean_reserve_end c cap t end
exact-end Expired c cap t end = mean_reserve_end c cap t end
exact-end Settled c cap t end = mean_reserve_end c cap t end
exact-end PaidUp c cap t end = paid_up_mean_reserve_end c t end

pub rounded-end : (status : Status) (c cap : Cover) (amount t : ℕ) → c.n ≤ t
    → rounded_reserve Mean status c cap amount t ≡ rounded_reserve Terminal status c cap amount t
rounded-end InForce c cap amount t end = sym (mean_end c cap amount t end)
rounded-end Lapsed c cap amount t end = sym (mean_end c cap amount t end)
rounded-end Claimed c cap amount t end = sym (mean_end c cap amount t end)
rounded-end Matured c cap amount t end = sym (mean_end c cap amount t end)
rounded-end Expired c cap amount t end = sym (mean_end c cap amount t end)
rounded-end Settled c cap amount t end = sym (mean_end c cap amount t end)
rounded-end PaidUp c cap amount t end = sym (paid_up_mean_end c amount t end)
