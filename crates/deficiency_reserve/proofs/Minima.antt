-- The laws of the minimum reserve.
use Rattle.deficiency_reserve.proofs.Names.{◌≡◌, ℕ, ◌-◌, ◌*◌, ◌<◌, ◌≤◌, refl, sym, arith, Fraction, less, times, lesser, Cover, ben, ann, beta, reserve, Encloses, gross, greater, minimum, IsAtMost, AreEqual}
use Rattle.std.proofs.Math.Nat.{mul-pos, mul-le-mul_right, zero-mul}
use Rattle.present_value.proofs.Enclosing.{power_pos}
use Rattle.present_value.proofs.Fractions.{equal-between}
use Rattle.deficiency_reserve.proofs.Orders.{less-antitone, times-monotone, lesser-first, lesser-proper, lesser-monotone, greater-left, greater-monotone, greater-equal, greater-proper, middle-pos}

-- what is counted, each year the same
abbrev pub counted : Cover → Cover → ℕ → ℕ → Fraction
counted c cap amount premium = lesser (beta c cap) (gross amount premium)

pub ben-proper : (c : Cover) (t : ℕ) → 0 < (ben c t).den
unfolding ben
ben-proper c t = power_pos c (c.n - t)

pub ann-proper : (c : Cover) (t : ℕ) → 0 < (ann c t).den
unfolding ann
ann-proper c t = power_pos c (c.n - t)

pub beta-proper : (c cap : Cover) (t : ℕ) → 0 < (reserve c cap t).den → 0 < (beta c cap).den
unfolding reserve less times
beta-proper c cap t positive = middle-pos (ben c t).den (beta c cap).den (ann c t).den positive

gross-proper : (amount premium : ℕ) → 0 < amount → 0 < (gross amount premium).den
gross-proper amount premium positive = positive

pub counted-proper : (c cap : Cover) (amount premium t : ℕ) → 0 < amount → 0 < (reserve c cap t).den → 0 < (counted c cap amount premium).den
counted-proper c cap amount premium t some positive =
    lesser-proper (beta c cap) (gross amount premium) (beta-proper c cap t positive) (gross-proper amount premium some)

-- the benefits less what is counted
abbrev pub anew : Cover → Cover → ℕ → ℕ → ℕ → Fraction
anew c cap amount premium t = less (ben c t) (times (counted c cap amount premium) (ann c t))

pub anew-proper : (c cap : Cover) (amount premium t : ℕ) → 0 < amount → 0 < (reserve c cap t).den → 0 < (anew c cap amount premium t).den
unfolding less times
anew-proper c cap amount premium t some positive =
    mul-pos (ben-proper c t) (mul-pos (counted-proper c cap amount premium t some positive) (ann-proper c t))

pub minimum-proper : (c cap : Cover) (amount premium t : ℕ) → 0 < amount → 0 < (reserve c cap t).den → 0 < (minimum c cap amount premium t).den
unfolding minimum greater
minimum-proper c cap amount premium t some positive =
    greater-proper (reserve c cap t) (anew c cap amount premium t) positive (anew-proper c cap amount premium t some positive)

pub never_below : (c cap : Cover) (amount premium t : ℕ) → IsAtMost (reserve c cap t) (minimum c cap amount premium t)
unfolding minimum greater
never_below c cap amount premium t = greater-left (reserve c cap t) (anew c cap amount premium t)

-- if as much as a premium is counted, the reserve is that by the premium
pub anew_by : (c cap : Cover) (amount premium t : ℕ) (by : Fraction) → counted c cap amount premium ≡ by
    → AreEqual (anew c cap amount premium t) (less (ben c t) (times by (ann c t)))
anew_by c cap amount premium t by same = rw same refl

pub equal_where_enough : (c cap : Cover) (amount premium t : ℕ) → IsAtMost (beta c cap) (gross amount premium)
    → AreEqual (minimum c cap amount premium t) (reserve c cap t)
unfolding minimum greater reserve
equal_where_enough c cap amount premium t enough =
    greater-equal (reserve c cap t) (reserve c cap t) (anew c cap amount premium t) refl
    (anew_by c cap amount premium t (beta c cap) (lesser-first (beta c cap) (gross amount premium) enough))

counted-rises : (c cap : Cover) (amount premium more : ℕ) → 0 < amount → premium ≤ more
    → IsAtMost (counted c cap amount premium) (counted c cap amount more)
counted-rises c cap amount premium more some most =
    lesser-monotone (beta c cap) (gross amount premium) (gross amount more) some (mul-le-mul_right amount most)

pub falls : (c cap : Cover) (amount premium more t : ℕ) → 0 < amount → 0 < (reserve c cap t).den → premium ≤ more
    → IsAtMost (minimum c cap amount more t) (minimum c cap amount premium t)
unfolding minimum greater
falls c cap amount premium more t some positive most =
    greater-monotone (reserve c cap t) (anew c cap amount more t) (anew c cap amount premium t) (anew-proper c cap amount premium t some positive)
    (less-antitone (ben c t) (times (counted c cap amount premium) (ann c t)) (times (counted c cap amount more) (ann c t))
    (times-monotone (counted c cap amount premium) (counted c cap amount more) (ann c t) (counted-rises c cap amount premium more some most)))

-- nothing is subtracted
nothing_off : (xn xd an ad : ℕ) → an ≡ 0 → (xn * ad - an * xd) * xd ≡ xn * (xd * ad)
nothing_off xn xd an ad none =
    let all : xn * ad - 0 ≡ xn * ad = omega arith in
    rw (none, zero-mul xd, all) (omega arith)

less_nothing : (x a : Fraction) → a.num ≡ 0 → AreEqual (less x a) x
unfolding less
less_nothing x a none = nothing_off x.num x.den a.num a.den none

nothing_due : (c : Cover) (t : ℕ) → c.h ≤ t → (ann c t).num ≡ 0
unfolding ann
nothing_due c t paid = let none : c.h - t ≡ 0 = omega (arith, paid) in rw none refl

paid_off : (c : Cover) (t : ℕ) (by : Fraction) → c.h ≤ t → AreEqual (less (ben c t) (times by (ann c t))) (ben c t)
unfolding times
paid_off c t by paid = less_nothing (ben c t) (times by (ann c t)) (rw (nothing_due c t paid) (omega arith))

paid_reserve : (c cap : Cover) (t : ℕ) → c.h ≤ t → AreEqual (reserve c cap t) (ben c t)
unfolding reserve
paid_reserve c cap t paid = paid_off c t (beta c cap) paid

paid_anew : (c cap : Cover) (amount premium t : ℕ) → c.h ≤ t → AreEqual (anew c cap amount premium t) (ben c t)
paid_anew c cap amount premium t paid = paid_off c t (counted c cap amount premium) paid

pub once_paid : (c cap : Cover) (amount premium t : ℕ) → c.h ≤ t → AreEqual (minimum c cap amount premium t) (ben c t)
unfolding minimum greater
once_paid c cap amount premium t paid =
    greater-equal (ben c t) (reserve c cap t) (anew c cap amount premium t) (paid_reserve c cap t paid)
    (paid_anew c cap amount premium t paid)

-- bounds of the ordinary reserve serve once all premiums are paid
pub paid-encloses : (c cap : Cover) (amount premium t lo hi : ℕ) → 1 ≤ amount → c.h ≤ t → Encloses lo hi amount (reserve c cap t)
    → Encloses lo hi amount (minimum c cap amount premium t)
paid-encloses c cap amount premium t lo hi some paid encloses =
    let ordinary = encloses.between in
    let benefits = equal-between lo hi amount (reserve c cap t) (ben c t) (ben-proper c t) (paid_reserve c cap t paid) ordinary in
    record {
      between = equal-between lo hi amount (ben c t) (minimum c cap amount premium t)
          (minimum-proper c cap amount premium t (omega (arith, some)) ordinary.proper) (sym (once_paid c cap amount premium t paid)) benefits;
      narrow = encloses.narrow;
    }
