use Rattle.decimal_text.proofs.Names.{◌≡◌, ℕ, List, [], ◌∷◌, ◌++◌, ◌+◌, ◌<◌, length, refl, inl, inr, codes, lit≤, lit<, arith, IsPlain}
use Rattle.decimal_text.proofs.Spelt.{spelt}
use Rattle.decimal_text.proofs.worked.rates_by_hand.Goals as goal

-- an empty text has no digit, and neither has a text that is a point alone
no_digit : (text plain exponent whole fraction : List ℕ) → text ≡ plain ++ exponent → IsPlain plain whole fraction → 0 < length whole + length fraction → text ≡ [] → ⊥
no_digit text [] exponent [] [] joined (inl is) some e = omega (arith, some)
no_digit text [] exponent (w ∷ whole) fraction joined (inl is) some e = let no = is.0 in cc
no_digit text [] exponent [] (f ∷ fraction) joined (inl is) some e = let no = is.1 in cc
no_digit text [] exponent [] fraction joined (inr is) some e = cc
no_digit text [] exponent (w ∷ whole) fraction joined (inr is) some e = cc
no_digit text (p ∷ plain) exponent whole fraction joined is some e = cc

pub returns-clause-plain : goal.returns-clause-plain
returns-clause-plain c = (
  (
    record { whole = codes "0"; fraction = codes "00042"; raised = 0; lowered = 0 },
    spelt (codes "0.00042") (codes "0") (codes "00042") (inr refl) (lit< tt, tt) (lit< tt, (lit< tt, (lit< tt, (lit< tt, (lit< tt, tt))))) (lit≤ tt),
    refl,
    lit≤ tt,
  ),
  (
    record { whole = codes "1"; fraction = []; raised = 0; lowered = 0 },
    spelt (codes "1") (codes "1") [] (inl (refl, refl)) (lit< tt, tt) tt (lit≤ tt),
    refl,
    lit≤ tt,
  ),
  (
    record { whole = []; fraction = codes "5"; raised = 0; lowered = 0 },
    spelt (codes ".5") [] (codes "5") (inr refl) tt (lit< tt, tt) (lit≤ tt),
    refl,
    lit≤ tt,
  ),
  (
    record { whole = codes "1"; fraction = []; raised = 0; lowered = 0 },
    spelt (codes "1.") (codes "1") [] (inr refl) (lit< tt, tt) tt (lit≤ tt),
    refl,
    lit≤ tt,
  ),
  (
    record { whole = codes "0"; fraction = []; raised = 0; lowered = 0 },
    spelt (codes "0") (codes "0") [] (inl (refl, refl)) (lit< tt, tt) tt (lit≤ tt),
    refl,
    lit≤ tt,
  ),
)

pub returns-clause-scaled : goal.returns-clause-scaled
returns-clause-scaled c = (
  (
    record { whole = codes "7"; fraction = codes "5"; raised = 0; lowered = 5 },
    record {
      plain = codes "7.5";
      exponent = codes "E-05";
      joined = refl;
      plain_is = inr refl;
      exponent_is = (inl refl, (codes "05", (lit≤ tt, (lit< tt, (lit< tt, tt))), lit≤ tt, inr (refl, refl, refl)));
      whole_digits = (lit< tt, tt);
      fraction_digits = (lit< tt, tt);
      some_digit = lit≤ tt;
    },
    refl,
    lit≤ tt,
  ),
  (
    record { whole = codes "0"; fraction = codes "1"; raised = 1; lowered = 0 },
    record {
      plain = codes "0.1";
      exponent = codes "e1";
      joined = refl;
      plain_is = inr refl;
      exponent_is = (inr refl, (codes "1", (lit≤ tt, (lit< tt, tt)), lit≤ tt, inl (inl refl, refl, refl)));
      whole_digits = (lit< tt, tt);
      fraction_digits = (lit< tt, tt);
      some_digit = lit≤ tt;
    },
    refl,
    lit≤ tt,
  ),
  (
    record { whole = codes "0"; fraction = codes "02"; raised = 1; lowered = 0 },
    record {
      plain = codes "0.02";
      exponent = codes "E+1";
      joined = refl;
      plain_is = inr refl;
      exponent_is = (inl refl, (codes "1", (lit≤ tt, (lit< tt, tt)), lit≤ tt, inl (inr refl, refl, refl)));
      whole_digits = (lit< tt, tt);
      fraction_digits = (lit< tt, (lit< tt, tt));
      some_digit = lit≤ tt;
    },
    refl,
    lit≤ tt,
  ),
)

pub returns-clause-none : goal.returns-clause-none
returns-clause-none c = λ rate is. no_digit [] is.1.plain is.1.exponent is.0.whole is.0.fraction is.1.joined is.1.plain_is is.1.some_digit refl
