-- What the counted total says of the decimal.
use Rattle.decimal_text.proofs.Names.{◌≡◌, ℕ, ◌+◌, ◌-◌, ◌*◌, ◌^◌, ◌<◌, ◌≤◌, ◌↔◌, IsTrue, Bool, true, false, [], ◌++◌, length, take, drop, min, sym, ap, ◌∙◌, arith, inl, inr, take_all, drop_all, cases_lt, number, AreDigits, Decimal, numerator, denominator, IsInUnits, IsAboveOne, IsTooFine}
use Rattle.decimal_text.specs.inside.Places.{Counts}
use Rattle.decimal_text.specs.declared.units.Units.{Units}
use Rattle.decimal_text.proofs.Pushes.{counted}
use Rattle.decimal_text.proofs.Measures.{Measures, measured, above_by_units, above_by_rest, value_is, at_most_one, no_multiple}

pub Counts-none : (places : ℕ) (units : Units) → units.count ≡ 0 → units.places ≡ places → units.is_exact ≡ true → Counts places [] units
Counts-none places units c p e =
    let none : take places [] ≡ [] = take_all {A = ℕ} places [] (omega arith) in
    let rest : drop places [] ≡ [] = drop_all {X = ℕ} places [] (omega arith) in
    record { count = c ∙ ap (λ s. min (number s) 1000000001) (sym none); left = omega arith; exact = (λ _. ap number rest, λ _. e) }

pub record Totals (decimal : Decimal) (total : ℕ) (is_exact : Bool) : Type 0 where
  pub units : ℕ
  pub below : ℕ
  pub measures : Measures (numerator decimal) (denominator decimal) units below
  pub total_is : total ≡ min units 1000000001
  pub exact_is : IsTrue is_exact ↔ (below ≡ 0)

pub totals : (d : Decimal) (places : ℕ) (units : Units) (total : ℕ) → AreDigits d.whole → AreDigits d.fraction → 0 < length d.whole + length d.fraction
    → places ≡ (length d.whole + 9 + d.raised) - d.lowered → Counts places (d.whole ++ d.fraction) units → total ≡ min (units.count * 10 ^ units.places) 1000000001
    → Totals d total units.is_exact
totals d places units total h k some e counts t =
    record {
      units = number (take places (d.whole ++ d.fraction)) * 10 ^ (places - length (d.whole ++ d.fraction));
      below = number (drop places (d.whole ++ d.fraction));
      measures = measured d.whole d.fraction d.raised d.lowered places h k some e;
      total_is = counted (number (take places (d.whole ++ d.fraction))) units.count (places - length (d.whole ++ d.fraction)) total counts.count (t ∙ ap (λ n. min (units.count * 10 ^ n) 1000000001) counts.left);
      exact_is = counts.exact;
    }

positive : (b : Bool) (n : ℕ) → (IsTrue b ↔ (n ≡ 0)) → b ≡ false → 0 < n
positive b n h e = elim (cases_lt 0 n) [ inl some ↦ some | inr none ↦ let yes : b ≡ true = h.1 (omega arith) in cc ]

pub many_units : (d : Decimal) (total : ℕ) (is_exact : Bool) → Totals d total is_exact → 1000000000 < total → IsAboveOne d
many_units d total is_exact t h = above_by_units _ _ t.units t.below t.measures (omega (arith, t.total_is))

pub one_and_more : (d : Decimal) (total : ℕ) (is_exact : Bool) → Totals d total is_exact → total ≡ 1000000000 → is_exact ≡ false → IsAboveOne d
one_and_more d total is_exact t h e = above_by_rest _ _ t.units t.below t.measures (omega (arith, t.total_is)) (positive is_exact t.below t.exact_is e)

pub exact_units : (d : Decimal) (total : ℕ) (is_exact : Bool) → Totals d total is_exact → total ≤ 1000000000 → is_exact ≡ true → IsInUnits total d
exact_units d total is_exact t h e =
    let same : total ≡ t.units = omega (arith, t.total_is) in
    ap (λ n. n * denominator d) same ∙ value_is _ _ t.units t.below t.measures (t.exact_is.0 e)

pub few_units : (d : Decimal) (total : ℕ) (is_exact : Bool) → Totals d total is_exact → total < 1000000000 → is_exact ≡ false → IsTooFine d
few_units d total is_exact t h e =
    (λ above. omega (arith, above, at_most_one _ _ t.units t.below t.measures (omega (arith, t.total_is))), no_multiple _ _ t.units t.below t.measures (positive is_exact t.below t.exact_is e))
