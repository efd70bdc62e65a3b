-- The value of a decimal in units, from the places of its digits.
use Rattle.decimal_text.proofs.Names.{◌≡◌, ℕ, ◌+◌, ◌-◌, ◌*◌, ◌^◌, ◌<◌, ◌≤◌, inl, inr, List, ◌++◌, length, take, drop, refl, sym, ap, ◌∙◌, arith, length-append, take-append-drop, take_all, drop_all, length-drop, cases_lt, number, AreDigits}
use Rattle.std.proofs.lemmas.Nat.{pow-add}
use Rattle.std.proofs.Math.Nat.{mul-le-mul_left, mul-le-mul_right, mul-lt-mul_of_pos_right, mul-pos, one-le-pow, mul-one, mul_assoc}
use Rattle.std.proofs.lemmas.Int.Digits.{digits_value-lt}
use Rattle.decimal_text.proofs.Numbers.{number-append, AreDigits-append, AreDigits-drop}

-- so many whole units and a rest, which is 0 exactly if no digit but 0 stands below the units
pub record Measures (top bottom units below : ℕ) : Type 0 where
  pub rest : ℕ
  pub split : 1000000000 * top ≡ units * bottom + rest
  pub small : rest < bottom
  pub none : below ≡ 0 → rest ≡ 0
  pub some : 0 < below → 0 < rest

whole_split : (d a b c : ℕ) → a * b ≡ 1000000000 * c → 1000000000 * (d * c) ≡ d * a * b + 0
whole_split d a b c e = rw (mul_assoc d a b, e) (omega arith)

near_split : (kept below k c b : ℕ) → b ≡ k * (1000000000 * c) → 1000000000 * ((kept * k + below) * c) ≡ kept * b + below * (1000000000 * c)
near_split kept below k c b e = rw e (omega arith)

cut_split : (kept below k c b far : ℕ) → b ≡ k * (1000000000 * c) * 10 ^ far → (0 < far → kept ≡ 0) → 1000000000 * ((kept * k + below) * c) ≡ kept * b + below * (1000000000 * c)
cut_split kept below k c b far e none =
    elim (cases_lt 0 far) [
      | inl some ↦ rw (none some) (omega arith)
      | inr past ↦
          let zero_far : far ≡ 0 = omega arith in
          near_split kept below k c b (e ∙ ap (λ n. k * (1000000000 * c) * 10 ^ n) zero_far ∙ mul-one (k * (1000000000 * c)))
    ]

no_rest : (below r : ℕ) → below ≡ 0 → below * r ≡ 0
no_rest below r h = rw h (omega arith)

cut_small : (below k r f b : ℕ) → b ≡ k * r * f → below < k → 0 < r → 1 ≤ f → below * r < b
cut_small below k r f b e h p q =
    let near : below * r < k * r = mul-lt-mul_of_pos_right h p in
    let far : k * r * 1 ≤ k * r * f = mul-le-mul_left (k * r) q in
    omega arith

-- the digits end above or at the place of a unit
measured_whole : (digits raised down left : ℕ) → left + down ≡ 9 + raised → Measures (digits * 10 ^ raised) (10 ^ down) (digits * 10 ^ left) 0
measured_whole digits raised down left e =
    let tens : 10 ^ left * 10 ^ down ≡ 1000000000 * 10 ^ raised = sym (pow-add 10 left down) ∙ ap (λ n. 10 ^ n) e ∙ pow-add 10 9 raised in
    record { rest = 0; split = whole_split digits (10 ^ left) (10 ^ down) (10 ^ raised) tens; small = one-le-pow down 10 (omega arith); none = λ h. refl; some = λ h. h }

-- k digits come after the units; if the point is too far to the left of them, there is no unit at all
measured_cut : (kept below k raised down far : ℕ) → below < 10 ^ k → down ≡ k + (9 + raised) + far → (0 < far → kept ≡ 0)
    → Measures ((kept * 10 ^ k + below) * 10 ^ raised) (10 ^ down) kept below
measured_cut kept below k raised down far small e none =
    let tens : 10 ^ down ≡ 10 ^ k * (1000000000 * 10 ^ raised) * 10 ^ far = ap (λ n. 10 ^ n) e ∙ pow-add 10 (k + (9 + raised)) far ∙ ap (λ n. n * 10 ^ far) (pow-add 10 k (9 + raised) ∙ ap (λ n. 10 ^ k * n) (pow-add 10 9 raised)) in
    let positive : 0 < 1000000000 * 10 ^ raised = omega (arith, one-le-pow raised 10 (omega arith)) in
    record {
      rest = below * (1000000000 * 10 ^ raised);
      split = cut_split kept below (10 ^ k) (10 ^ raised) (10 ^ down) far tens none;
      small = cut_small below (10 ^ k) (1000000000 * 10 ^ raised) (10 ^ far) (10 ^ down) tens small positive (one-le-pow far 10 (omega arith));
      none = λ h. no_rest below (1000000000 * 10 ^ raised) h;
      some = λ h. mul-pos h positive;
    }

abbrev digits_of : List ℕ → List ℕ → List ℕ
digits_of whole fraction = whole ++ fraction

cut_number : (places : ℕ) (s : List ℕ) → number (take places s) * 10 ^ length (drop places s) + number (drop places s) ≡ number s
cut_number places s = sym (number-append (take places s) (drop places s)) ∙ ap number (take-append-drop places s)

none_taken : (places : ℕ) (s : List ℕ) → places ≡ 0 → number (take places s) ≡ 0
none_taken places s h = rw h refl

measured_units : (s : List ℕ) (w f raised lowered places : ℕ) → AreDigits s → length s ≡ w + f → 0 < w + f → places ≡ (w + 9 + raised) - lowered
    → Measures (number s * 10 ^ raised) (10 ^ (f + lowered)) (number (take places s) * 10 ^ (places - length s)) (number (drop places s))
measured_units s w f raised lowered places digits long some e =
    elim (cases_lt places (length s)) [
      | inl short ↦
          let k : length (drop places s) ≡ length s - places = length-drop places s in
          let none : (0 < f + lowered - (length (drop places s) + (9 + raised))) → number (take places s) ≡ 0 = λ far. none_taken places s (omega arith) in
          let cut = measured_cut (number (take places s)) (number (drop places s)) (length (drop places s)) raised (f + lowered) (f + lowered - (length (drop places s) + (9 + raised)))
          (digits_value-lt 10 (drop places s) (AreDigits-drop places s digits)) (omega arith) none in
          let over : places - length s ≡ 0 = omega arith in
          rw (over, mul-one (number (take places s))) (rw (cut_number places s) at cut)
      | inr past ↦
          rw (take_all places s past, drop_all places s past) (measured_whole (number s) raised (f + lowered) (places - length s) (omega arith))
    ]

pub measured : (whole fraction : List ℕ) (raised lowered places : ℕ) → AreDigits whole → AreDigits fraction → 0 < length whole + length fraction
    → places ≡ (length whole + 9 + raised) - lowered
    → Measures (number (whole ++ fraction) * 10 ^ raised) (10 ^ (length fraction + lowered)) (number (take places (whole ++ fraction)) * 10 ^ (places - length (whole ++ fraction))) (number (drop places (whole ++ fraction)))
measured whole fraction raised lowered places h k some e =
    measured_units (whole ++ fraction) (length whole) (length fraction) raised lowered places (AreDigits-append whole fraction h k) (length-append whole fraction) some e

-- what the whole units and the rest say of the value
pub above_by_units : (top bottom units below : ℕ) → Measures top bottom units below → 1000000000 < units → bottom < top
above_by_units top bottom units below m h =
    let many : 1000000001 * bottom ≤ units * bottom = mul-le-mul_right bottom (omega arith) in
    omega (arith, m.split, m.small)

pub above_by_rest : (top bottom units below : ℕ) → Measures top bottom units below → units ≡ 1000000000 → 0 < below → bottom < top
above_by_rest top bottom units below m h k =
    let one : units * bottom ≡ 1000000000 * bottom = ap (λ n. n * bottom) h in
    let rest : 0 < m.rest = m.some k in
    omega (arith, m.split)

pub value_is : (top bottom units below : ℕ) → Measures top bottom units below → below ≡ 0 → units * bottom ≡ 1000000000 * top
value_is top bottom units below m h = omega (arith, m.split, m.none h)

pub at_most_one : (top bottom units below : ℕ) → Measures top bottom units below → units < 1000000000 → top ≤ bottom
at_most_one top bottom units below m h =
    let few : (units + 1) * bottom ≤ 1000000000 * bottom = mul-le-mul_right bottom (omega arith) in
    omega (arith, m.split, m.small)

pub no_multiple : (top bottom units below : ℕ) → Measures top bottom units below → 0 < below → (v : ℕ) → v * bottom ≡ 1000000000 * top → ⊥
no_multiple top bottom units below m h v e =
    let rest : 0 < m.rest = m.some h in
    elim (cases_lt units v) [
      | inl more ↦ let many : (units + 1) * bottom ≤ v * bottom = mul-le-mul_right bottom (omega arith) in omega (arith, m.split, m.small)
      | inr few ↦ let less : v * bottom ≤ units * bottom = mul-le-mul_right bottom few in omega (arith, m.split)
    ]
