-- A text spells one decimal at most, the one whose parts the cuts give.
use Rattle.decimal_text.proofs.Names.{◌≡◌, ℕ, ◌+◌, ◌<◌, ◌≤◌, ◌⊎◌, inl, inr, List, [], ◌∷◌, ◌++◌, length, drop, Option, Some, None, IfNone, refl, sym, ap, ◌∙◌, subst, arith, append_assoc, is_ascii_digit, cases_eq, AreDigits, number, Decimal, IsSigned, IsExponent, Spells, point, plus_sign, minus}
use Rattle.std.specs.List.{prefix_len}
use Rattle.std.proofs.lemmas.Str.Parse.{digit_from_value}
use Rattle.decimal_text.specs.inside.Splits.{SplitsDigits, SplitsFraction, StopsDigits}
use Rattle.decimal_text.proofs.Cuts.{cut_at_prefix, fronts, one_cut}

-- what follows the digits of a decimal is no digit
exponent_stops : (text : List ℕ) (raised lowered : ℕ) → IsExponent text raised lowered → StopsDigits text
exponent_stops [] raised lowered h = tt
exponent_stops (letter ∷ text) raised lowered h = λ digit. elim h.0 [ inl e ↦ absurd (omega arith) | inr e ↦ absurd (omega arith) ]

-- and no point
exponent_only : (text fraction rest : List ℕ) (raised lowered : ℕ) → IsExponent text raised lowered → SplitsFraction text fraction rest → (fraction ≡ []) × (rest ≡ text)
exponent_only [] fraction rest raised lowered h s = s
exponent_only (letter ∷ text) fraction rest raised lowered h s =
    elim s [ inl k ↦ absurd (elim h.0 [ inl e ↦ omega (arith, k.0) | inr e ↦ omega (arith, k.0) ]) | inr k ↦ (k.1, k.2) ]

point_first : (text fraction rest : List ℕ) → SplitsFraction (point ∷ text) fraction rest → SplitsDigits text fraction rest
point_first text fraction rest s = elim s [ inl k ↦ k.1 | inr k ↦ absurd (k.0 refl) ]

-- the decimal that a text spells has the parts that the cuts give
pub record Reads (whole fraction rest : List ℕ) (decimal : Decimal) : Type 0 where
  pub whole_is : whole ≡ decimal.whole
  pub fraction_is : fraction ≡ decimal.fraction
  pub exponent_is : IsExponent rest decimal.raised decimal.lowered

without_point : (whole rest fraction tail : List ℕ) (d : Decimal) (exponent : List ℕ) → AreDigits whole → StopsDigits rest → AreDigits d.whole
    → SplitsFraction rest fraction tail → IsExponent exponent d.raised d.lowered → whole ++ rest ≡ d.whole ++ exponent → d.fraction ≡ []
    → Reads whole fraction tail d
without_point whole rest fraction tail d exponent ww rr dd s e same none =
    let cut = fronts whole rest d.whole exponent ww rr dd (exponent_stops exponent d.raised d.lowered e) same in
    let there : SplitsFraction exponent fraction tail = subst (λ t. SplitsFraction t fraction tail) cut.1 s in
    let ends = exponent_only exponent fraction tail d.raised d.lowered e there in
    record { whole_is = cut.0; fraction_is = ends.0 ∙ sym none; exponent_is = subst (λ t. IsExponent t d.raised d.lowered) (sym ends.1) e }

with_point : (whole rest fraction tail : List ℕ) (d : Decimal) (exponent : List ℕ) → AreDigits whole → StopsDigits rest → AreDigits d.whole → AreDigits d.fraction
    → SplitsFraction rest fraction tail → IsExponent exponent d.raised d.lowered → whole ++ rest ≡ d.whole ++ (point ∷ (d.fraction ++ exponent))
    → Reads whole fraction tail d
with_point whole rest fraction tail d exponent ww rr dd ff s e same =
    let cut = fronts whole rest d.whole (point ∷ (d.fraction ++ exponent)) ww rr dd (λ h. omega arith) same in
    let there : SplitsFraction (point ∷ (d.fraction ++ exponent)) fraction tail = subst (λ t. SplitsFraction t fraction tail) cut.1 s in
    let found : SplitsDigits (d.fraction ++ exponent) fraction tail = point_first (d.fraction ++ exponent) fraction tail there in
    let other : SplitsDigits (d.fraction ++ exponent) d.fraction exponent = record { joined = refl; are_digits = ff; stops = exponent_stops exponent d.raised d.lowered e } in
    let ends = one_cut (d.fraction ++ exponent) fraction tail d.fraction exponent found other in
    record { whole_is = cut.0; fraction_is = ends.0; exponent_is = subst (λ t. IsExponent t d.raised d.lowered) (sym ends.1) e }

pub reads_parts : (text whole rest fraction tail : List ℕ) (d : Decimal) → SplitsDigits text whole rest → SplitsFraction rest fraction tail → Spells text d → Reads whole fraction tail d
reads_parts text whole rest fraction tail d s f h =
    elim h.plain_is [
      | inl k ↦ without_point whole rest fraction tail d h.exponent s.are_digits s.stops h.whole_digits f h.exponent_is (sym s.joined ∙ h.joined ∙ ap (λ t. t ++ h.exponent) k.0) k.1
      | inr k ↦ with_point whole rest fraction tail d h.exponent s.are_digits s.stops h.whole_digits h.fraction_digits f h.exponent_is
          (sym s.joined ∙ h.joined ∙ ap (λ t. t ++ h.exponent) k ∙ append_assoc d.whole (point ∷ d.fraction) h.exponent)
    ]

-- and the parts that the cuts give are spelled by the text
spells_cuts : (text whole rest fraction tail : List ℕ) (raised lowered : ℕ) → text ≡ whole ++ rest → AreDigits whole → SplitsFraction rest fraction tail
    → IsExponent tail raised lowered → 0 < length whole + length fraction → Spells text (record { whole = whole; fraction = fraction; raised = raised; lowered = lowered })
spells_cuts text whole [] fraction tail raised lowered same ww f e some =
    record {
      plain = whole;
      exponent = tail;
      joined = same ∙ ap (λ t. whole ++ t) (sym f.1);
      plain_is = inl (refl, f.0);
      exponent_is = e;
      whole_digits = ww;
      fraction_digits = subst AreDigits (sym f.0) tt;
      some_digit = some;
    }
spells_cuts text whole (byte ∷ rest) fraction tail raised lowered same ww f e some =
    elim f [
      | inl k ↦ record {
        plain = whole ++ point ∷ fraction;
        exponent = tail;
        joined = same ∙ ap (λ t. whole ++ t) (ap (λ b. b ∷ rest) k.0 ∙ ap (λ t. point ∷ t) k.1.joined) ∙ sym (append_assoc whole (point ∷ fraction) tail);
        plain_is = inr refl;
        exponent_is = e;
        whole_digits = ww;
        fraction_digits = k.1.are_digits;
        some_digit = some;
      }
      | inr k ↦ record {
        plain = whole;
        exponent = tail;
        joined = same ∙ ap (λ t. whole ++ t) (sym k.2);
        plain_is = inl (refl, k.1);
        exponent_is = e;
        whole_digits = ww;
        fraction_digits = subst AreDigits (sym k.1) tt;
        some_digit = some;
      }
    ]

pub spells_parts : (text whole rest fraction tail : List ℕ) (raised lowered : ℕ) → SplitsDigits text whole rest → SplitsFraction rest fraction tail
    → IsExponent tail raised lowered → 0 < length whole + length fraction → Spells text (record { whole = whole; fraction = fraction; raised = raised; lowered = lowered })
spells_parts text whole rest fraction tail raised lowered s f e some = spells_cuts text whole rest fraction tail raised lowered s.joined s.are_digits f e some

-- each text has these cuts
cut_fraction : (rest : List ℕ) → (fraction : List ℕ) × ((tail : List ℕ) × SplitsFraction rest fraction tail)
cut_fraction [] = ([], ([], (refl, refl)))
cut_fraction (byte ∷ rest) =
    elim (cases_eq byte point) [ inl e ↦ (_, (_, inl (e, cut_at_prefix rest))) | inr e ↦ ([], (byte ∷ rest, inr (e, refl, refl))) ]

no_sign : (digits others : List ℕ) (sign : ℕ) → AreDigits digits → digits ≡ sign ∷ others → sign < 48 → ⊥
no_sign [] others sign h e low = cc
no_sign (x ∷ digits) others sign h e low = let same : x ≡ sign = cc in omega (arith, (digit_from_value x h.0).0)

-- the digits after a sign or none, read two ways
unsigned : (text digits others : List ℕ) → AreDigits digits → AreDigits others → (text ≡ digits) ⊎ (text ≡ plus_sign ∷ digits) → (text ≡ others) ⊎ (text ≡ plus_sign ∷ others) → digits ≡ others
unsigned text digits others h k a b =
    elim a [
      | inl p ↦ elim b [ inl q ↦ sym p ∙ q | inr q ↦ absurd (no_sign digits others plus_sign h (sym p ∙ q) (omega arith)) ]
      | inr p ↦ elim b [ inl q ↦ absurd (no_sign others digits plus_sign k (sym q ∙ p) (omega arith)) | inr q ↦ cc ]
    ]

no_minus : (text digits others : List ℕ) → AreDigits digits → (text ≡ digits) ⊎ (text ≡ plus_sign ∷ digits) → text ≡ minus ∷ others → ⊥
no_minus text digits others h a q =
    elim a [ inl p ↦ no_sign digits others minus h (sym p ∙ q) (omega arith) | inr p ↦ let e : plus_sign ≡ minus = cc in omega arith ]

signed_power : (text : List ℕ) (raised lowered raised' lowered' : ℕ) → IsSigned text raised lowered → IsSigned text raised' lowered' → (raised ≡ raised') × (lowered ≡ lowered')
signed_power text raised lowered raised' lowered' h k =
    elim h.3 [
      | inl a ↦ elim k.3 [
        | inl b ↦ (a.1 ∙ ap number (unsigned text h.0 k.0 h.1.1 k.1.1 a.0 b.0) ∙ sym b.1, a.2 ∙ sym b.2)
        | inr b ↦ absurd (no_minus text h.0 k.0 h.1.1 a.0 b.0)
      ]
      | inr a ↦ elim k.3 [
        | inl b ↦ absurd (no_minus text k.0 h.0 k.1.1 b.0 a.0)
        | inr b ↦ let same : h.0 ≡ k.0 = cc in (a.1 ∙ sym b.1, a.2 ∙ ap number same ∙ sym b.2)
      ]
    ]

one_power : (text : List ℕ) (raised lowered raised' lowered' : ℕ) → IsExponent text raised lowered → IsExponent text raised' lowered' → (raised ≡ raised') × (lowered ≡ lowered')
one_power [] raised lowered raised' lowered' h k = (h.0 ∙ sym k.0, h.1 ∙ sym k.1)
one_power (letter ∷ text) raised lowered raised' lowered' h k = signed_power text raised lowered raised' lowered' h.1 k.1

abbrev decimal : List ℕ → List ℕ → ℕ → ℕ → Decimal
decimal w f r l = record { whole = w; fraction = f; raised = r; lowered = l }

same_decimal : (d e : Decimal) → d.whole ≡ e.whole → d.fraction ≡ e.fraction → d.raised ≡ e.raised → d.lowered ≡ e.lowered → d ≡ e
same_decimal d e w f r l =
    ap (λ (x : List ℕ). decimal x d.fraction d.raised d.lowered) w
    ∙ ap (λ (x : List ℕ). decimal e.whole x d.raised d.lowered) f
    ∙ ap (λ (x : ℕ). decimal e.whole e.fraction x d.lowered) r
    ∙ ap (λ (x : ℕ). decimal e.whole e.fraction e.raised x) l

pub one_decimal : (text : List ℕ) (d e : Decimal) → Spells text d → Spells text e → d ≡ e
one_decimal text d e h k =
    let fraction = cut_fraction (drop (prefix_len is_ascii_digit text) text) in
    let reads = reads_parts text _ _ fraction.0 fraction.1.0 d (cut_at_prefix text) fraction.1.1 h in
    let others = reads_parts text _ _ fraction.0 fraction.1.0 e (cut_at_prefix text) fraction.1.1 k in
    let power = one_power fraction.1.0 d.raised d.lowered e.raised e.lowered reads.exponent_is others.exponent_is in
    same_decimal d e (sym reads.whole_is ∙ others.whole_is) (sym reads.fraction_is ∙ others.fraction_is) power.0 power.1

-- a first byte and what follows
pub no_exponent : (text : List ℕ) → ((raised lowered : ℕ) → IsSigned (drop 1 text) raised lowered → ⊥) → 1 ≤ length text → (raised lowered : ℕ) → IsExponent text raised lowered → ⊥
no_exponent [] none some raised lowered h = omega arith
no_exponent (letter ∷ text) none some raised lowered h = none raised lowered h.1

pub IfNone-weaker : {X : Type 0} (r : Option X) (P Q : Type 0) → (P → Q) → IfNone r P → IfNone r Q
IfNone-weaker None P Q f h = f h
IfNone-weaker (Some x) P Q f h = tt
