-- What a field is the text of
use Rattle.command_csv.proofs.Names.{◌≡◌, ◌≢◌, ℕ, zero, suc, ◌+◌, ◌<◌, ◌≤◌, ◌^◌, List, [], ◌∷◌, drop, take, ap, sym, ◌∙◌, subst, refl, arith, Option, Some, None, Bor, ℤ, decimal_injective, ints, Plan, Term, Whole, Endowment, Limited, AreYears, IsCommandDay, IsIssueAge, IsDay, IsTermDay, day_text, IsDayText, LineFields, Took, Missed, left_of}
use Rattle.std.specs.Prelude.{decimal, option_map, IfSome, IfNone, IsTrue, ◌↔◌, Bool, true, false}
use Rattle.std.proofs.lemmas.Option.{none-some}
use Rattle.csv.specs.Records.{field_at}
use Rattle.life_dates.proofs.TextLemmas.{IsDayText-day_text, day_text-only}

-- the field at a place, and those after it
field_some : (xs : List (List ℕ)) (i : ℕ) (text : List ℕ) → Some text ≡ field_at xs i → drop i xs ≡ text ∷ drop (suc i) xs
unfolding field_at
field_some [] i text e = absurd (none-some text (sym e))
field_some (x ∷ xs) zero text e = cc
field_some (x ∷ xs) (suc i) text e = field_some xs i text e

none_left : (none : List (List ℕ)) (i : ℕ) → none ≡ [] → drop i none ≡ []
none_left [] zero e = refl
none_left [] (suc i) e = refl
none_left (x ∷ xs) i e = cc

field_none : (xs : List (List ℕ)) (i : ℕ) → None ≡ field_at xs i → drop i xs ≡ []
unfolding field_at
field_none [] i e = none_left [] i refl
field_none (x ∷ xs) zero e = absurd (none-some x e)
field_none (x ∷ xs) (suc i) e = field_none xs i e

pub next_some : (found : Option (Bor (List ℕ))) (xs : List (List ℕ)) (i : ℕ) → option_map (λ (s : Bor (List ℕ)). s.now) found ≡ field_at xs i → IfSome found (λ text. drop i xs ≡ text.now ∷ drop (i + 1) xs)
next_some None xs i e = tt
next_some (Some text) xs i e =
    let next : suc i ≡ i + 1 = omega arith in
    field_some xs i text.now e ∙ ap (λ (n : ℕ). text.now ∷ drop n xs) next

pub next_none : (found : Option (Bor (List ℕ))) (xs : List (List ℕ)) (i : ℕ) → option_map (λ (s : Bor (List ℕ)). s.now) found ≡ field_at xs i → IfNone found (drop i xs ≡ [])
next_none None xs i e = field_none xs i e
next_none (Some text) xs i e = tt

pub other_number : (left new : List (List ℕ)) (n m : ℕ) → left ≡ decimal n ∷ new → n < 2 ^ 64 → m < 2 ^ 64 → m ≢ n → take 1 left ≢ decimal m ∷ []
other_number left new n m e n_small m_small differ h =
    let one : take 1 left ≡ decimal n ∷ [] = ap (take 1) e in
    let same : decimal m ≡ decimal n = cc in
    differ (decimal_injective m n m_small n_small same)

pub years_within : (plan : Plan) (age years : ℕ) → AreYears plan age years → years ≤ 131
years_within Term age years h = omega arith
years_within Whole age years h = omega arith
years_within Endowment age years h = omega arith
years_within Limited age years h = omega arith

pub term_day : (day : ℤ) → IsDay day → IsTermDay day
term_day day h = (h.0, omega (arith, ints))

pub day_took : (found : Option ℤ) (text : List ℕ) (old new : LineFields) → left_of old ≡ text ∷ left_of new → new.asked ≡ old.asked + 1
    → IfSome found (λ day. IsDay day × IsDayText text day)
    → IfSome found (λ day. Took (IsCommandDay day) (day_text day) old new)
day_took None text old new e n h = tt
day_took (Some day) text old new e n h = record { fits = h.0; spelled = e ∙ ap (λ t. t ∷ left_of new) (day_text-only text day (term_day day h.0) h.1); counted = n }

pub day_missed : (found : Option ℤ) (text : List ℕ) (old new : LineFields) → left_of old ≡ text ∷ left_of new → new.asked ≡ old.asked + 1
    → ((day : ℤ) → IsDay day → IsDayText text day → found ≡ Some day)
    → IfNone found (Missed IsCommandDay day_text old new)
day_missed (Some day) text old new e n exact = tt
day_missed None text old new e n exact = record {
  none = λ day day_in h.
      let one : take 1 (left_of old) ≡ text ∷ [] = ap (take 1) e in
      let same : day_text day ≡ text = cc in
      let P : List ℕ → Type 0 = λ t. IsDayText t day in
      none-some day (exact day day_in (subst P same (IsDayText-day_text day (term_day day day_in))));
  counted = n;
}

-- a number that doesn't fit
pub number_missed : (Fits : ℕ → Type 0) (n : ℕ) (text : List ℕ) (old new : LineFields) → left_of old ≡ text ∷ left_of new → new.asked ≡ old.asked + 1 → text ≡ decimal n → n < 2 ^ 64
    → ((x : ℕ) → Fits x → x < 2 ^ 64) → (Fits n → ⊥) → Missed Fits decimal old new
number_missed Fits n text old new e c is small all bad = record {
  none = λ x h. other_number (left_of old) (left_of new) n x (e ∙ ap (λ t. t ∷ left_of new) is) small (all x h) (λ same. bad (subst Fits same h));
  counted = c;
}

pub years_missed : (plan : Plan) (age n : ℕ) (text : List ℕ) (old new : LineFields) (fits : Bool) → left_of old ≡ text ∷ left_of new → new.asked ≡ old.asked + 1 → text ≡ decimal n → n ≤ 131
    → IsIssueAge age → (IsTrue fits ↔ (IsIssueAge age × AreYears plan age n)) → fits ≡ false → Missed (AreYears plan age) decimal old new
years_missed plan age n text old new fits e c is small age_in says fails =
    number_missed (AreYears plan age) n text old new e c is (omega (arith, small)) (λ x h. omega (arith, years_within plan age x h))
    (λ h. let held : fits ≡ true = says.1 (age_in, h) in cc)
