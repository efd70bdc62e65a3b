-- Words ask for one mode, or for nothing: each part of them says something, or nothing
use Rattle.life_args.proofs.Names.{◌≡◌, ℕ, zero, suc, ◌+◌, ◌-◌, ◌<◌, ◌≤◌, ◌⊎◌, ℤ, ◌-ℤ◌, pos, negsuc, false, List, [], ◌∷◌, length, map, string_bytes, String, Option, Some, None, refl, sym, ap, ◌∙◌, subst, inl, inr, bytes_eq, codes, decimal, arith, true≢false, All, slice_index, cases_Bool, cases_eq, cases_lt, ints, fault_of, IsName, IsNameByte, IsDay, day_text, At, Measure, Now, Position, Mode, Verb, Run, Value, Project, State, Checkpoint, Generate, Load, WordPiece, AtMostOne, IsDayValue, IsPositionOr, AreWorkersOr, IsBasisOr, IsMeasureBy, IsPolicyOr, AreWords, AskFor, AskForNothing, Spelling, alone_id, has_odd, line_app, values_of, AreDayAndYears, JustOne, options_of, verb_of, verb_word}
use Rattle.std.specs.Global.{Global}
use Rattle.std.specs.Char.{IsAsciiAlphanumeric}
use Rattle.std.proofs.lemmas.List.Elements.{All-nil, All-cons, All-head, All-tail}
use Rattle.std.proofs.lemmas.Slice.Eq.{bytes_eq-Decides}
use Rattle.clap.specs.Walk.{Text}
use Rattle.policy_value.specs.declared.worth.Measure.TheVariants.{Terminal, Mean, Deficiency}
use Rattle.life_args.proofs.Lines.{spelled_taken, taken_spelled}
use Rattle.life_args.proofs.Asking.{asked, good}
use Rattle.life_args.proofs.Answering.{asked_by, asked_of, asking_by, odd_refused}
use Rattle.life_args.proofs.Saying.{Said, its_verb, mode_with, said_by}

-- a fact is true, or it isn't
abbrev Either : Type 0 → Type 0
Either P = P ⊎ (P → ⊥)

-- one number below a bound has the property, or none has
search : (P : ℕ → Type 0) → ((n : ℕ) → Either (P n)) → (bound : ℕ) → Either ((n : ℕ) × (n < bound) × P n)
search P decide zero = inr (λ one. let below = one.1 in omega (arith, below))
search P decide (suc bound) = elim (decide bound) [
  | inl is ↦ inl (bound, omega arith, is)
  | inr not ↦ elim (search P decide bound) [
    | inl found ↦ inl (found.0, (let below = found.1 in omega (arith, below)), found.2)
    | inr none ↦ inr (λ one. elim (cases_lt one.0 bound) [
      | inl under ↦ none (one.0, under, one.2)
      | inr over ↦ not (subst P (let high = over in let low = one.1 in omega (arith, high, low)) one.2)
    ])
  ]
]

mapped : {P Q : Type 0} → Either P → (P → Q) → (Q → P) → Either Q
mapped (inl p) to from = inl (to p)
mapped (inr not) to from = inr (λ q. not (from q))

both : {P Q : Type 0} → Either P → Either Q → Either (P × Q)
both (inl p) (inl q) = inl (p, q)
both (inl p) (inr not) = inr (λ pair. not pair.1)
both (inr not) q = inr (λ pair. not pair.0)

one_of : {P Q : Type 0} → Either P → Either Q → Either (P ⊎ Q)
one_of (inl p) q = inl (inl p)
one_of (inr not) (inl q) = inl (inr q)
one_of (inr not) (inr none) = inr (λ one. elim one [ inl p ↦ not p | inr q ↦ none q ])

at_most : (n m : ℕ) → Either (n ≤ m)
at_most n m = elim (cases_lt m n) [
  | inl over ↦ inr (λ under. omega (arith, over, under))
  | inr under ↦ inl under
]

same_text : (xs ys : Text) → Either (xs ≡ ys)
same_text xs ys = elim (cases_Bool (bytes_eq xs ys)) [
  | inl same ↦ inl ((bytes_eq-Decides xs ys).0 same)
  | inr other ↦ inr (λ same. true≢false (sym ((bytes_eq-Decides xs ys).1 same) ∙ other))
]

-- a text is that of a number within bounds, or of none
number : (least most : ℕ) (text : Text) → Either ((n : ℕ) × (least ≤ n) × (n ≤ most) × (text ≡ decimal n))
number least most text = mapped (search (λ n. (least ≤ n) × (text ≡ decimal n)) (λ n. both (at_most least n) (same_text text (decimal n))) (most + 1))
    (λ found. (found.0, found.2.0, (let below = found.1 in omega (arith, below)), found.2.1))
    (λ one. (one.0, (let high = one.2 in omega (arith, high)), (one.1, one.3)))

-- or of a day, or of none. Days are tried from 1900-01-01 on.
day : (text : Text) → Either ((on : ℤ) × IsDayValue text on)
day text = mapped (search (λ n. text ≡ day_text (pos n -ℤ pos 25567)) (λ n. same_text text (day_text (pos n -ℤ pos 25567))) 109573)
    (λ found. (pos found.0 -ℤ pos 25567, ((omega (arith, ints, found.1), omega (arith, ints, found.1)), found.2)))
    (λ one. let n = place one.0 one.1.0 in (n.0, n.1, one.1.1 ∙ ap day_text n.2))
  where
    place : (on : ℤ) → IsDay on → (n : ℕ) × (n < 109573) × (on ≡ pos n -ℤ pos 25567)
    place (pos n) is = (n + 25567, (let high = is.1 in omega (arith, ints, high)), omega (arith, ints))
    place (negsuc n) is = (25566 - n, (let low = is.0 in omega (arith, ints, low)), (let low = is.0 in omega (arith, ints, low)))

-- a name or none
letter : (c : ℕ) → Either (IsAsciiAlphanumeric c)
letter c = one_of (one_of (both (at_most 48 c) (at_most c 57)) (both (at_most 65 c) (at_most c 90))) (both (at_most 97 c) (at_most c 122))

name_byte : (c : ℕ) → Either (IsNameByte c)
name_byte c = one_of (letter c) (one_of (cases_eq c 46) (one_of (cases_eq c 95) (cases_eq c 45)))

name_bytes : (text : Text) → Either (All IsNameByte text)
name_bytes [] = inl (All-nil IsNameByte)
name_bytes (c ∷ text) = mapped (both (name_byte c) (name_bytes text)) (λ is. All-cons IsNameByte c text is.0 is.1)
    (λ all. (All-head IsNameByte c text all, All-tail IsNameByte c text all))

name : (text : Text) → Either (IsName text)
name text = mapped (both (both (at_most 1 (length text)) (at_most (length text) 64)) (both (letter (slice_index text 0)) (name_bytes text)))
    (λ is. record { some = is.0.0; short = is.0.1; first = is.1.0; each = is.1.1 }) (λ is. ((is.some, is.short), (is.first, is.each)))

-- ---- the values of each id

-- some answer fits a value or none, and of values there is one at most
lone : {T : Type 0} (Fits : Option Text → T → Type 0) → Either ((t : T) × Fits None t) → ((text : Text) → Either ((t : T) × Fits (Some text) t)) → (values : List Text)
    → Either ((t : T) × AtMostOne values (λ given. Fits given t))
lone Fits none some [] = none
lone Fits none some (value ∷ []) = some value
lone Fits none some (value ∷ other ∷ values) = inr (λ never. never.1)

basis : (values : List Text) → Either ((given : Text) × AtMostOne values (λ v. IsBasisOr v given))
basis values = lone IsBasisOr (inl (codes "basis.csv", refl)) (λ text. mapped (name text) (λ is. (text, (is, refl))) (λ one. one.1.0)) values

position : (values : List Text) → Either ((at : At) × AtMostOne values (λ v. IsPositionOr v at))
position values = lone IsPositionOr (inl (Now, refl)) (λ text. mapped (number 0 4000000 text) (λ n. (Position n.0, (n.2, n.3))) (λ one. numbered text one.0 one.1)) values
  where
    numbered : (text : Text) (at : At) → IsPositionOr (Some text) at → (n : ℕ) × (0 ≤ n) × (n ≤ 4000000) × (text ≡ decimal n)
    numbered text Now is = absurd is
    numbered text (Position n) is = (n, omega arith, is.0, is.1)

workers : (values : List Text) → Either ((many : ℕ) × AtMostOne values (λ v. AreWorkersOr v many))
workers values = lone AreWorkersOr (inl (1, refl)) (λ text. mapped (number 1 64 text) (λ n. (n.0, (n.1, n.2, n.3))) (λ one. (one.0, one.1.0, one.1.1, one.1.2))) values

measure : (means deficiencies : List Text) → Either ((one : Measure) × IsMeasureBy means deficiencies one)
measure [] [] = inl (Terminal, refl)
measure (mean ∷ []) [] = inl (Mean, refl)
measure [] (deficiency ∷ []) = inl (Deficiency, refl)
measure means deficiencies = inr (λ never. never.1)

policy : (values : List Text) → Either ((id : Option ℕ) × AtMostOne values (λ v. IsPolicyOr v id))
policy values = lone IsPolicyOr (inl (None, refl)) (λ text. mapped (number 1 4294967295 text) (λ n. (Some n.0, ((n.1, n.2), n.3))) (λ one. numbered text one.0 one.1)) values
  where
    numbered : (text : Text) (id : Option ℕ) → IsPolicyOr (Some text) id → (n : ℕ) × (1 ≤ n) × (n ≤ 4294967295) × (text ≡ decimal n)
    numbered text None is = absurd is
    numbered text (Some id) is = (id, is.0.0, is.0.1, is.1)

nothing_in : (values : List Text) → Either (values ≡ [])
nothing_in [] = inl refl
nothing_in (x ∷ values) = inr (λ never. cc)

-- exactly one value, which is a day
just_day : (values : List Text) → Either ((on : ℤ) × JustOne values (λ value. IsDayValue value on))
just_day (x ∷ []) = mapped (day x) (λ on. (on.0, (x, refl, on.1)))
    (λ one. let e = one.1.1 in let same : one.1.0 ≡ x = cc in (one.0, subst (λ (t : Text). IsDayValue t one.0) same one.1.2))
just_day values = inr (λ one. let e = one.1.1 in cc)

-- exactly two values, a day and a number of years
ahead : (values : List Text) → Either ((both : ℤ × ℕ) × AreDayAndYears values both.0 both.1)
ahead (x ∷ y ∷ []) = mapped (both (day x) (number 1 131 y)) (λ t. ((t.0.0, t.1.0), (x, (let z = t.1.3 in cc), t.0.1, (t.1.1, t.1.2))))
    (λ one.
    let e = one.1.1 in
    let same : one.1.0 ≡ x = cc in
    ((one.0.0, subst (λ (t : Text). IsDayValue t one.0.0) same one.1.2), (one.0.1, one.1.3.0, one.1.3.1, (cc))))
ahead values = inr (λ one. let e = one.1.1 in cc)

-- three values that are the numbers of a generated script
drawn : (values : List Text) → Either (Said Generate (λ id. values))
drawn (a ∷ b ∷ c ∷ []) = mapped (both (number 0 2147483647 a) (both (number 1 100000 b) (number 1 8 c)))
    (λ t. ((t.0.0, t.1.0.0, t.1.1.0), ((let x = t.0.3 in let y = t.1.0.3 in let z = t.1.1.3 in cc), (t.0.2, (t.1.0.1, t.1.0.2), (t.1.1.1, t.1.1.2)))))
    (λ one. let e = one.1.0 in ((one.0.0, omega arith, one.1.1.0, (cc)), ((one.0.1, one.1.1.1.0, one.1.1.1.1, (cc)), (one.0.2, one.1.1.2.0, one.1.1.2.1, (cc)))))
drawn values = inr (λ one. let e = one.1.0 in cc)

-- exactly four values, the last of which is a number of workers
loaded : (values : List Text) → Either (Said Load (λ id. values))
loaded (a ∷ b ∷ c ∷ d ∷ []) = mapped (both (drawn (a ∷ b ∷ c ∷ [])) (number 1 64 d))
    (λ t. ((t.0.0.0, t.0.0.1, t.0.0.2, t.1.0), ((let x = t.0.1.0 in let y = t.1.3 in cc), t.0.1.1, (t.1.1, t.1.2))))
    (λ one. let e = one.1.0 in (((one.0.0, one.0.1, one.0.2), ((cc), one.1.1)), (one.0.3, one.1.2.0, one.1.2.1, (cc))))
loaded values = inr (λ one. let e = one.1.0 in cc)

-- ---- the mode of a verb

said : (values : Text → List Text) (verb : Verb) → Either (Said verb values)
said values Run = mapped (both (nothing_in (values alone_id)) (basis (values (codes "basis")))) (λ t. (t.1.0, (t.0, t.1.1))) (λ s. (s.1.0, (s.0, s.1.1)))
said values Value = mapped (both (just_day (values alone_id)) (both (position (values (codes "at"))) (both (workers (values (codes "workers")))
    (both (basis (values (codes "basis"))) (measure (values (codes "mean")) (values (codes "deficiency")))))))
    (λ t. ((t.0.0, t.1.0.0, t.1.1.0.0, t.1.1.1.0.0, t.1.1.1.1.0), (t.0.1, t.1.0.1, t.1.1.0.1, t.1.1.1.0.1, t.1.1.1.1.1)))
    (λ s. ((s.0.0, s.1.0), ((s.0.1, s.1.1), ((s.0.2, s.1.2), ((s.0.3, s.1.3), (s.0.4, s.1.4))))))
said values Project = mapped (both (ahead (values alone_id)) (both (workers (values (codes "workers"))) (basis (values (codes "basis")))))
    (λ t. ((t.0.0.0, t.0.0.1, t.1.0.0, t.1.1.0), (t.0.1, t.1.0.1, t.1.1.1)))
    (λ s. (((s.0.0, s.0.1), s.1.0), ((s.0.2, s.1.1), (s.0.3, s.1.2))))
said values State = policy (values alone_id)
said values Checkpoint = mapped (nothing_in (values alone_id)) (λ none. (tt, none)) (λ s. s.1)
said values Generate = drawn (values alone_id)
said values Load = loaded (values alone_id)

-- ---- the words

-- the arguments after a verb ask for one of its modes, or for none
pub said_of : (verb : Verb) (words : List Text) (pieces : List WordPiece) → Spelling (options_of verb) words pieces → (one : Mode) → AreWords (verb_word verb ∷ words) one
    → Said verb (values_of pieces)
said_of verb words pieces spelling one are =
    let says = asked_by verb words pieces spelling one are in
    said_by (values_of pieces) verb one says.0 says.1

module _ (verb : Verb) (words : List Text) where
  behind_verb : Either ((one : Mode) × AreWords (verb_word verb ∷ words) one)
  behind_verb = elim (cases_Bool (has_odd words)) [
    | inl odd ↦ inr (λ asks. let of_its = asked_of verb words asks.0 asks.1 in odd_refused verb words odd of_its.1.0 of_its.1.1)
    | inr even ↦ by_fault even (fault_of (line_app (options_of verb)) words) refl
  ]
    where
      by_fault : has_odd words ≡ false → (fault : List _) → fault_of (line_app (options_of verb)) words ≡ fault → Either ((one : Mode) × AreWords (verb_word verb ∷ words) one)
      by_fault even [] is =
          let taken = taken_spelled (options_of verb) (good verb) words even is in
          mapped (said (values_of taken.0) verb)
          (λ s. (mode_with verb s.0, asking_by verb words taken.0 taken.1 (mode_with verb s.0) (its_verb verb s.0) s.1))
          (λ asks. said_of verb words taken.0 taken.1 asks.0 asks.1)
      by_fault even (f ∷ more) is = inr (λ asks.
          let of_its = asked_of verb words asks.0 asks.1 in
          let none = (spelled_taken (options_of verb) (good verb) words of_its.1.0 of_its.1.1).0 in
          cc)

-- the first word is a verb's, or none's
module _ (word : Text) where
  abbrev Is : Verb → Type 0
  Is verb = word ≡ verb_word verb

  it : (verb : Verb) → Either (Is verb)
  it verb = same_text word (verb_word verb)

  abbrev IsSome : Type 0
  IsSome = Is Run ⊎ (Is Value ⊎ (Is Project ⊎ (Is State ⊎ (Is Checkpoint ⊎ (Is Generate ⊎ Is Load)))))

  verb_is : IsSome → (verb : Verb) × Is verb
  verb_is (inl e) = (Run, e)
  verb_is (inr (inl e)) = (Value, e)
  verb_is (inr (inr (inl e))) = (Project, e)
  verb_is (inr (inr (inr (inl e)))) = (State, e)
  verb_is (inr (inr (inr (inr (inl e))))) = (Checkpoint, e)
  verb_is (inr (inr (inr (inr (inr (inl e)))))) = (Generate, e)
  verb_is (inr (inr (inr (inr (inr (inr e)))))) = (Load, e)

  is_verb : (verb : Verb) → Is verb → IsSome
  is_verb Run e = inl e
  is_verb Value e = inr (inl e)
  is_verb Project e = inr (inr (inl e))
  is_verb State e = inr (inr (inr (inl e)))
  is_verb Checkpoint e = inr (inr (inr (inr (inl e))))
  is_verb Generate e = inr (inr (inr (inr (inr (inl e)))))
  is_verb Load e = inr (inr (inr (inr (inr (inr e)))))

  named : Either ((verb : Verb) × Is verb)
  named = mapped (one_of (it Run) (one_of (it Value) (one_of (it Project) (one_of (it State) (one_of (it Checkpoint) (one_of (it Generate) (it Load)))))))
      verb_is (λ one. is_verb one.0 one.1)

either_words : (words : List Text) → Either ((one : Mode) × AreWords words one)
either_words [] = inr (λ asks. asks.1)
either_words (word ∷ words) = elim (named word) [
  | inr none ↦ inr (λ asks. none (verb_of asks.0, (asked word words asks.0 asks.1).0))
  | inl verb ↦ mapped (behind_verb verb.0 words) (λ is. (is.0, subst (λ (w : Text). AreWords (w ∷ words) is.0) (sym verb.1) is.1))
      (λ asks. (asks.0, subst (λ (w : Text). AreWords (w ∷ words) asks.0) verb.1 asks.1))
]

pub asked_or_not : (words : List (String Global)) → ((one : Mode) × AskFor words one) ⊎ AskForNothing words
asked_or_not words = elim (either_words (map string_bytes words)) [
  | inl is ↦ inl is
  | inr none ↦ inr (λ one asks. none (one, asks))
]
