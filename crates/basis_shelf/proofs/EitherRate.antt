-- Each text is a rate, or none.
use Rattle.basis_shelf.proofs.Names.{◌≡◌, ◌⊎◌, inl, inr, ℕ, zero, suc, ◌+◌, ◌*◌, ◌<◌, ◌≤◌, List, [], ◌∷◌, length, take, drop, refl, sym, ap, subst, arith, prefix_len, cases_eq, cases_lt}
use Rattle.std.specs.Char.{is_ascii_digit, digit_value}
use Rattle.std.specs.Str.Parse.{IsNumeral}
use Rattle.decimal_text.proofs.Words.{AreDigits, number, point, plus_sign, minus, numerator, denominator}
use Rattle.decimal_text.specs.Decimal.{Decimal, IsSigned, IsExponent, Spells}
use Rattle.decimal_text.specs.Rate.{IsRate, IsInUnits}
use Rattle.decimal_text.specs.inside.Splits.{SplitsDigits, SplitsFraction}
use Rattle.decimal_text.proofs.Cuts.{cut_at_prefix}
use Rattle.decimal_text.proofs.Readings.{reads_parts, spells_parts, one_decimal}
use Rattle.decimal_text.proofs.CallerLemmas.{one_rate}

-- it holds, or it doesn't
abbrev pub Decided : Type 0 → Type 0
Decided P = P ⊎ (P → ⊥)

pub both : {P Q : Type 0} → Decided P → Decided Q → Decided (P × Q)
both (inl p) (inl q) = inl (p, q)
both (inr bad) q = inr (λ h. bad h.0)
both (inl p) (inr bad) = inr (λ h. bad h.1)

pub either : {P Q : Type 0} → Decided P → Decided Q → Decided (P ⊎ Q)
either (inl p) q = inl (inl p)
either (inr bad) (inl q) = inl (inr q)
either (inr bad) (inr worse) = inr (λ h. elim h [ inl p ↦ bad p | inr q ↦ worse q ])

pub at_most : (n m : ℕ) → Decided (n ≤ m)
at_most n m = elim (cases_lt m n) [ inl more ↦ inr (λ h. omega (arith, more, h)) | inr less ↦ inl less ]

pub below : (n m : ℕ) → Decided (n < m)
below n m = elim (cases_lt n m) [ inl less ↦ inl less | inr more ↦ inr (λ h. omega (arith, more, h)) ]

-- ---- the power after an `E`

digit : (x : ℕ) → Decided (digit_value x < 10)
digit x = below (digit_value x) 10

digits : (text : List ℕ) → Decided (AreDigits text)
digits [] = inl tt
digits (x ∷ text) = both (digit x) (digits text)

-- one to three digits
abbrev AreFewDigits : List ℕ → Type 0
AreFewDigits digits = IsNumeral 10 digits × (length digits ≤ 3)

few : (text : List ℕ) → Decided (AreFewDigits text)
few text = by (digits text) (below 0 (length text)) (at_most (length text) 3)
  where
    by : Decided (AreDigits text) → Decided (0 < length text) → Decided (length text ≤ 3) → Decided (AreFewDigits text)
    by (inl a) (inl b) (inl c) = inl ((b, a), c)
    by (inr bad) b c = inr (λ h. bad h.0.1)
    by (inl a) (inr bad) c = inr (λ h. bad h.0.0)
    by (inl a) (inl b) (inr bad) = inr (λ h. bad h.1)

-- the text gives a power, or none
abbrev Powers : (List ℕ → ℕ → ℕ → Type 0) → List ℕ → Type 0
Powers Is text = ((raised : ℕ) × (lowered : ℕ) × Is text raised lowered) ⊎ ((raised lowered : ℕ) → Is text raised lowered → ⊥)

unsigned : (text : List ℕ) → (AreFewDigits text → ⊥) → ((ds : List ℕ) → AreFewDigits ds → text ≡ plus_sign ∷ ds → ⊥)
    → ((ds : List ℕ) → AreFewDigits ds → text ≡ minus ∷ ds → ⊥) → (raised lowered : ℕ) → IsSigned text raised lowered → ⊥
unsigned text bad plus less raised lowered h =
    elim h.3 [
      | inl a ↦ elim a.0 [ inl e ↦ bad (subst AreFewDigits (sym e) (h.1, h.2)) | inr e ↦ plus h.0 (h.1, h.2) e ]
      | inr b ↦ less h.0 (h.1, h.2) b.0
    ]

tail_is : (x y : ℕ) (xs ys : List ℕ) → x ∷ xs ≡ y ∷ ys → ys ≡ xs
tail_is x y xs ys e = cc

head_is : (x y : ℕ) (xs ys : List ℕ) → x ∷ xs ≡ y ∷ ys → x ≡ y
head_is x y xs ys e = cc

behind_plus : (x : ℕ) (text : List ℕ) → x ≡ plus_sign → (AreFewDigits (x ∷ text) → ⊥) → Decided (AreFewDigits text) → Powers IsSigned (x ∷ text)
behind_plus x text e bad (inl h) = inl (number text, 0, (text, h.0, h.1, inl (inr (ap (λ (b : ℕ). b ∷ text) e), refl, refl)))
behind_plus x text e bad (inr none) =
    inr (unsigned (x ∷ text) bad (λ ds h same. none (subst AreFewDigits (tail_is x plus_sign text ds same) h))
    (λ ds h same. let sign : x ≡ minus = head_is x minus text ds same in omega (arith, e, sign)))

behind_minus : (x : ℕ) (text : List ℕ) → x ≡ minus → (AreFewDigits (x ∷ text) → ⊥) → Decided (AreFewDigits text) → Powers IsSigned (x ∷ text)
behind_minus x text e bad (inl h) = inl (0, number text, (text, h.0, h.1, inr (ap (λ (b : ℕ). b ∷ text) e, refl, refl)))
behind_minus x text e bad (inr none) =
    inr (unsigned (x ∷ text) bad (λ ds h same. let sign : x ≡ plus_sign = head_is x plus_sign text ds same in omega (arith, e, sign))
    (λ ds h same. none (subst AreFewDigits (tail_is x minus text ds same) h)))

behind_sign : (text : List ℕ) → (AreFewDigits text → ⊥) → Powers IsSigned text
behind_sign [] bad = inr (unsigned [] bad (λ ds h e. cc) (λ ds h e. cc))
behind_sign (x ∷ text) bad = elim (cases_eq x plus_sign) [
  | inl e ↦ behind_plus x text e bad (few text)
  | inr other ↦ elim (cases_eq x minus) [
    | inl e ↦ behind_minus x text e bad (few text)
    | inr none ↦ inr (unsigned (x ∷ text) bad (λ ds h same. other (head_is x plus_sign text ds same)) (λ ds h same. none (head_is x minus text ds same)))
  ]
]

signed : (text : List ℕ) → Powers IsSigned text
signed text = elim (few text) [
  | inl h ↦ inl (number text, 0, (text, h.0, h.1, inl (inl refl, refl, refl)))
  | inr bad ↦ behind_sign text bad
]

behind_letter : (letter : ℕ) (text : List ℕ) → Decided ((letter ≡ 69) ⊎ (letter ≡ 101)) → Powers IsSigned text → Powers IsExponent (letter ∷ text)
behind_letter letter text (inl e) (inl s) = inl (s.0, s.1, (e, s.2))
behind_letter letter text (inr bad) s = inr (λ raised lowered h. bad h.0)
behind_letter letter text (inl e) (inr none) = inr (λ raised lowered h. none raised lowered h.1)

exponent : (text : List ℕ) → Powers IsExponent text
exponent [] = inl (0, 0, (refl, refl))
exponent (letter ∷ text) = behind_letter letter text (either (cases_eq letter 69) (cases_eq letter 101)) (signed text)

-- ---- the decimal

cut_fraction : (rest : List ℕ) → (fraction : List ℕ) × ((tail : List ℕ) × SplitsFraction rest fraction tail)
cut_fraction [] = ([], ([], (refl, refl)))
cut_fraction (byte ∷ rest) =
    elim (cases_eq byte point) [ inl e ↦ (_, (_, inl (e, cut_at_prefix rest))) | inr e ↦ ([], (byte ∷ rest, inr (e, refl, refl))) ]

abbrev Spelled : List ℕ → Type 0
Spelled text = ((decimal : Decimal) × Spells text decimal) ⊎ ((decimal : Decimal) → Spells text decimal → ⊥)

spelled_by : (text whole rest fraction tail : List ℕ) → SplitsDigits text whole rest → SplitsFraction rest fraction tail → Powers IsExponent tail
    → Decided (0 < length whole + length fraction) → Spelled text
spelled_by text whole rest fraction tail s f (inl e) (inl some) =
    inl (record { whole = whole; fraction = fraction; raised = e.0; lowered = e.1 }, spells_parts text whole rest fraction tail e.0 e.1 s f e.2 some)
spelled_by text whole rest fraction tail s f (inr none) some =
    inr (λ d h. let r = reads_parts text whole rest fraction tail d s f h in none d.raised d.lowered r.exponent_is)
spelled_by text whole rest fraction tail s f (inl e) (inr empty) =
    inr (λ d h.
    let r = reads_parts text whole rest fraction tail d s f h in
    let wide : length whole ≡ length d.whole = ap length r.whole_is in
    let deep : length fraction ≡ length d.fraction = ap length r.fraction_is in
    empty (omega (arith, h.some_digit, wide, deep)))

spelled : (text : List ℕ) → Spelled text
spelled text =
    let rest = drop (prefix_len is_ascii_digit text) text in
    let whole = take (prefix_len is_ascii_digit text) text in
    let f = cut_fraction rest in
    spelled_by text whole rest f.0 f.1.0 (cut_at_prefix text) f.1.1 (exponent f.1.0) (below 0 (length whole + length f.0))

-- ---- the rate

-- so many units below this number are the decimal, by trying each
abbrev Units : Decimal → ℕ → Type 0
Units decimal n = ((units : ℕ) × IsInUnits units decimal × (units < n)) ⊎ ((units : ℕ) → IsInUnits units decimal → units < n → ⊥)

units : (decimal : Decimal) (n : ℕ) → Units decimal n
units decimal zero = inr (λ k h less. omega (arith, less))
units decimal (suc n) = on (units decimal n) (cases_eq (n * denominator decimal) (1000000000 * numerator decimal))
  where
    on : Units decimal n → Decided (n * denominator decimal ≡ 1000000000 * numerator decimal) → Units decimal (suc n)
    on (inl found) e = inl (found.0, found.1, omega (arith, found.2))
    on (inr none) (inl e) = inl (n, e, omega arith)
    on (inr none) (inr bad) = inr (λ k h less. elim (cases_eq k n) [
      | inl same ↦ bad (subst (λ (u : ℕ). IsInUnits u decimal) same h)
      | inr differ ↦ none k h (omega (arith, less, differ))
    ])

abbrev Rated : List ℕ → Type 0
Rated text = ((rate : ℕ) × IsRate text rate) ⊎ ((rate : ℕ) → IsRate text rate → ⊥)

rated_by : (text : List ℕ) (d : Decimal) → Spells text d → Units d 1000000001 → Rated text
rated_by text d s (inl u) = inl (u.0, (d, s, u.1, omega (arith, u.2)))
rated_by text d s (inr none) =
    inr (λ rate h. let same = one_decimal text h.0 d h.1 s in none rate (subst (λ (x : Decimal). IsInUnits rate x) same h.2) (omega (arith, h.3)))

pub rate_or_none : (text : List ℕ) → Rated text
rate_or_none text = elim (spelled text) [
  | inl s ↦ rated_by text s.0 s.1 (units s.0 1000000001)
  | inr none ↦ inr (λ rate h. none h.0 h.1)
]

this_or_not : (text : List ℕ) (rate : ℕ) → Rated text → Decided (IsRate text rate)
this_or_not text rate (inr none) = inr (λ h. none rate h)
this_or_not text rate (inl r) = elim (cases_eq r.0 rate) [
  | inl same ↦ inl (subst (IsRate text) same r.1)
  | inr other ↦ inr (λ h. other (one_rate text r.0 rate r.1 h))
]

pub is_rate_or_not : (text : List ℕ) (rate : ℕ) → Decided (IsRate text rate)
is_rate_or_not text rate = this_or_not text rate (rate_or_none text)
