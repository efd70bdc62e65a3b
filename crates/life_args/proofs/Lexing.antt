-- What a word looks like to `clap`
use Rattle.life_args.proofs.Names.{◌≡◌, ◌⊎◌, ◌==◌, ◌||◌, ◌<◌, ℕ, zero, suc, Bool, true, false, List, [], ◌∷◌, ◌++◌, length, Option, Some, None, refl, sym, ap, ◌∙◌, subst, arith, inl, inr, bytes_eq, true≢false, has_byte, long_of, name_and_value, short_of, IsPlainText, is_odd}
use Rattle.std.proofs.lemmas.Bool.Decides.{nat_tests}
use Rattle.clap.specs.Walk.{Text}
use Rattle.clap.proofs.CutLemmas.{Lacks}
use Rattle.clap.proofs.LexerLemmas.{name_and_value-at, name_and_value-without}

-- the argument is read as a value if one may come
pub record IsValueWord (word : Text) : Type 0 where
  pub no_hyphens : bytes_eq word (45 ∷ 45 ∷ []) ≡ false
  pub no_long : long_of word ≡ None
  pub no_short : short_of word ≡ None

-- the word is `--name`, or `--name=value`
pub record IsNamed (word name : Text) (given : Option Text) : Type 0 where
  pub no_hyphens : bytes_eq word (45 ∷ 45 ∷ []) ≡ false
  pub reads : long_of word ≡ Some (name, given)

pub plain_word : (word : Text) → IsPlainText word → IsValueWord word
plain_word [] plain = record { no_hyphens = refl; no_long = refl; no_short = refl }
plain_word (x ∷ xs) plain = record { no_hyphens = rw plain refl; no_long = rw plain refl; no_short = rw plain refl }

-- an option's name: it isn't empty and has no `=`
pub record IsOptionName (name : Text) : Type 0 where
  pub some : 0 < length name
  pub lacks : has_byte 61 name ≡ false

lacks_more : (x : ℕ) (xs : List ℕ) → (x == 61) ≡ false → Lacks 61 xs → Lacks 61 (x ∷ xs)
lacks_more x xs other h zero lt = grind (arith, nat_tests)
lacks_more x xs other h (suc i) lt = h i (omega arith)

lacks_by : (xs : List ℕ) → has_byte 61 xs ≡ false → Lacks 61 xs
lacks_by [] e = λ i lt. absurd (omega arith)
lacks_by (x ∷ xs) e = go (x == 61) refl (lacks_by xs)
  where
    go : (b : Bool) → (x == 61) ≡ b → (has_byte 61 xs ≡ false → Lacks 61 xs) → Lacks 61 (x ∷ xs)
    go true is rest = absurd (true≢false (ap (λ (b : Bool). b || has_byte 61 xs) (sym is) ∙ e))
    go false is rest = lacks_more x xs is (rest (ap (λ (b : Bool). b || has_byte 61 xs) (sym is) ∙ e))

pub apart_named : (name : Text) → IsOptionName name → IsNamed (45 ∷ 45 ∷ name) name None
apart_named [] is = absurd (omega (arith, is.some))
apart_named (x ∷ xs) is = record { no_hyphens = refl; reads = ap Some (name_and_value-without (x ∷ xs) (lacks_by (x ∷ xs) is.lacks)) }

pub joined_named : (name value : Text) → IsOptionName name → IsNamed (45 ∷ 45 ∷ (name ++ 61 ∷ value)) name (Some value)
joined_named [] value is = absurd (omega (arith, is.some))
joined_named (x ∷ xs) value is = record { no_hyphens = refl; reads = ap Some (name_and_value-at (x ∷ xs) value (lacks_by (x ∷ xs) is.lacks)) }

-- each word that isn't odd is one of these
pub data Seen (word : Text) : Type 0 where
  alone : IsPlainText word → Seen word
  apart : (name : Text) → word ≡ 45 ∷ 45 ∷ name → IsNamed word name None → Seen word
  joined : (name value : Text) → word ≡ 45 ∷ 45 ∷ (name ++ 61 ∷ value) → IsNamed word name (Some value) → Seen word

-- a text is cut at its first `=`, if it has one
cut : (text : Text) → Lacks 61 text ⊎ ((name : Text) × (value : Text) × (text ≡ name ++ 61 ∷ value) × Lacks 61 name)
cut [] = inl (λ i lt. absurd (omega arith))
cut (x ∷ xs) = go (x == 61) refl (cut xs)
  where
    go : (b : Bool) → (x == 61) ≡ b → (Lacks 61 xs ⊎ ((name : Text) × (value : Text) × (xs ≡ name ++ 61 ∷ value) × Lacks 61 name))
        → Lacks 61 (x ∷ xs) ⊎ ((name : Text) × (value : Text) × (x ∷ xs ≡ name ++ 61 ∷ value) × Lacks 61 name)
    go true is rest = let same : x ≡ 61 = grind (arith, nat_tests) in inr ([], xs, ap (λ n. n ∷ xs) same, λ i lt. absurd (omega arith))
    go false is (inl none) = inl (lacks_more x xs is none)
    go false is (inr some) = inr (x ∷ some.0, some.1, ap (λ ys. x ∷ ys) some.2, lacks_more x some.0 is some.3)

-- after two hyphens
long_seen : (x : ℕ) (xs : Text) → Seen (45 ∷ 45 ∷ x ∷ xs)
long_seen x xs = elim (cut (x ∷ xs)) [
  | inl none ↦ apart (x ∷ xs) refl (record { no_hyphens = refl; reads = ap Some (name_and_value-without (x ∷ xs) none) })
  | inr some ↦ joined some.0 some.1 (ap (λ t. 45 ∷ 45 ∷ t) some.2) (record { no_hyphens = refl; reads = ap Some (ap name_and_value some.2 ∙ name_and_value-at some.0 some.1 some.3) })
]

hyphen_seen : (xs : Text) → is_odd (45 ∷ xs) ≡ false → Seen (45 ∷ xs)
hyphen_seen [] even = absurd (true≢false even)
hyphen_seen (y ∷ []) even = absurd (true≢false even)
hyphen_seen (y ∷ z ∷ zs) even = go (y == 45) refl
  where
    go : (b : Bool) → (y == 45) ≡ b → Seen (45 ∷ y ∷ z ∷ zs)
    go true is = let same : y ≡ 45 = grind (arith, nat_tests) in subst (λ n. Seen (45 ∷ n ∷ z ∷ zs)) (sym same) (long_seen z zs)
    go false is = absurd (true≢false (rw is at even))

pub seen : (word : Text) → is_odd word ≡ false → Seen word
seen [] even = alone tt
seen (x ∷ xs) even = go (x == 45) refl
  where
    go : (b : Bool) → (x == 45) ≡ b → Seen (x ∷ xs)
    go true is = let same : x ≡ 45 = grind (arith, nat_tests) in subst Seen (ap (λ n. n ∷ xs) (sym same)) (hyphen_seen xs (subst (λ n. is_odd (n ∷ xs) ≡ false) same even))
    go false is = alone is
