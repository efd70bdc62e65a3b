-- Pages of a seat: facts of each, their numbers apart, and a number among them.
use Rattle.turn_lock.proofs.Names.{◌≡◌, ℕ, ◌≢◌, false, eqb, List, [], ◌∷◌, ◌++◌, sym, refl, ap, ◌∙◌, arith, eq-eqb, ne_eqb, AllByRecursion, Contains, IsDistinct, Page, numbers}
use Rattle.std.proofs.lemmas.Bool.{false≢true}

pub all_weaker : {A : Type 0} (P Q : A → Type 0) (xs : List A) → ((x : A) → P x → Q x) → AllByRecursion P xs → AllByRecursion Q xs
all_weaker P Q [] f a = tt
all_weaker P Q (x ∷ xs) f a = (f x a.0, all_weaker P Q xs f a.1)

pub all_append : {A : Type 0} (P : A → Type 0) (xs ys : List A) → AllByRecursion P xs → AllByRecursion P ys → AllByRecursion P (xs ++ ys)
all_append P [] ys a b = b
all_append P (x ∷ xs) ys a b = (a.0, all_append P xs ys a.1 b)

pub all_both : {A : Type 0} (P Q R : A → Type 0) (xs : List A) → ((x : A) → P x → Q x → R x) → AllByRecursion P xs → AllByRecursion Q xs → AllByRecursion R xs
all_both P Q R [] f a b = tt
all_both P Q R (x ∷ xs) f a b = (f x a.0 b.0, all_both P Q R xs f a.1 b.1)

-- of the numbers, in place of the pages
pub all_numbers : (P : ℕ → Type 0) (ps : List Page) → AllByRecursion (λ p. P p.0) ps → AllByRecursion P (numbers ps)
all_numbers P [] a = tt
all_numbers P (p ∷ ps) a = (a.0, all_numbers P ps a.1)

pub all_pages : (P : ℕ → Type 0) (ps : List Page) → AllByRecursion P (numbers ps) → AllByRecursion (λ p. P p.0) ps
all_pages P [] a = tt
all_pages P (p ∷ ps) a = (a.0, all_pages P ps a.1)

pub numbers-append : (ps qs : List Page) → numbers (ps ++ qs) ≡ numbers ps ++ numbers qs
numbers-append [] qs = refl
numbers-append (p ∷ ps) qs = ap (λ l. p.0 ∷ l) (numbers-append ps qs)

pub apart : (n m : ℕ) → eqb n m ≡ false → m ≢ n
apart n m off e = false≢true (sym off ∙ eq-eqb n m (sym e))

pub distinct_head : (n : ℕ) (ns : List ℕ) → IsDistinct eqb (n ∷ ns) → AllByRecursion (λ m. m ≢ n) ns
unfolding IsDistinct
distinct_head n ns d = all_weaker (λ m. eqb n m ≡ false) (λ m. m ≢ n) ns (apart n) d.0

-- two lists of numbers, each apart, with nothing in common
pub distinct_append : (ns ms : List ℕ) → IsDistinct eqb ns → IsDistinct eqb ms → AllByRecursion (λ n. AllByRecursion (λ m. n ≢ m) ms) ns → IsDistinct eqb (ns ++ ms)
unfolding IsDistinct
distinct_append [] ms a b c = b
distinct_append (n ∷ ns) ms a b c =
    (all_append (λ m. eqb n m ≡ false) ns ms a.0 (all_weaker (λ m. n ≢ m) (λ m. eqb n m ≡ false) ms (λ m. ne_eqb n m) c.0), distinct_append ns ms a.1 b c.1)

pub distinct_none : IsDistinct eqb []
unfolding IsDistinct
distinct_none = tt

pub distinct_one : (n : ℕ) → IsDistinct eqb (n ∷ [])
unfolding IsDistinct
distinct_one n = (tt, tt)

pub among_left : (ns ms : List ℕ) (n : ℕ) → Contains ns n → Contains (ns ++ ms) n
among_left = Rattle.std.proofs.lemmas.List.Elements.Contains-append_left

pub among_right : (ns ms : List ℕ) (n : ℕ) → Contains ms n → Contains (ns ++ ms) n
among_right = Rattle.std.proofs.lemmas.List.Elements.Contains-append_right

pub among_none : (n : ℕ) → Contains [] n → ⊥
among_none n c = absurd (let l = c.1 in omega arith)
