-- The places of what passes a test in a list, and how many stand before a number
use Rattle.transcript_text.proofs.Names.{◌≡◌, ℕ, zero, suc, ◌+◌, ◌<◌, ◌≤◌, Bool, true, false, cond, List, [], ◌∷◌, ◌++◌, length, take, refl, ap, sym, ◌∙◌, subst, inl, inr, Some, arith, slice_get, count_by, cond-false, cond-true, AreRising, Has}
use Rattle.std.proofs.lemmas.List.Sums.{sum_by-cons}
use Rattle.std.proofs.lemmas.Option.{same_Some}

-- no number stands after a greater one
pub rest_rises : (n : ℕ) (ns : List ℕ) → AreRising (n ∷ ns) → AreRising ns
rest_rises n [] rising = tt
rest_rises n (m ∷ ns) rising = rising.1

pub above : (n : ℕ) (ns : List ℕ) → AreRising (n ∷ ns) → (m : ℕ) → Has ns m → n < m
above n [] rising m has = absurd has
above n (k ∷ ns) rising m (inl same) = omega (arith, same, rising.0)
above n (k ∷ ns) rising m (inr later) = let more = above k ns rising.1 m later in omega (arith, more, rising.0)

-- a number before greater ones
pub rises : (n : ℕ) (ns : List ℕ) → AreRising ns → ((m : ℕ) → Has ns m → n < m) → AreRising (n ∷ ns)
rises n [] rising more = tt
rises n (m ∷ ns) rising more = (more m (inl refl), rising)

-- two rising lists with the same numbers are one
pub rising_alike : (xs ys : List ℕ) → AreRising xs → AreRising ys → ((n : ℕ) → Has xs n → Has ys n) → ((n : ℕ) → Has ys n → Has xs n)
    → xs ≡ ys
rising_alike [] [] rising others to from = refl
rising_alike [] (y ∷ ys) rising others to from = absurd (from y (inl refl))
rising_alike (x ∷ xs) [] rising others to from = absurd (to x (inl refl))
rising_alike (x ∷ xs) (y ∷ ys) rising others to from =
    let rest = rising_alike xs ys (rest_rises x xs rising) (rest_rises y ys others) behind before in
    λ i. first i ∷ rest i
  where
    least : (a : ℕ) (rest : List ℕ) → AreRising (a ∷ rest) → (m : ℕ) → Has (a ∷ rest) m → a ≤ m
    least a rest up m (inl same) = omega (arith, same)
    least a rest up m (inr later) = let more = above a rest up m later in omega (arith, more)

    first : x ≡ y
    first =
        let one = least y ys others x (to x (inl refl)) in
        let other = least x xs rising y (from y (inl refl)) in
        omega (arith, one, other)

    not_first : (m : ℕ) → y < m → Has (y ∷ ys) m → Has ys m
    not_first m more (inl same) = absurd (omega (arith, more, same))
    not_first m more (inr later) = later

    not_first_too : (m : ℕ) → x < m → Has (x ∷ xs) m → Has xs m
    not_first_too m more (inl same) = absurd (omega (arith, more, same))
    not_first_too m more (inr later) = later

    behind : (n : ℕ) → Has xs n → Has ys n
    behind n has = let more = above x xs rising n has in not_first n (omega (arith, more, first)) (to n (inr has))

    before : (n : ℕ) → Has ys n → Has xs n
    before n has = let more = above y ys others n has in not_first_too n (omega (arith, more, first)) (from n (inr has))

module _ {X : Type 0} (p : X → Bool) where
  -- from a number on
  abbrev pub places : ℕ → List X → List ℕ
  places n [] = []
  places n (x ∷ xs) = cond (p x) (n ∷ places (n + 1) xs) (places (n + 1) xs)

  passed : (n : ℕ) (x : X) (xs : List X) → p x ≡ true → places n (x ∷ xs) ≡ n ∷ places (n + 1) xs
  passed n x xs is = cond-true (p x) (n ∷ places (n + 1) xs) (places (n + 1) xs) is

  failed : (n : ℕ) (x : X) (xs : List X) → p x ≡ false → places n (x ∷ xs) ≡ places (n + 1) xs
  failed n x xs is = cond-false (p x) (n ∷ places (n + 1) xs) (places (n + 1) xs) is

  -- what stands at a place
  abbrev pub StandsAt : ℕ → List X → ℕ → Type 0
  StandsAt n xs m = (k : ℕ) × (m ≡ n + k) × ((x : X) × (slice_get xs k ≡ Some x) × (p x ≡ true))

  pub of_places : (n : ℕ) (xs : List X) (m : ℕ) → Has (places n xs) m → StandsAt n xs m
  of_places n [] m has = absurd has
  of_places n (x ∷ xs) m has = by (p x) refl (λ there. of_places (n + 1) xs m there)
    where
      later : StandsAt (n + 1) xs m → StandsAt n (x ∷ xs) m
      later rest = (suc rest.0, omega (arith, rest.1), rest.2)

      by : (b : Bool) → p x ≡ b → (Has (places (n + 1) xs) m → StandsAt (n + 1) xs m) → StandsAt n (x ∷ xs) m
      by false is rest = later (rest (subst (λ (ns : List ℕ). Has ns m) (failed n x xs is) has))
      by true is rest = here (subst (λ (ns : List ℕ). Has ns m) (passed n x xs is) has)
        where
          here : Has (n ∷ places (n + 1) xs) m → StandsAt n (x ∷ xs) m
          here (inl same) = (0, omega (arith, same), (x, refl, is))
          here (inr there) = later (rest there)

  pub has_places : (n : ℕ) (xs : List X) (k : ℕ) (x : X) → slice_get xs k ≡ Some x → p x ≡ true → Has (places n xs) (n + k)
  has_places n [] k x there is = cc
  has_places n (y ∷ xs) zero x there is =
      let same : y ≡ x = same_Some y x there in
      subst (λ (ns : List ℕ). Has ns (n + 0)) (sym (passed n y xs (ap p same ∙ is))) (inl (omega arith))
  has_places n (y ∷ xs) (suc k) x there is =
      by (p y) refl (subst (λ (m : ℕ). Has (places (n + 1) xs) m) (omega arith) (has_places (n + 1) xs k x there is))
    where
      by : (b : Bool) → p y ≡ b → Has (places (n + 1) xs) (n + suc k) → Has (places n (y ∷ xs)) (n + suc k)
      by true up rest = subst (λ (ns : List ℕ). Has ns (n + suc k)) (sym (passed n y xs up)) (inr rest)
      by false up rest = subst (λ (ns : List ℕ). Has ns (n + suc k)) (sym (failed n y xs up)) rest

  pub places_rise : (n : ℕ) (xs : List X) → AreRising (places n xs)
  places_rise n [] = tt
  places_rise n (x ∷ xs) = by (p x) refl (places_rise (n + 1) xs)
    where
      later : (m : ℕ) → Has (places (n + 1) xs) m → n < m
      later m has = let rest = of_places (n + 1) xs m has in omega (arith, rest.1)

      by : (b : Bool) → p x ≡ b → AreRising (places (n + 1) xs) → AreRising (places n (x ∷ xs))
      by true is rest = subst AreRising (sym (passed n x xs is)) (rises n (places (n + 1) xs) rest later)
      by false is rest = subst AreRising (sym (failed n x xs is)) rest

  one_more : (x : X) (xs : List X) (j : ℕ) → count_by p (take (suc j) (x ∷ xs)) ≡ cond (p x) 1 0 + count_by p (take j xs)
  one_more x xs j = sum_by-cons (λ (y : X). cond (p y) 1 0) x (take j xs)

  tails : (n m : ℕ) (ns ms : List ℕ) → n ∷ ns ≡ m ∷ ms → ns ≡ ms
  tails n m ns ms same = ap tail_of same
    where
      tail_of : List ℕ → List ℕ
      tail_of [] = []
      tail_of (m ∷ ms) = ms

  -- up to a number as many pass as places stand below it
  pub counted_below : (n : ℕ) (xs : List X) (front back : List ℕ) (k : ℕ) → places n xs ≡ front ++ back
      → ((m : ℕ) → Has front m → m < n + k) → ((m : ℕ) → Has back m → n + k ≤ m) → count_by p (take k xs) ≡ length front
  counted_below n [] [] back zero split low high = refl
  counted_below n [] [] back (suc k) split low high = refl
  counted_below n [] (f ∷ front) back k split low high = cc
  counted_below n (x ∷ xs) [] back zero split low high = refl
  counted_below n (x ∷ xs) (f ∷ front) back zero split low high =
      let there = of_places n (x ∷ xs) f (subst (λ (ns : List ℕ). Has ns f) (sym split) (inl refl)) in
      absurd (let below = low f (inl refl) in omega (arith, below, there.1))
  counted_below n (x ∷ xs) front back (suc k) split low high =
      by (p x) refl front split low (λ fs parts under over. counted_below (n + 1) xs fs back k parts under over)
    where
      Rest : Type 0
      Rest = (fs : List ℕ) → places (n + 1) xs ≡ fs ++ back → ((m : ℕ) → Has fs m → m < (n + 1) + k)
          → ((m : ℕ) → Has back m → (n + 1) + k ≤ m) → count_by p (take k xs) ≡ length fs

      over : (m : ℕ) → Has back m → (n + 1) + k ≤ m
      over m has = let above_it = high m has in omega (arith, above_it)

      by : (b : Bool) → p x ≡ b → (fs : List ℕ) → places n (x ∷ xs) ≡ fs ++ back → ((m : ℕ) → Has fs m → m < n + suc k)
          → Rest → count_by p (take (suc k) (x ∷ xs)) ≡ length fs
      by true is [] parts under rest =
          let here = high n (subst (λ (ns : List ℕ). Has ns n) (sym (passed n x xs is) ∙ parts) (inl refl)) in absurd (omega (arith, here))
      by true is (f ∷ fs) parts under rest =
          let behind = rest fs (tails n f (places (n + 1) xs) (fs ++ back) (sym (passed n x xs is) ∙ parts))
          (λ m has. let below = under m (inr has) in omega (arith, below)) over in
          let worth = ap {B = ℕ} (λ (b : Bool). cond b 1 0) is in
          let whole = one_more x xs k in
          omega (arith, whole, worth, behind)
      by false is fs parts under rest =
          let behind = rest fs (sym (failed n x xs is) ∙ parts) (λ m has. let below = under m has in omega (arith, below)) over in
          let worth = ap {B = ℕ} (λ (b : Bool). cond b 1 0) is in
          let whole = one_more x xs k in
          omega (arith, whole, worth, behind)

  -- and in all as many as there are places
  pub counted : (n : ℕ) (xs : List X) → count_by p xs ≡ length (places n xs)
  counted n [] = refl
  counted n (x ∷ xs) = by (p x) refl (counted (n + 1) xs)
    where
      whole : count_by p (x ∷ xs) ≡ cond (p x) 1 0 + count_by p xs
      whole = sum_by-cons (λ (y : X). cond (p y) 1 0) x xs

      by : (b : Bool) → p x ≡ b → count_by p xs ≡ length (places (n + 1) xs) → count_by p (x ∷ xs) ≡ length (places n (x ∷ xs))
      by true is rest =
          let worth = ap {B = ℕ} (λ (b : Bool). cond b 1 0) is in
          let long = ap length (passed n x xs is) in
          omega (arith, whole, rest, worth, long)
      by false is rest =
          let worth = ap {B = ℕ} (λ (b : Bool). cond b 1 0) is in
          let long = ap length (failed n x xs is) in
          omega (arith, whole, rest, worth, long)
