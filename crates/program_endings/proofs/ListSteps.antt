-- Elements of lists, and their places
use Rattle.program_endings.proofs.Names.{◌≡◌, ℕ, zero, suc, ◌+◌, ◌-◌, ◌≤◌, ◌⊎◌, Bool, true, false, List, [], ◌∷◌, ◌++◌, map, take, Some, refl, ap, sym, ◌∙◌, subst, inl, inr, arith, ◌||◌, slice_get, cond-false, cond-true, Contains-append_cases, Contains-append_right, Contains-push_cases}
use Rattle.std.specs.List.{AllByRecursion, AllZip, Contains, enumerate_from, filter, flat_map, list_any}

-- x is one of the list
abbrev pub Has : {A : Type 0} → List A → A → Type 0
Has [] x = ⊥
Has (y ∷ ys) x = (y ≡ x) ⊎ Has ys x

pub has_of_contains : {A : Type 0} (xs : List A) (x : A) → Contains xs x → Has xs x
has_of_contains [] x among = absurd (let below = among.1 in omega arith)
has_of_contains (y ∷ ys) x among = elim (Contains-append_cases (y ∷ []) ys x among) [
  | inl first ↦ elim (Contains-push_cases [] y x first) [
    | inl never ↦ absurd (let below = never.1 in omega arith)
    | inr same ↦ inl same
  ]
  | inr later ↦ inr (has_of_contains ys x later)
]

pub contains_of_has : {A : Type 0} (xs : List A) (x : A) → Has xs x → Contains xs x
contains_of_has [] x has = absurd has
contains_of_has (y ∷ ys) x (inl same) = (0, omega arith, same)
contains_of_has (y ∷ ys) x (inr later) = Contains-append_right (y ∷ []) ys x (contains_of_has ys x later)

-- what holds of all is what holds of each
pub all_has : {A : Type 0} (P : A → Type 0) (xs : List A) → ((x : A) → Has xs x → P x) → AllByRecursion P xs
all_has P [] each = tt
all_has P (x ∷ xs) each = (each x (inl refl), all_has P xs (λ y has. each y (inr has)))

pub of_all : {A : Type 0} (P : A → Type 0) (xs : List A) (x : A) → AllByRecursion P xs → Has xs x → P x
of_all P [] x all has = absurd has
of_all P (y ∷ ys) x all (inl same) = subst P same all.0
of_all P (y ∷ ys) x all (inr later) = of_all P ys x all.1 later

pub all_take : {A : Type 0} (P : A → Type 0) (k : ℕ) (xs : List A) → AllByRecursion P xs → AllByRecursion P (take k xs)
all_take P zero xs all = tt
all_take P (suc k) [] all = tt
all_take P (suc k) (x ∷ xs) all = (all.0, all_take P k xs all.1)

pub all_and : {A : Type 0} (P : A → Type 0) (xs ys : List A) → AllByRecursion P xs → AllByRecursion P ys → AllByRecursion P (xs ++ ys)
all_and P [] ys all also = also
all_and P (x ∷ xs) ys all also = (all.0, all_and P xs ys all.1 also)

pub all_map : {A B : Type 0} (P : B → Type 0) (f : A → B) (xs : List A) → ((x : A) → P (f x)) → AllByRecursion P (map f xs)
all_map P f [] each = tt
all_map P f (x ∷ xs) each = (each x, all_map P f xs each)

-- through what makes lists of lists
pub has_left : {A : Type 0} (xs ys : List A) (x : A) → Has xs x → Has (xs ++ ys) x
has_left [] ys x has = absurd has
has_left (z ∷ xs) ys x (inl same) = inl same
has_left (z ∷ xs) ys x (inr later) = inr (has_left xs ys x later)

pub has_right : {A : Type 0} (xs ys : List A) (x : A) → Has ys x → Has (xs ++ ys) x
has_right [] ys x has = has
has_right (z ∷ xs) ys x has = inr (has_right xs ys x has)

pub has_either : {A : Type 0} (xs ys : List A) (x : A) → Has (xs ++ ys) x → Has xs x ⊎ Has ys x
has_either [] ys x has = inr has
has_either (z ∷ xs) ys x (inl same) = inl (inl same)
has_either (z ∷ xs) ys x (inr later) = elim (has_either xs ys x later) [ inl left ↦ inl (inr left) | inr right ↦ inr right ]

pub has_map : {A B : Type 0} (f : A → B) (xs : List A) (x : A) → Has xs x → Has (map f xs) (f x)
has_map f [] x has = absurd has
has_map f (y ∷ ys) x (inl same) = inl (ap f same)
has_map f (y ∷ ys) x (inr later) = inr (has_map f ys x later)

pub of_map : {A B : Type 0} (f : A → B) (xs : List A) (y : B) → Has (map f xs) y → (x : A) × Has xs x × (f x ≡ y)
of_map f [] y has = absurd has
of_map f (x ∷ xs) y (inl same) = (x, inl refl, same)
of_map f (x ∷ xs) y (inr later) = let found = of_map f xs y later in (found.0, inr found.1, found.2)

pub has_filter : {A : Type 0} (p : A → Bool) (xs : List A) (x : A) → p x ≡ true → Has xs x → Has (filter p xs) x
has_filter p [] x passes has = absurd has
has_filter p (y ∷ ys) x passes (inl same) =
    let here : p y ≡ true = ap p same ∙ passes in
    let kept : filter p (y ∷ ys) ≡ y ∷ filter p ys = cond-true (p y) _ _ here in
    subst (λ l. Has l x) (sym kept) (inl same)
has_filter {A = A} p (y ∷ ys) x passes (inr later) = by (p y) refl (has_filter p ys x passes later)
  where
    by : (b : Bool) → p y ≡ b → Has (filter p ys) x → Has (filter p (y ∷ ys)) x
    by true is there =
        let kept : filter p (y ∷ ys) ≡ y ∷ filter p ys = cond-true (p y) _ _ is in
        subst (λ (l : List A). Has l x) (sym kept) (inr there)
    by false is there =
        let gone : filter p (y ∷ ys) ≡ filter p ys = cond-false (p y) _ _ is in
        subst (λ (l : List A). Has l x) (sym gone) there

pub of_filter : {A : Type 0} (p : A → Bool) (xs : List A) (x : A) → Has (filter p xs) x → Has xs x × (p x ≡ true)
of_filter p [] x has = absurd has
of_filter {A = A} p (y ∷ ys) x has = by (p y) refl (of_filter p ys x)
  where
    by : (b : Bool) → p y ≡ b → (Has (filter p ys) x → Has ys x × (p x ≡ true)) → Has (y ∷ ys) x × (p x ≡ true)
    by true is rest =
        let kept : filter p (y ∷ ys) ≡ y ∷ filter p ys = cond-true (p y) _ _ is in
        elim (subst (λ (l : List A). Has l x) kept has) [
          | inl same ↦ (inl same, ap p (sym same) ∙ is)
          | inr later ↦ (let found = rest later in (inr found.0, found.1))
        ]
    by false is rest =
        let gone : filter p (y ∷ ys) ≡ filter p ys = cond-false (p y) _ _ is in
        let found = rest (subst (λ (l : List A). Has l x) gone has) in
        (inr found.0, found.1)

pub has_flat_map : {A B : Type 0} (f : A → List B) (xs : List A) (x : A) (y : B) → Has xs x → Has (f x) y → Has (flat_map f xs) y
has_flat_map f [] x y has there = absurd has
has_flat_map f (z ∷ xs) x y (inl same) there = has_left (f z) (flat_map f xs) y (subst (λ w. Has (f w) y) (sym same) there)
has_flat_map f (z ∷ xs) x y (inr later) there = has_right (f z) (flat_map f xs) y (has_flat_map f xs x y later there)

pub of_flat_map : {A B : Type 0} (f : A → List B) (xs : List A) (y : B) → Has (flat_map f xs) y → (x : A) × Has xs x × Has (f x) y
of_flat_map f [] y has = absurd has
of_flat_map f (x ∷ xs) y has = elim (has_either (f x) (flat_map f xs) y has) [
  | inl here ↦ (x, inl refl, here)
  | inr later ↦ (let found = of_flat_map f xs y later in (found.0, inr found.1, found.2))
]

-- places
pub of_enumerate : {A : Type 0} (n : ℕ) (xs : List A) (k : ℕ) (x : A) → Has (enumerate_from n xs) (k, x)
    → (n ≤ k) × (slice_get xs (k - n) ≡ Some x)
of_enumerate n [] k x has = absurd has
of_enumerate n (y ∷ ys) k x (inl same) =
    let place : n ≡ k = ap (λ p. p.0) same in
    let item : y ≡ x = ap (λ p. p.1) same in
    let none : k - n ≡ 0 = omega (arith, place) in
    (omega (arith, place), rw none (ap Some item))
of_enumerate n (y ∷ ys) k x (inr later) =
    let found = of_enumerate (n + 1) ys k x later in
    let more : k - n ≡ suc (k - (n + 1)) = omega (arith, found.0) in
    (omega (arith, found.0), rw more found.1)

pub has_enumerate : {A : Type 0} (n : ℕ) (xs : List A) (x : A) → Has xs x → (k : ℕ) × Has (enumerate_from n xs) (k, x)
has_enumerate n [] x has = absurd has
has_enumerate n (y ∷ ys) x (inl same) = (n, inl (ap (λ z. (n, z)) same))
has_enumerate n (y ∷ ys) x (inr later) = let found = has_enumerate (n + 1) ys x later in (found.0, inr found.1)

pub has_at : {A : Type 0} (xs : List A) (k : ℕ) (x : A) → slice_get xs k ≡ Some x → Has xs x
has_at [] k x here = absurd (cc)
has_at (y ∷ ys) zero x here = inl (cc)
has_at (y ∷ ys) (suc k) x here = inr (has_at ys k x here)

-- what stands before a place, there, and after it
pub parted : {A : Type 0} (xs : List A) (k : ℕ) (x : A) → slice_get xs k ≡ Some x → (after : List A) × (xs ≡ take k xs ++ x ∷ after)
parted [] k x here = absurd (cc)
parted (y ∷ ys) zero x here = let same : y ≡ x = cc in (ys, ap (λ z. z ∷ ys) same)
parted (y ∷ ys) (suc k) x here = let rest = parted ys k x here in (rest.0, ap (λ l. y ∷ l) rest.1)

pub front_back : {A : Type 0} (k : ℕ) (xs : List A) → (back : List A) × (xs ≡ take k xs ++ back)
front_back zero xs = (xs, refl)
front_back (suc k) [] = ([], refl)
front_back (suc k) (x ∷ xs) = let rest = front_back k xs in (rest.0, ap (λ l. x ∷ l) rest.1)

-- tests
or_false : (a b : Bool) → (a || b) ≡ false → (a ≡ false) × (b ≡ false)
or_false true b none = absurd (cc)
or_false false b none = (refl, none)

pub any_none : {A : Type 0} (p : A → Bool) (xs : List A) → list_any p xs ≡ false → AllByRecursion (λ x. p x ≡ false) xs
any_none p [] none = tt
any_none p (x ∷ xs) none = let both = or_false (p x) (list_any p xs) none in (both.0, any_none p xs both.1)

pub any_some : {A : Type 0} (p : A → Bool) (xs : List A) → list_any p xs ≡ true → (x : A) × Has xs x × (p x ≡ true)
any_some p [] some = absurd (cc)
any_some {A = A} p (x ∷ xs) some = by (p x) refl some (any_some p xs)
  where
    by : (b : Bool) → p x ≡ b → (b || list_any p xs) ≡ true → (list_any p xs ≡ true → (y : A) × Has xs y × (p y ≡ true))
        → (y : A) × Has (x ∷ xs) y × (p y ≡ true)
    by true is some rest = (x, inl refl, is)
    by false is some rest = let found = rest some in (found.0, inr found.1, found.2)

-- pairs
pub zip_right : {A B : Type 0} (R : A → B → Type 0) (xs : List A) (ys : List B) (y : B) → AllZip R xs ys → Has ys y
    → (x : A) × Has xs x × R x y
zip_right R [] [] y all has = absurd has
zip_right R [] (z ∷ ys) y all has = absurd all
zip_right R (x ∷ xs) [] y all has = absurd has
zip_right R (x ∷ xs) (z ∷ ys) y all (inl same) = (x, inl refl, subst (R x) same all.0)
zip_right R (x ∷ xs) (z ∷ ys) y all (inr later) = let found = zip_right R xs ys y all.1 later in (found.0, inr found.1, found.2)

pub zip_left : {A B : Type 0} (R : A → B → Type 0) (xs : List A) (ys : List B) (x : A) → AllZip R xs ys → Has xs x
    → (y : B) × Has ys y × R x y
zip_left R [] ys x all has = absurd has
zip_left R (z ∷ xs) [] x all has = absurd all
zip_left R (z ∷ xs) (y ∷ ys) x all (inl same) = (y, inl refl, subst (λ w. R w y) same all.0)
zip_left R (z ∷ xs) (y ∷ ys) x all (inr later) = let found = zip_left R xs ys x all.1 later in (found.0, inr found.1, found.2)

pub same_opened : {O : Type 0} (a b : O) → Some a ≡ Some b → a ≡ b
same_opened a b e = cc
