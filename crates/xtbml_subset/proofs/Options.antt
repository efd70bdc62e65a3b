-- Options, tests and tuples taken apart.
use Rattle.xtbml_subset.proofs.Names.{◌≡◌, Bool, true, false, cond, Option, Some, None, refl, ap, ◌⊎◌, inl, inr, first_of, ◌>>=◌}

pub bind_some : {A B : Type 0} (o : Option A) (f : A → Option B) (y : B) → (o >>= f) ≡ Some y → (x : A) × (o ≡ Some x) × (f x ≡ Some y)
bind_some None f y e = absurd cc
bind_some (Some x) f y e = (x, refl, e)

pub first_of_some : {A : Type 0} (o p : Option A) (y : A) → first_of o p ≡ Some y → (o ≡ Some y) ⊎ ((o ≡ None) × (p ≡ Some y))
first_of_some None p y e = inr (refl, e)
first_of_some (Some x) p y e = inl e

pub chosen : {A : Type 0} (b : Bool) (x y z : A) → cond b x y ≡ z → ((b ≡ true) × (x ≡ z)) ⊎ ((b ≡ false) × (y ≡ z))
chosen true x y z e = inl (refl, e)
chosen false x y z e = inr (refl, e)

abbrev some : {A : Type 0} → A → Option A
some x = Some x

pub some_is : {A : Type 0} (x y : A) → some x ≡ some y → x ≡ y
some_is x y e = cc

-- the same with pairs
abbrev pub some_pair : {A B : Type 0} → A → B → Option (A × B)
some_pair x y = Some (x, y)

pub pair_is : {A B : Type 0} (a c : A) (b d : B) → some_pair a b ≡ some_pair c d → (a ≡ c) × (b ≡ d)
pair_is {A} {B} a c b d e =
    let x : A × B = (a, b) in
    let y : A × B = (c, d) in
    let p : x ≡ y = some_is x y e in
    (ap (λ (z : A × B). z.0) p, ap (λ (z : A × B). z.1) p)
