-- Lists that are put together of two, and what holds of their items
use Rattle.parallel_value.proofs.Names.{◌≡◌, ◌++◌, ◌∷◌, ◌+◌, ◌<◌, List, [], ℕ, inl, inr, ap, ap₂, map, refl, sym, ◌∙◌, subst, take, set, length, get_or, arith, take_more, take_more_set, AllByRecursion, AllZip, TakeAll, MayGive, AreValues, IsAsBefore, Compute}

pub all_front : {X : Type 0} (P : X → Type 0) (xs ys : List X) → AllByRecursion P (xs ++ ys) → AllByRecursion P xs
all_front P [] ys all = tt
all_front P (x ∷ xs) ys all = (all.0, all_front P xs ys all.1)

pub all_back : {X : Type 0} (P : X → Type 0) (xs ys : List X) → AllByRecursion P (xs ++ ys) → AllByRecursion P ys
all_back P [] ys all = all
all_back P (x ∷ xs) ys all = all_back P xs ys all.1

pub all_more : {X : Type 0} (P Q : X → Type 0) (xs : List X) → ((x : X) → P x → Q x) → AllByRecursion P xs → AllByRecursion Q xs
all_more P Q [] more all = tt
all_more P Q (x ∷ xs) more all = (more x all.0, all_more P Q xs more all.1)

pub zip_more : {X Y : Type 0} (P Q : X → Y → Type 0) (xs : List X) (ys : List Y) → ((x : X) (y : Y) → P x y → Q x y) → AllZip P xs ys
    → AllZip Q xs ys
zip_more P Q [] [] more all = tt
zip_more P Q [] (y ∷ ys) more all = absurd all
zip_more P Q (x ∷ xs) [] more all = absurd all
zip_more P Q (x ∷ xs) (y ∷ ys) more all = (more x y all.0, zip_more P Q xs ys more all.1)

pub zip_append : {X Y : Type 0} (P : X → Y → Type 0) (xs : List X) (ys : List Y) (vs : List X) (ws : List Y) → AllZip P xs ys → AllZip P vs ws
    → AllZip P (xs ++ vs) (ys ++ ws)
zip_append P [] [] vs ws front back = back
zip_append P [] (y ∷ ys) vs ws front back = absurd front
zip_append P (x ∷ xs) [] vs ws front back = absurd front
zip_append P (x ∷ xs) (y ∷ ys) vs ws front back = (front.0, zip_append P xs ys vs ws front.1 back)

pub zip_push : {X Y : Type 0} (P : X → Y → Type 0) (xs : List X) (ys : List Y) (x : X) (y : Y) → AllZip P xs ys → P x y
    → AllZip P (xs ++ x ∷ []) (ys ++ y ∷ [])
zip_push P xs ys x y all last = zip_append P xs ys (x ∷ []) (y ∷ []) all (last, tt)

-- one more item, and its value
pub values_next : {X Y : Type 0} (P : X → Y → Type 0) (xs : List X) (i : ℕ) (x : X) (ys zs : List Y) (y : Y) → i < length xs
    → x ≡ get_or xs i x → AllZip P (take i xs) ys → zs ≡ ys ++ y ∷ [] → P x y → AllZip P (take (i + 1) xs) zs
values_next P xs i x ys zs y lt is all longer last =
    subst (λ l. AllZip P (take (i + 1) xs) l) (sym longer)
    (subst (λ l. AllZip P l (ys ++ y ∷ [])) (ap (λ z. take i xs ++ z ∷ []) is ∙ sym (take_more xs i x lt)) (zip_push P (take i xs) ys x y all last))

-- one more place is filled
pub filled_next : {X Y : Type 0} (P : X → Y → Type 0) (xs : List X) (i : ℕ) (x : X) (ys : List Y) (y : Y) → i < length xs → length ys ≡ length xs
    → x ≡ get_or xs i x → AllZip P (take i xs) (take i ys) → P x y → AllZip P (take (i + 1) xs) (take (i + 1) (set ys i y))
filled_next P xs i x ys y lt places is all last =
    values_next P xs i x (take i ys) (take (i + 1) (set ys i y)) y lt is all (take_more_set ys i y (omega (arith, lt, places))) last

module _ {P I O : Type 0} (takes : P → I → Type 0) (gives : P → I → O → Type 0) where
  pub may_front : (ps qs : List P) (item : I) (value : O) → MayGive gives ps item value → MayGive gives (ps ++ qs) item value
  may_front [] qs item value may = absurd may
  may_front (p ∷ ps) qs item value (inl one) = inl one
  may_front (p ∷ ps) qs item value (inr may) = inr (may_front ps qs item value may)

  pub may_back : (ps qs : List P) (item : I) (value : O) → MayGive gives qs item value → MayGive gives (ps ++ qs) item value
  may_back [] qs item value may = may
  may_back (p ∷ ps) qs item value may = inr (may_back ps qs item value may)

  -- the first workers take the first items, and the others the last
  pub take_front : (ps qs : List P) (xs ys : List I) → TakeAll takes (ps ++ qs) (xs ++ ys) → TakeAll takes ps xs
  take_front ps qs xs ys all = all_more _ _ ps (λ p each. all_front (takes p) xs ys each) (all_front _ ps qs all)

  pub take_back : (ps qs : List P) (xs ys : List I) → TakeAll takes (ps ++ qs) (xs ++ ys) → TakeAll takes qs ys
  take_back ps qs xs ys all = all_more _ _ qs (λ p each. all_back (takes p) xs ys each) (all_back _ ps qs all)

  -- the values of both parts are those of the whole
  pub values_append : (ps qs : List P) (xs ys : List I) (vs ws : List O) → AreValues gives ps xs vs → AreValues gives qs ys ws
      → AreValues gives (ps ++ qs) (xs ++ ys) (vs ++ ws)
  values_append ps qs xs ys vs ws front back =
      zip_append _ xs vs ys ws (zip_more _ _ xs vs (may_front ps qs) front) (zip_more _ _ ys ws (may_back ps qs) back)

  -- one worker is as before, after two items one after the other
  pub still_as_before : (one two three : P) → IsAsBefore takes gives one two → IsAsBefore takes gives two three → IsAsBefore takes gives one three
  still_as_before one two three first then_ = record {
    takes_still = λ item taken. then_.takes_still item (first.takes_still item taken);
    gives_only = λ item value given. first.gives_only item value (then_.gives_only item value given);
  }

  -- what the one worker gives
  pub may_alone : (ps : List P) (d : P) → length ps ≡ 1 → (item : I) (value : O) → gives (get_or ps 0 d) item value → MayGive gives ps item value
  may_alone [] d one item value given = let no : ⊥ = omega (arith, one) in absurd no
  may_alone (q ∷ qs) d one item value given = inl given

  pub list_alone : (ps : List P) (d : P) (items : List I) (values : List O) → length ps ≡ 1 → AllZip (gives (get_or ps 0 d)) items values
      → AreValues gives ps items values
  list_alone ps d items values one given = zip_more _ _ items values (may_alone ps d one) given

  -- the whole is its two parts, before and after
  pub as_before_whole : (old front back front_new back_new : List P) → old ≡ front ++ back → AllZip (IsAsBefore takes gives) front front_new
      → AllZip (IsAsBefore takes gives) back back_new → AllZip (IsAsBefore takes gives) old (front_new ++ back_new)
  as_before_whole old front back front_new back_new whole first last =
      subst (λ l. AllZip (IsAsBefore takes gives) l (front_new ++ back_new)) (sym whole) (zip_append _ front front_new back back_new first last)

  pub list_whole : (ps front back : List P) (items xs ys : List I) (vs ws : List O) → ps ≡ front ++ back → items ≡ xs ++ ys
      → AreValues gives front xs vs → AreValues gives back ys ws → AreValues gives ps items (vs ++ ws)
  list_whole ps front back items xs ys vs ws pieces cut first last =
      subst (λ l. AreValues gives l items (vs ++ ws)) (sym pieces)
      (subst (λ l. AreValues gives (front ++ back) l (vs ++ ws)) (sym cut) (values_append front back xs ys vs ws first last))

  pub may_compute : (ps : List P) (f : I → O) → Compute gives ps f → (item : I) (value : O) → MayGive gives ps item value → value ≡ f item
  may_compute [] f all item value may = absurd may
  may_compute (p ∷ ps) f all item value (inl given) = all.0 item value given
  may_compute (p ∷ ps) f all item value (inr may) = may_compute ps f all.1 item value may

  pub zip_computed : (f : I → O) (items : List I) (values : List O) → AllZip (λ item value. value ≡ f item) items values → values ≡ map f items
  zip_computed f [] [] all = refl
  zip_computed f [] (y ∷ ys) all = absurd all
  zip_computed f (x ∷ xs) [] all = absurd all
  zip_computed f (x ∷ xs) (y ∷ ys) all = ap₂ ◌∷◌ all.0 (zip_computed f xs ys all.1)

  pub list_computed : (ps : List P) (f : I → O) (items : List I) (values : List O) → Compute gives ps f → AreValues gives ps items values
      → values ≡ map f items
  list_computed ps f items values all given = zip_computed f items values (zip_more _ _ items values (may_compute ps f all) given)
