-- Parts of the items, what was made of them, and values that are added after others
use Rattle.parallel_value.proofs.Names.{◌≡◌, ◌++◌, ◌∷◌, ◌+◌, ◌<◌, ◌≤◌, List, [], ℕ, zero, suc, min, inl, ap, refl, sym, ◌∙◌, subst, take, drop, set, length, get_or, Result, Ok, Err, IfOk, OnOk, IfSome, Option, Some, None, Bor, Vec, Global, append-nil, arith, append_assoc, length-take, take_min, AllByRecursion, AllZip, IsAmong, AddsBehind, AreBoth, AreValues, IsAsBefore, MayGive, StandBehind, TakeAll, AreMadeParts, IsMadePart, IsOneOf}
use Rattle.std.proofs.lemmas.List.Elements.{All-from_recursion}
use Rattle.std.proofs.Math.Seq.{take-add}
use Rattle.memory_requests.specs.declared.evidence.NoMemory.{NoMemory}
use Rattle.parallel_value.specs.declared.sharing.Made.{Made}
use Rattle.parallel_value.proofs.PieceSteps.{all_front, all_more, as_before_whole, may_alone, may_back, may_front, still_as_before, values_next, zip_append, zip_more}

all_drop : {X : Type 0} (P : X → Type 0) (n : ℕ) (xs : List X) → AllByRecursion P xs → AllByRecursion P (drop n xs)
all_drop P zero xs all = all
all_drop P (suc n) [] all = all
all_drop P (suc n) (x ∷ xs) all = all_drop P n xs all.1

all_take : {X : Type 0} (P : X → Type 0) (n : ℕ) (xs : List X) → AllByRecursion P xs → AllByRecursion P (take n xs)
all_take P zero xs all = tt
all_take P (suc n) [] all = tt
all_take P (suc n) (x ∷ xs) all = (all.0, all_take P n xs all.1)

pub all_part : {X : Type 0} (P : X → Type 0) (size first : ℕ) (xs : List X) → AllByRecursion P xs → AllByRecursion P (take size (drop first xs))
all_part P size first xs all = all_take P size (drop first xs) (all_drop P first xs all)

all_append : {X : Type 0} (P : X → Type 0) (xs ys : List X) → AllByRecursion P xs → AllByRecursion P ys → AllByRecursion P (xs ++ ys)
all_append P [] ys front back = back
all_append P (x ∷ xs) ys front back = (front.0, all_append P xs ys front.1 back)

pub all_push : {X : Type 0} (P : X → Type 0) (xs ys : List X) (x : X) → AllByRecursion P xs → P x → ys ≡ xs ++ x ∷ [] → AllByRecursion P ys
all_push P xs ys x all last longer = subst (AllByRecursion P) (sym longer) (all_append P xs (x ∷ []) all (last, tt))

all_among : {X : Type 0} (P : X → Type 0) (xs : List X) (x : X) → IsAmong xs x → AllByRecursion P xs → P x
all_among P xs x among all = subst P (sym among.1.1) (All-from_recursion P xs all among.0 x among.1.0)

-- the first items, and the part after them
take_part : {X : Type 0} (xs part : List X) (size first : ℕ) → part ≡ take size (drop first xs) → take (first + length part) xs ≡ take first xs ++ part
take_part xs part size first is =
    let rest = drop first xs in
    let long : length part ≡ min size (length rest) = ap (λ l. length l) is ∙ length-take size rest in
    take-add first (length part) xs
    ∙ ap (λ l. take first xs ++ l) (ap (λ n. take n rest) long ∙ take_min size rest ∙ sym is)

-- what stands after what stands after the first
pub stand_more : {O : Type 0} (old ys zs : List O) → StandBehind old ys → StandBehind ys zs → StandBehind old zs
stand_more old ys zs first last = (
  first.0 ++ last.0,
  last.1 ∙ ap (λ l. l ++ last.0) first.1 ∙ append_assoc old first.0 last.0,
)

module _ {I O : Type 0} (Gives : I → O → Type 0) where
  pub adds_none : (items : List I) (old : List O) → AddsBehind (AllZip Gives (take 0 items)) old old
  adds_none items old = ([], sym (append-nil old), tt)

  -- one more value
  pub adds_next : (items : List I) (i : ℕ) (x : I) (old ys zs : List O) (y : O) → i < length items → x ≡ get_or items i x
      → AddsBehind (AllZip Gives (take i items)) old ys → zs ≡ ys ++ y ∷ [] → Gives x y → AddsBehind (AllZip Gives (take (i + 1) items)) old zs
  adds_next items i x old ys zs y within here adds longer given = (
    adds.0 ++ y ∷ [],
    longer ∙ ap (λ l. l ++ y ∷ []) adds.1 ∙ append_assoc old adds.0 (y ∷ []),
    values_next Gives items i x adds.0 (adds.0 ++ y ∷ []) y within here adds.2 refl given,
  )

  -- the values of one part more
  pub adds_part : (items part : List I) (size first : ℕ) (old ys zs : List O) → part ≡ take size (drop first items)
      → AddsBehind (AllZip Gives (take first items)) old ys → AddsBehind (AllZip Gives part) ys zs
      → AddsBehind (AllZip Gives (take (first + length part) items)) old zs
  adds_part items part size first old ys zs is adds more = (
    adds.0 ++ more.0,
    more.1 ∙ ap (λ l. l ++ more.0) adds.1 ∙ append_assoc old adds.0 more.0,
    subst (λ l. AllZip Gives l (adds.0 ++ more.0)) (sym (take_part items part size first is))
        (zip_append Gives (take first items) adds.0 part more.0 adds.2 more.2),
  )

-- values that fewer workers may give, as those of more
pub adds_more : {I O U : Type 0} (G H : I → O → Type 0) (items : List I) (old ys : List O) (result : Result U NoMemory)
    → ((item : I) (value : O) → G item value → H item value) → OnOk result (AddsBehind (AllZip G items) old ys)
    → OnOk result (AddsBehind (AllZip H items) old ys)
adds_more G H items old ys (Ok u) more adds = (adds.0, adds.1, zip_more G H items adds.0 more adds.2)
adds_more G H items old ys (Err fault) more adds = tt

module _ {P I O : Type 0} (takes : P → I → Type 0) (gives : P → I → O → Type 0) where
  -- what was made with fewer workers
  made_more : (G H : I → O → Type 0) (size : ℕ) (items : List I) (all : List (Made O)) → ((item : I) (value : O) → G item value → H item value)
      → AllByRecursion (IsMadePart G size items) all → AllByRecursion (IsMadePart H size items) all
  made_more G H size items all more made = all_more _ _ all (λ m is. (is.0, zip_more G H _ _ more is.1)) made

  pub made_before : (one two : P) (size : ℕ) (items : List I) (m : Made O) → IsAsBefore takes gives one two → IsMadePart (gives two) size items m
      → IsMadePart (gives one) size items m
  made_before one two size items m before is = (is.0, zip_more (gives two) (gives one) _ _ (λ item value given. before.gives_only item value given) is.1)

  pub made_alone : (ps : List P) (d : P) (size : ℕ) (items : List I) (result : Result (Vec (Made O) Global) NoMemory) → length ps ≡ 1
      → IfOk result (λ made. AllByRecursion (IsMadePart (gives (get_or ps 0 d)) size items) made.items)
      → IfOk result (λ made. AreMadeParts gives ps size items made.items)
  made_alone ps d size items (Ok made) one is = made_more _ _ size items made.items (may_alone takes gives ps d one) is
  made_alone ps d size items (Err fault) one is = tt

  made_append : (ps qs : List P) (size : ℕ) (items : List I) (front back : List (Made O)) → AreMadeParts gives ps size items front
      → AreMadeParts gives qs size items back → AreMadeParts gives (ps ++ qs) size items (front ++ back)
  made_append ps qs size items front back first last =
      all_append _ front back (made_more _ _ size items front (may_front takes gives ps qs) first) (made_more _ _ size items back (may_back takes gives ps qs) last)

  pub made_of_both : (ps qs : List P) (size : ℕ) (items : List I) (left right result : Result (Vec (Made O) Global) NoMemory)
      → IfOk left (λ one. AreMadeParts gives ps size items one.items) → IfOk right (λ other. AreMadeParts gives qs size items other.items)
      → IfOk result (λ made. AreBoth left right made.items) → IfOk result (λ made. AreMadeParts gives (ps ++ qs) size items made.items)
  made_of_both ps qs size items (Ok one) (Ok other) (Ok made) first last both =
      subst (λ l. AreMadeParts gives (ps ++ qs) size items l) (sym both) (made_append ps qs size items one.items other.items first last)
  made_of_both ps qs size items (Ok one) (Err fault) (Ok made) first last both = absurd both
  made_of_both ps qs size items (Err fault) right (Ok made) first last both = absurd both
  made_of_both ps qs size items left right (Err fault) first last both = tt

  -- the first workers are at work, and the others stay as they are
  pub take_at_work : (ps front back : List P) (items : List I) → ps ≡ front ++ back → TakeAll takes ps items → TakeAll takes front items
  take_at_work ps front back items whole all = all_front _ front back (subst (λ l. TakeAll takes l items) whole all)

  all_still : (ps : List P) → AllZip (IsAsBefore takes gives) ps ps
  all_still [] = tt
  all_still (p ∷ ps) = (record { takes_still = λ item took. took; gives_only = λ item value given. given }, all_still ps)

  pub others_still : (ps front back new : List P) → ps ≡ front ++ back → AllZip (IsAsBefore takes gives) front new → AllZip (IsAsBefore takes gives) ps (new ++ back)
  others_still ps front back new whole first = as_before_whole takes gives ps front back new back whole first (all_still back)

  pub may_at_work : (ps front back : List P) → ps ≡ front ++ back → (item : I) (value : O) → MayGive gives front item value → MayGive gives ps item value
  may_at_work ps front back whole item value may = subst (λ l. MayGive gives l item value) (sym whole) (may_front takes gives front back item value may)

  pub one_alone : (ps : List P) (d : P) → length ps ≡ 1 → IsOneOf gives ps (get_or ps 0 d)
  one_alone ps d one = may_alone takes gives ps d one

  -- the workers after the part that was made
  pub first_takes : (old new : List P) (items : List I) (d : P) → AllZip (IsAsBefore takes gives) old new → 1 ≤ length old → TakeAll takes old items
      → AllByRecursion (takes (get_or new 0 d)) items
  first_takes [] new items d before some all = absurd (omega (arith, some))
  first_takes (p ∷ ps) [] items d before some all = absurd before
  first_takes (p ∷ ps) (q ∷ qs) items d before some all = all_more _ _ items (λ item took. before.0.takes_still item took) all.0

  pub first_before : (old new : List P) (d after : P) → AllZip (IsAsBefore takes gives) old new → 1 ≤ length old
      → IsAsBefore takes gives (get_or new 0 d) after → AllZip (IsAsBefore takes gives) old (set new 0 after)
  first_before [] new d after before some last = absurd (omega (arith, some))
  first_before (p ∷ ps) [] d after before some last = absurd before
  first_before (p ∷ ps) (q ∷ qs) d after before some last = (still_as_before takes gives p q after before.0 last, before.1)

  -- a part that was found
  pub found_made : (ps : List P) (size : ℕ) (items : List I) (all : List (Made O)) (m : Made O) (first : ℕ) → AreMadeParts gives ps size items all
      → IsAmong all m → m.first ≡ first → AllZip (MayGive gives ps) (take size (drop first items)) m.values.items
  found_made ps size items all m first made among is =
      subst (λ n. AllZip (MayGive gives ps) (take size (drop n items)) m.values.items) is (all_among _ all m among made).1

  pub found_part : (ps : List P) (size : ℕ) (items part : List I) (all : List (Made O)) (first : ℕ) (found : Option (Bor (Made O)))
      → AreMadeParts gives ps size items all → part ≡ take size (drop first items) → IfSome found (λ one. IsAmong all one.now × (one.now.first ≡ first))
      → IfSome found (λ one. AreValues gives ps part one.now.values.items)
  found_part ps size items part all first (Some one) made is there =
      subst (λ l. AreValues gives ps l one.now.values.items) (sym is) (found_made ps size items all one.now first made there.0 there.1)
  found_part ps size items part all first None made is there = tt

  -- the first worker, after the parts were made, gives only what one of them gave
  pub one_of_old : (old new : List P) (d : P) → AllZip (IsAsBefore takes gives) old new → 1 ≤ length old → IsOneOf gives old (get_or new 0 d)
  one_of_old [] new d before some = λ item value given. absurd (omega (arith, some))
  one_of_old (p ∷ ps) [] d before some = absurd before
  one_of_old (p ∷ ps) (q ∷ qs) d before some = λ item value given. inl (before.0.gives_only item value given)
