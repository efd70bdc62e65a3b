-- What was written of a text in parts, after one part more
use Rattle.program_endings.proofs.Names.{◌≡◌, ℕ, suc, ◌+◌, ◌<◌, List, [], ◌∷◌, ◌++◌, Option, Some, None, Result, Ok, Err, OnErr, length, take, drop, get_or, flat_map, sym, ap, ◌∙◌, subst, append_assoc, append-nil, length-append, arith, Appends, AppendsPart}
use Rattle.std.proofs.lemmas.List.{take_more, take-append-drop, take-append-le}
use Rattle.std.proofs.lemmas.List.Concat.{flat_map-append}

pub appends_behind : (before mid after : Option (List ℕ)) (front more : List ℕ) → Appends before mid front → Appends mid after more
    → Appends before after (front ++ more)
appends_behind None mid after front more first then = tt
appends_behind (Some xs) None after front more first then = absurd first
appends_behind (Some xs) (Some ys) None front more first then = absurd then
appends_behind (Some xs) (Some ys) (Some zs) front more first then = then ∙ ap (λ w. w ++ more) first ∙ append_assoc xs front more

-- nothing was written yet
pub appends_none : (before : Option (List ℕ)) → Appends before before []
appends_none None = tt
appends_none (Some xs) = sym (append-nil xs)

-- the bytes of the parts before one, with its own
joined : (parts : List (List ℕ)) (i : ℕ) (d : List ℕ) → i < length parts
    → flat_map (λ (part : List ℕ). part) (take (i + 1) parts) ≡ flat_map (λ (part : List ℕ). part) (take i parts) ++ get_or parts i d
joined parts i d below =
    ap (flat_map (λ (part : List ℕ). part)) (take_more parts i d below)
    ∙ flat_map-append (λ (part : List ℕ). part) (take i parts) (get_or parts i d ∷ [])
    ∙ ap (λ (w : List ℕ). flat_map (λ (part : List ℕ). part) (take i parts) ++ w) (append-nil (get_or parts i d))

pub part_written : (before mid after : Option (List ℕ)) (parts : List (List ℕ)) (i : ℕ) (d : List ℕ) → i < length parts
    → Appends before mid (flat_map (λ (part : List ℕ). part) (take i parts)) → Appends mid after (get_or parts i d)
    → Appends before after (flat_map (λ (part : List ℕ). part) (take (i + 1) parts))
part_written before mid after parts i d below first then =
    subst (Appends before after) (sym (joined parts i d below)) (appends_behind before mid after _ _ first then)

-- a prefix of a part is a prefix of the whole
front_take : (front more : List ℕ) (n : ℕ) → take (length front + n) (front ++ more) ≡ front ++ take n more
front_take [] more n = let none : 0 + n ≡ n = omega arith in ap (λ k. take k more) none
front_take (x ∷ front) more n =
    let next : suc (length front) + n ≡ suc (length front + n) = omega arith in
    ap (λ k. take k (x ∷ (front ++ more))) next ∙ ap (λ w. x ∷ w) (front_take front more n)

front_of_whole : (front part rest : List ℕ) (taken : ℕ) → taken < length part → take (length front + taken) (front ++ (part ++ rest)) ≡ front ++ take taken part
front_of_whole front part rest taken within =
    front_take front (part ++ rest) taken ∙ ap (λ w. front ++ w) (take-append-le taken part rest (omega (arith, within)))

pub part_failed : (before mid after : Option (List ℕ)) (parts : List (List ℕ)) (i : ℕ) (d : List ℕ) → i < length parts
    → Appends before mid (flat_map (λ (part : List ℕ). part) (take i parts)) → AppendsPart mid after (get_or parts i d)
    → AppendsPart before after (flat_map (λ (part : List ℕ). part) parts)
part_failed before mid after parts i d below first then =
    let front = flat_map (λ (part : List ℕ). part) (take i parts) in
    let part = get_or parts i d in
    let rest = flat_map (λ (part : List ℕ). part) (drop (i + 1) parts) in
    let whole : flat_map (λ (part : List ℕ). part) parts ≡ front ++ (part ++ rest) =
    ap (flat_map (λ (part : List ℕ). part)) (sym (take-append-drop (i + 1) parts))
    ∙ flat_map-append (λ (part : List ℕ). part) (take (i + 1) parts) (drop (i + 1) parts)
    ∙ ap (λ (w : List ℕ). w ++ rest) (joined parts i d below)
    ∙ append_assoc front part rest in
    subst (AppendsPart before after) (sym whole) (record {
      taken = length front + then.taken;
      not_all = omega (arith, then.not_all, length-append front (part ++ rest), length-append part rest);
      written = subst (Appends before after) (sym (front_of_whole front part rest then.taken then.not_all))
          (appends_behind before mid after front (take then.taken part) first then.written);
    })

-- what is true in any case is true after a failure
pub on_err : {T E X : Type 0} (result : Result T E) → X → OnErr result X
on_err (Ok value) holds = tt
on_err (Err fault) holds = holds
