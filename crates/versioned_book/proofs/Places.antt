-- The entry of a key in a map of chains, before and after a write to its chain.
use Rattle.versioned_book.proofs.Names.{◌≡◌, ℕ, zero, suc, ◌<◌, true, nat_eq, List, [], ◌∷◌, map, slice_get, get_or, length, None, Some, IfSome, is_some, Result, Ok, Err, OnOk, sym, ap, ◌∙◌, subst, arith, eqb-true, length-map, get_or_from_slice_get, IndexMap, get, index_of, keys, values, with_value_at, IsUnique, Updates, Chain}
use Rattle.std.proofs.lemmas.List.Quantifiers.{position-Some}
use Rattle.std.specs.Cmp.{nat_eq_equiv}
use Rattle.indexmap.proofs.CallerLemmas.{keys-with_value_at, updates-with_value_at}
use Rattle.indexmap.proofs.MapLemmas.{some_index, value_index}
use Rattle.versioned_book.proofs.Apart.{key_there}
use Rattle.versioned_book.proofs.Looking.{none_of}
use Rattle.versioned_book.proofs.VersionSteps.{some_same}

pub on_ok : {A E : Type 0} {P Q : Type 0} (r : Result A E) → (P → Q) → OnOk r P → OnOk r Q
on_ok (Ok x) f h = f h
on_ok (Err e) f h = tt

value_at_place : {X : Type 0} (es : List (ℕ × X)) (i k : ℕ) (c : X) → slice_get es i ≡ Some (k, c) → slice_get (map (λ e. e.1) es) i ≡ Some c
value_at_place [] i k c h = cc
value_at_place (e ∷ es) zero k c h = ap (λ x. Some x.1) (some_same e (k, c) h)
value_at_place (e ∷ es) (suc i) k c h = value_at_place es i k c h

module _ {V S : Type 0} (m : IndexMap ℕ (Chain V) S) (key : ℕ) where
  -- no key stands there
  pub none_at : index_of nat_eq m key ≡ None → get nat_eq m key ≡ None
  none_at index = none_of (get nat_eq m key) (sym (ap is_some index) ∙ some_index (nat_eq key) m.entries)

  module _ (i : ℕ) (index : index_of nat_eq m key ≡ Some i) where
    pub value_at_index : slice_get (values m) i ≡ get nat_eq m key
    value_at_index = subst (λ r. IfSome r (λ j. slice_get (values m) j ≡ get nat_eq m key)) index (value_index (nat_eq key) m.entries)

    pub within_at : i < length m.entries
    within_at = omega (arith, (position-Some (nat_eq key) (keys m) i 0 index).0, length-map m.entries (λ (e : ℕ × Chain V). e.0))

    -- the chain there is the key's
    pub found_at : (k : ℕ) (chain : Chain V) → slice_get m.entries i ≡ Some (k, chain) → get nat_eq m key ≡ Some chain
    found_at k chain entry = sym value_at_index ∙ value_at_place m.entries i k chain entry

module _ {V S : Type 0} where
  -- the chain at the key is written at its place
  pub record Placed (m : IndexMap ℕ (Chain V) S) (key i : ℕ) (chain w : Chain V) : Type 0 where
    pub entry : slice_get m.entries i ≡ Some (key, chain)
    pub found : get nat_eq m key ≡ Some chain
    pub updates : Updates nat_eq m (with_value_at m i w) key (Some w)
    pub same : keys (with_value_at m i w) ≡ keys m

  pub placed : (m : IndexMap ℕ (Chain V) S) (key i k : ℕ) (chain w : Chain V) → index_of nat_eq m key ≡ Some i → slice_get m.entries i ≡ Some (k, chain)
      → IsUnique nat_eq m → Placed m key i chain w
  placed m key i k chain w index entry unique =
      let here : get_or (keys m) i k ≡ k = get_or_from_slice_get (keys m) i k k (key_there m.entries i k chain entry) in
      let test : nat_eq key (get_or (keys m) i k) ≡ true = (position-Some (nat_eq key) (keys m) i k index).1 in
      let is : k ≡ key = sym here ∙ sym (eqb-true key (get_or (keys m) i k) test) in
      record {
        entry = entry ∙ ap (λ x. Some (x, chain)) is;
        found = found_at m key i index k chain entry;
        updates = subst (λ x. Updates nat_eq m (with_value_at m i w) x (Some w)) is (updates-with_value_at m i w nat_eq_equiv unique k chain entry);
        same = keys-with_value_at m i w;
      }
