-- What the searches found is what the checks ask for.
use Rattle.xtbml_subset.proofs.Names.{◌≡◌, ℕ, ◌-◌, List, [], ◌∷◌, length, Ok, Err, sym, ap, subst, ◌∙◌, ◌⊎◌, inl, inr, NoTable, Bad, Element, first, ok_or, within, Found, children_at, siblings_at, row_of, found_asks, IsFirstIn, found_of, sought_of}
use Rattle.xtbml_subset.specs.declared.search.Search.{Search}
use Rattle.xtbml_subset.specs.declared.search.Search.TheVariants.{Seeking, Hit, Missed}

-- one that was found is the first child
pub hit_first : (name : List ℕ) (parent : Found) (search : Search) (e : Element) → search ≡ Hit e → IsFirstIn name parent (sought_of search)
    → children_at name parent ≡ found_of e ∷ siblings_at name (found_of e)
hit_first name parent search e is first_is = subst (λ s. IsFirstIn name parent (sought_of s)) is first_is

-- if none was found there is none
pub none_first : (name : List ℕ) (parent : Found) (search : Search) → (search ≡ Seeking) ⊎ (search ≡ Missed) → IsFirstIn name parent (sought_of search) → children_at name parent ≡ []
none_first name parent search (inl e) first_is = subst (λ s. IsFirstIn name parent (sought_of s)) e first_is
none_first name parent search (inr e) first_is = subst (λ s. IsFirstIn name parent (sought_of s)) e first_is

pub within_hit : (total : ℕ) (name : List ℕ) (parent : Found) (search : Search) (e : Element) → search ≡ Hit e → IsFirstIn name parent (sought_of search)
    → Ok (found_of e) ≡ within (found_asks total) name parent
unfolding within
within_hit total name parent search e is first_is =
    sym (ap (λ (fs : List Found). ok_or (first fs) (Bad (row_of total parent).at NoTable)) (hit_first name parent search e is first_is))

pub within_none : (total : ℕ) (name : List ℕ) (parent : Found) (search : Search) (at : ℕ) → (search ≡ Seeking) ⊎ (search ≡ Missed) → IsFirstIn name parent (sought_of search)
    → at ≡ total - length parent.from → Err (Bad at NoTable) ≡ within (found_asks total) name parent
unfolding within
within_none total name parent search at other first_is place =
    ap (λ (n : ℕ). Err (Bad n NoTable)) place
    ∙ sym (ap (λ (fs : List Found). ok_or (first fs) (Bad (row_of total parent).at NoTable)) (none_first name parent search other first_is))
