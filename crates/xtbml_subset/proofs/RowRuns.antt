-- Rows that are left to read.
use Rattle.xtbml_subset.proofs.Names.{◌≡◌, ℕ, List, [], ◌∷◌, map, Option, None, Some, ap, codes, MatchOption, Element, TableFault, Bad, NoMemory, Found, siblings_at, RateElement, row_of, rows_from, Unless, found_of}

abbrev pub rows_left : ℕ → Option Element → List RateElement
rows_left total None = []
rows_left total (Some element) = rows_from total (found_of element)

pub left_siblings : (total : ℕ) (next : Option Element) (found : List Found)
    → MatchOption next (found ≡ []) (λ e. found ≡ found_of e ∷ siblings_at (codes "Y") (found_of e)) → map (λ e. row_of total e) found ≡ rows_left total next
left_siblings total None found h = ap (λ (es : List Found). map (λ e. row_of total e) es) h
left_siblings total (Some e) found h = ap (λ (es : List Found). map (λ x. row_of total x) es) h

pub unless_from : (fault : TableFault) (P : Type 0) → P → Unless fault P
unless_from (Bad at kind) P h = h
unless_from (NoMemory lack) P h = tt
