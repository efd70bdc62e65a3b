-- Bytes that change no search, where the searches start, and what they found at the end.
use Rattle.xtbml_subset.proofs.Names.{◌≡◌, ℕ, ◌+◌, ◌-◌, ◌<◌, ◌≤◌, Bool, true, false, cond, eqb, List, [], length, Option, Some, None, refl, sym, ap, subst, ◌∙◌, arith, codes, ne_eqb, MatchBool, Found, elements_at, children_at, Passing, Sought, seeking, hit, missed, sought_at, opens, sought_under, tallied, tally_under, no_tally, ElementPath, no_path, path_after, Stands, StandsUnder, TalliesUnder, IsPath, IsFirstIn, IsFirstUnder, IsCountUnder, IsFound}
use Rattle.xtbml_subset.specs.declared.search.Passed.{Passed}

-- ---- bytes that are passed over

abbrev pub SameElements : List ℕ → List ℕ → Type 0
SameElements rest bytes = (depth : ℕ) (wanted : Option (List ℕ)) → elements_at depth wanted rest ≡ elements_at depth wanted bytes

stands_run : (level depth : ℕ) (wanted : Option (List ℕ)) (from rest : List ℕ) (elements : List Found) (s : Sought) → SameElements rest from → Stands level wanted depth from elements s
    → Stands level wanted depth rest elements s
stands_run level depth wanted from rest elements seeking same stands = (stands.0, stands.1 ∙ sym (same (depth - level) wanted))
stands_run level depth wanted from rest elements (hit f) same stands = stands
stands_run level depth wanted from rest elements missed same stands = stands

abbrev Runs : Bool → ℕ → List ℕ → ℕ → List ℕ → Found → Sought → Type 0
Runs b level name depth rest f s = MatchBool b (Stands level (Some name) depth rest (children_at name f) s) (s ≡ seeking)

under_run : (level depth : ℕ) (name from rest : List ℕ) (above s : Sought) → SameElements rest from → StandsUnder level name depth from above s → StandsUnder level name depth rest above s
under_run level depth name from rest seeking s same under = under
under_run level depth name from rest missed s same under = under
under_run level depth name from rest (hit f) s same under = inside f.is_open under
  where
    inside : (b : Bool) → Runs b level name depth from f s → Runs b level name depth rest f s
    inside true stands = stands_run level depth (Some name) from rest (children_at name f) s same stands
    inside false none = none

tally_run : (level depth : ℕ) (name from rest : List ℕ) (above : Sought) (t : Passed) → SameElements rest from → TalliesUnder level name depth from above t → TalliesUnder level name depth rest above t
tally_run level depth name from rest seeking t same under = under
tally_run level depth name from rest missed t same under = under
tally_run level depth name from rest (hit f) t same under = inside f.is_open t.is_over under
  where
    inside : (b over : Bool)
        → MatchBool b (MatchBool over (length (children_at name f) ≡ t.count) ((level ≤ depth) × (length (children_at name f) ≡ t.count + length (elements_at (depth - level) (Some name) from)))) (t ≡ no_tally)
        → MatchBool b (MatchBool over (length (children_at name f) ≡ t.count) ((level ≤ depth) × (length (children_at name f) ≡ t.count + length (elements_at (depth - level) (Some name) rest)))) (t ≡ no_tally)
    inside true true tallies = tallies
    inside true false tallies = (tallies.0, tallies.1 ∙ ap (λ (fs : List Found). t.count + length fs) (sym (same (depth - level) (Some name))))
    inside false over none = none

pub path_run : (bytes : List ℕ) (depth : ℕ) (from rest : List ℕ) (path : ElementPath) → SameElements rest from → IsPath bytes depth from path → IsPath bytes depth rest path
path_run bytes depth from rest path same is = record {
  root = stands_run 0 depth None from rest (elements_at 0 None bytes) path.root same is.root;
  table = under_run 1 depth (codes "Table") from rest path.root path.table same is.table;
  about = under_run 2 depth (codes "MetaData") from rest path.table path.about same is.about;
  values = under_run 2 depth (codes "Values") from rest path.table path.values same is.values;
  axis = under_run 3 depth (codes "Axis") from rest path.values path.axis same is.axis;
  inner = under_run 4 depth (codes "Axis") from rest path.axis path.inner same is.inner;
  first = under_run 4 depth (codes "Y") from rest path.axis path.first same is.first;
  tally = tally_run 4 depth (codes "Y") from rest path.axis path.tally same is.tally;
}

-- ---- the start

pub path_start : (bytes rest : List ℕ) → elements_at 0 None bytes ≡ elements_at 0 None rest → IsPath bytes 0 rest no_path
path_start bytes rest e = record { root = (omega arith, e); table = refl; about = refl; values = refl; axis = refl; inner = refl; first = refl; tally = refl }

-- ---- the end

ends_in : (level : ℕ) (name : List ℕ) (f : Found) (s : Sought) → 1 ≤ level → Stands level (Some name) 0 [] (children_at name f) s → IsFirstIn name f s
ends_in level name f seeking low stands = absurd (let le : level ≤ 0 = stands.0 in omega arith)
ends_in level name f (hit g) low stands = stands
ends_in level name f missed low stands = stands

ends_under : (level : ℕ) (name : List ℕ) (f : Found) (s : Sought) → 1 ≤ level → StandsUnder level name 0 [] (hit f) s → IsFirstIn name f s
ends_under level name f s low under = inside f.is_open refl under
  where
    nothing_in : (s : Sought) → s ≡ seeking → children_at name f ≡ [] → IsFirstIn name f s
    nothing_in s e none = subst (IsFirstIn name f) (sym e) none

    inside : (b : Bool) → f.is_open ≡ b → MatchBool b (Stands level (Some name) 0 [] (children_at name f) s) (s ≡ seeking) → IsFirstIn name f s
    inside true e stands = ends_in level name f s low stands
    inside false e none = nothing_in s none (rw e refl)

ends_any : (level : ℕ) (name : List ℕ) (above s : Sought) → 1 ≤ level → StandsUnder level name 0 [] above s → IsFirstUnder name above s
ends_any level name seeking s low under = tt
ends_any level name missed s low under = tt
ends_any level name (hit f) s low under = ends_under level name f s low under

counts_any : (level : ℕ) (name : List ℕ) (above : Sought) (t : Passed) → 1 ≤ level → TalliesUnder level name 0 [] above t → IsCountUnder name above t
counts_any level name seeking t low under = tt
counts_any level name missed t low under = tt
counts_any level name (hit f) t low under = inside f.is_open t.is_over refl under
  where
    inside : (b over : Bool) → f.is_open ≡ b
        → MatchBool b (MatchBool over (length (children_at name f) ≡ t.count) ((level ≤ 0) × (length (children_at name f) ≡ t.count + length (elements_at (0 - level) (Some name) [])))) (t ≡ no_tally)
        → length (children_at name f) ≡ t.count
    inside true true e tallies = tallies
    inside true false e tallies = absurd (let le : level ≤ 0 = tallies.0 in omega arith)
    inside false over e none =
        let empty : children_at name f ≡ [] = rw e refl in
        ap (λ (fs : List Found). length fs) empty ∙ ap (λ (u : Passed). u.count) (sym none)

pub path_found : (bytes : List ℕ) (path : ElementPath) (root : Found) → path.root ≡ hit root → IsPath bytes 0 [] path → IsFound root path
path_found bytes path root e is =
    let table : StandsUnder 1 (codes "Table") 0 [] (hit root) path.table = subst (λ above. StandsUnder 1 (codes "Table") 0 [] above path.table) e is.table in
    record {
      table = ends_under 1 (codes "Table") root path.table (omega arith) table;
      about = ends_any 2 (codes "MetaData") path.table path.about (omega arith) is.about;
      values = ends_any 2 (codes "Values") path.table path.values (omega arith) is.values;
      axis = ends_any 3 (codes "Axis") path.values path.axis (omega arith) is.axis;
      inner = ends_any 4 (codes "Axis") path.axis path.inner (omega arith) is.inner;
      first = ends_any 4 (codes "Y") path.axis path.first (omega arith) is.first;
      tally = counts_any 4 (codes "Y") path.axis path.tally (omega arith) is.tally;
    }

-- ---- deep pieces

kept_at : (level : ℕ) (wanted : Option (List ℕ)) (p : Passing) (s : Sought) → level ≤ 4 → 4 < p.depth → s ≡ sought_at level wanted p s
kept_at level wanted p (hit f) low deep = refl
kept_at level wanted p missed low deep = refl
kept_at level wanted p seeking low deep =
    let apart : eqb p.depth level ≡ false = ne_eqb p.depth level (λ e. absurd (omega arith)) in
    rw apart refl

kept_under : (level : ℕ) (name : List ℕ) (p : Passing) (above s : Sought) → level ≤ 4 → 4 < p.depth → s ≡ sought_under level name p above s
kept_under level name p above s low deep = by_gate (opens above)
  where
    by_gate : (b : Bool) → s ≡ cond b (sought_at level (Some name) p s) s
    by_gate true = kept_at level (Some name) p s low deep
    by_gate false = refl

abbrev path_with : Sought → Sought → Sought → Sought → Sought → Sought → Sought → Passed → ElementPath
path_with root table about values axis inner first tally =
    record { root = root; table = table; about = about; values = values; axis = axis; inner = inner; first = first; tally = tally }

kept_tally : (level : ℕ) (name : List ℕ) (p : Passing) (above : Sought) (t : Passed) → level ≤ 4 → 4 < p.depth → t ≡ tally_under level name p above t
kept_tally level name p above t low deep = by_gate (opens above) t.is_over (sought_at level (Some name) p seeking) (kept_at level (Some name) p seeking low deep)
  where
    by_gate : (b over : Bool) (s : Sought) → seeking ≡ s → t ≡ cond b (cond over t (tallied t s)) t
    by_gate true true s e = refl
    by_gate true false s e = ap (tallied t) e
    by_gate false over s e = refl

pub path_kept : (p : Passing) (path : ElementPath) → 4 < p.depth → path ≡ path_after p path
path_kept p path deep =
    let root = kept_at 0 None p path.root (omega arith) deep in
    let table = kept_under 1 (codes "Table") p path.root path.table (omega arith) deep in
    let about = kept_under 2 (codes "MetaData") p path.table path.about (omega arith) deep in
    let values = kept_under 2 (codes "Values") p path.table path.values (omega arith) deep in
    let axis = kept_under 3 (codes "Axis") p path.values path.axis (omega arith) deep in
    let inner = kept_under 4 (codes "Axis") p path.axis path.inner (omega arith) deep in
    let first = kept_under 4 (codes "Y") p path.axis path.first (omega arith) deep in
    let tally = kept_tally 4 (codes "Y") p path.axis path.tally (omega arith) deep in
    let next = path_after p path in
    let all : path_with path.root path.table path.about path.values path.axis path.inner path.first path.tally
    ≡ path_with next.root next.table next.about next.values next.axis next.inner next.first next.tally = cc in
    all
