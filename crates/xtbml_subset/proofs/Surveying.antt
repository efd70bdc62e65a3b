-- The searches go on rightly as the pieces pass.
use Rattle.xtbml_subset.proofs.Names.{◌≡◌, ℕ, zero, suc, ◌+◌, ◌-◌, ◌≤◌, Bool, true, false, cond, eqb, ltb, List, [], ◌∷◌, length, Option, Some, None, refl, sym, ap, subst, ◌∙◌, ◌⊎◌, inl, inr, arith, codes, eqb-true, eq-eqb, ne_eqb, cases_Bool, and_left, true≢false, bytes_eq, MatchBool, White, Phase, Opening, Prolog, Epilog, is_in, Tag, Piece, byte, comment, declaration, start, whole, finish, State, outside, past, after_names, after_piece, piece_at, depth_in, Found, on, found, closed, is_wanted, is_hit, step_of, elements_at, children_at, Passing, Sought, seeking, hit, missed, by_step, sought_at, opens, sought_under, tallied, tally_at, tally_under, no_tally, ElementPath, path_after, Stands, StandsUnder, Tallies, TalliesUnder, IsPath}
use Rattle.xtbml_subset.specs.declared.search.Passed.{Passed}
use Rattle.xtbml_subset.proofs.Options.{chosen}
use Rattle.xtbml_subset.proofs.Searching.{elements_by}

-- ---- how many elements are open after a piece

abbrev Moves : Piece → ℕ → ℕ → Type 0
Moves (byte b) depth next = next ≡ depth
Moves comment depth next = next ≡ depth
Moves declaration depth next = next ≡ depth
Moves (start tag) depth next = next ≡ suc depth
Moves (whole tag) depth next = next ≡ depth
Moves (finish name) depth next = depth ≡ suc next

abbrev some : State → Option State
some state = Some state

same : (x y : State) → some x ≡ some y → x ≡ y
same x y e = cc

counts : (x : State) (next : State) (n : ℕ) → length x.names ≡ n → some x ≡ some next → length next.names ≡ n
counts x next n len e = ap (λ (s : State). length s.names) (sym (same x next e)) ∙ len

never : (next : State) (P : Type 0) → None ≡ some next → P
never next P e = absurd cc

moves_outside : (phase : Phase) (piece : Piece) (next : State) → after_names phase [] piece ≡ Some next → Moves piece 0 (length next.names)
moves_outside phase (byte b) next e =
    elim (chosen (is_in White b) (Some (outside phase)) None (Some next) e) [
      | inl h ↦ counts (outside phase) next 0 refl h.1
      | inr h ↦ never next (length next.names ≡ 0) h.1
    ]
moves_outside phase comment next e = counts (outside (past phase)) next 0 refl e
moves_outside Opening declaration next e = counts (outside Prolog) next 0 refl e
moves_outside Prolog declaration next e = never next (length next.names ≡ 0) e
moves_outside Epilog declaration next e = never next (length next.names ≡ 0) e
moves_outside Opening (start tag) next e = counts (record { phase = Epilog; names = tag.name ∷ [] }) next 1 refl e
moves_outside Prolog (start tag) next e = counts (record { phase = Epilog; names = tag.name ∷ [] }) next 1 refl e
moves_outside Epilog (start tag) next e = never next (length next.names ≡ 1) e
moves_outside Opening (whole tag) next e = counts (outside Epilog) next 0 refl e
moves_outside Prolog (whole tag) next e = counts (outside Epilog) next 0 refl e
moves_outside Epilog (whole tag) next e = never next (length next.names ≡ 0) e
moves_outside phase (finish name) next e = never next (0 ≡ suc (length next.names)) e

moves_inside : (phase : Phase) (name : List ℕ) (names : List (List ℕ)) (piece : Piece) (next : State) → after_names phase (name ∷ names) piece ≡ Some next
    → Moves piece (length (name ∷ names)) (length next.names)
moves_inside phase name names (byte b) next e = counts (record { phase = phase; names = name ∷ names }) next (length (name ∷ names)) refl e
moves_inside phase name names comment next e = counts (record { phase = phase; names = name ∷ names }) next (length (name ∷ names)) refl e
moves_inside phase name names declaration next e = never next (length next.names ≡ length (name ∷ names)) e
moves_inside phase name names (start tag) next e =
    elim (chosen (ltb (length (name ∷ names)) 64) (Some (record { phase = phase; names = tag.name ∷ name ∷ names })) None (Some next) e) [
      | inl h ↦ counts (record { phase = phase; names = tag.name ∷ name ∷ names }) next (length (tag.name ∷ name ∷ names)) refl h.1
      | inr h ↦ never next (length next.names ≡ suc (length (name ∷ names))) h.1
    ]
moves_inside phase name names (whole tag) next e =
    elim (chosen (ltb (length (name ∷ names)) 64) (Some (record { phase = phase; names = name ∷ names })) None (Some next) e) [
      | inl h ↦ counts (record { phase = phase; names = name ∷ names }) next (length (name ∷ names)) refl h.1
      | inr h ↦ never next (length next.names ≡ length (name ∷ names)) h.1
    ]
moves_inside phase name names (finish last) next e =
    elim (chosen (bytes_eq last name) (Some (record { phase = phase; names = names })) None (Some next) e) [
      | inl h ↦ ap suc (sym (counts (record { phase = phase; names = names }) next (length names) refl h.1))
      | inr h ↦ never next (length (name ∷ names) ≡ suc (length next.names)) h.1
    ]

moves : (phase : Phase) (names : List (List ℕ)) (piece : Piece) (next : State) → after_names phase names piece ≡ Some next → Moves piece (length names) (length next.names)
moves phase [] piece next e = moves_outside phase piece next e
moves phase (name ∷ names) piece next e = moves_inside phase name names piece next e

-- ---- one search

-- a level is searched on where no element of it is found
abbrev Goes : ℕ → Option (List ℕ) → ℕ → List ℕ → List Found → Type 0
Goes level wanted next rest elements = (level ≤ next) × (elements ≡ elements_at (next - level) wanted rest)

at_depth : (level : ℕ) (wanted : Option (List ℕ)) (below next : ℕ) (rest : List ℕ) (elements : List Found) → elements ≡ elements_at below wanted rest → next ≡ level + below
    → Goes level wanted next rest elements
at_depth level wanted below next rest elements e place =
    let there : below ≡ next - level = omega arith in
    (omega arith, e ∙ ap (λ n. elements_at n wanted rest) there)

-- pieces of the level itself
stands_here : (level next : ℕ) (wanted : Option (List ℕ)) (p : Passing) (elements : List Found) → piece_at p.from ≡ Some (p.piece, p.rest) → Moves p.piece level next
    → elements ≡ elements_at 0 wanted p.from → Stands level wanted next p.rest elements (by_step p (step_of 0 wanted p.piece))
stands_here level next wanted p elements read move e = by_piece p.piece read move
  where
    by_piece : (piece : Piece) → piece_at p.from ≡ Some (piece, p.rest) → Moves piece level next → Stands level wanted next p.rest elements (by_step p (step_of 0 wanted piece))
    by_piece (byte b) r m = at_depth level wanted 0 next p.rest elements (e ∙ elements_by p.from (byte b) p.rest 0 wanted (on 0) r refl) (omega arith)
    by_piece comment r m = at_depth level wanted 0 next p.rest elements (e ∙ elements_by p.from comment p.rest 0 wanted (on 0) r refl) (omega arith)
    by_piece declaration r m = at_depth level wanted 0 next p.rest elements (e ∙ elements_by p.from declaration p.rest 0 wanted (on 0) r refl) (omega arith)
    by_piece (finish name) r m = e ∙ elements_by p.from (finish name) p.rest 0 wanted closed r refl
    by_piece (start tag) r m =
        elim (cases_Bool (is_hit 0 wanted tag)) [
          | inl h ↦
              let step : found tag true ≡ step_of 0 wanted (start tag) = rw h refl in
              let f : Found = record { from = p.from; tag = tag; is_open = true; rest = p.rest } in
              let first : Stands level wanted next p.rest elements (hit f) = e ∙ elements_by p.from (start tag) p.rest 0 wanted (found tag true) r step in
              subst (λ s. Stands level wanted next p.rest elements (by_step p s)) step first
          | inr h ↦
              let step : on 1 ≡ step_of 0 wanted (start tag) = rw h refl in
              let deeper : Stands level wanted next p.rest elements seeking =
              at_depth level wanted 1 next p.rest elements (e ∙ elements_by p.from (start tag) p.rest 0 wanted (on 1) r step) (omega arith) in
              subst (λ s. Stands level wanted next p.rest elements (by_step p s)) step deeper
        ]
    by_piece (whole tag) r m =
        elim (cases_Bool (is_hit 0 wanted tag)) [
          | inl h ↦
              let step : found tag false ≡ step_of 0 wanted (whole tag) = rw h refl in
              let f : Found = record { from = p.from; tag = tag; is_open = false; rest = p.rest } in
              let first : Stands level wanted next p.rest elements (hit f) = e ∙ elements_by p.from (whole tag) p.rest 0 wanted (found tag false) r step in
              subst (λ s. Stands level wanted next p.rest elements (by_step p s)) step first
          | inr h ↦
              let step : on 0 ≡ step_of 0 wanted (whole tag) = rw h refl in
              let same_level : Stands level wanted next p.rest elements seeking =
              at_depth level wanted 0 next p.rest elements (e ∙ elements_by p.from (whole tag) p.rest 0 wanted (on 0) r step) (omega arith) in
              subst (λ s. Stands level wanted next p.rest elements (by_step p s)) step same_level
        ]

-- pieces that lie deeper
no_hit : (k : ℕ) (wanted : Option (List ℕ)) (tag : Tag) → is_hit (suc k) wanted tag ≡ false
no_hit k wanted tag =
    let apart : eqb (suc k) 0 ≡ false = ne_eqb (suc k) 0 (λ e. absurd (omega arith)) in
    and_left (eqb (suc k) 0) (is_wanted wanted tag.name) apart

goes_below : (level next k : ℕ) (wanted : Option (List ℕ)) (from rest : List ℕ) (piece : Piece) (elements : List Found) → piece_at from ≡ Some (piece, rest) → Moves piece (level + suc k) next
    → elements ≡ elements_at (suc k) wanted from → Goes level wanted next rest elements
goes_below level next k wanted from rest (byte b) elements r m e =
    at_depth level wanted (suc k) next rest elements (e ∙ elements_by from (byte b) rest (suc k) wanted (on (suc k)) r refl) m
goes_below level next k wanted from rest comment elements r m e =
    at_depth level wanted (suc k) next rest elements (e ∙ elements_by from comment rest (suc k) wanted (on (suc k)) r refl) m
goes_below level next k wanted from rest declaration elements r m e =
    at_depth level wanted (suc k) next rest elements (e ∙ elements_by from declaration rest (suc k) wanted (on (suc k)) r refl) m
goes_below level next k wanted from rest (start tag) elements r m e =
    let miss = no_hit k wanted tag in
    let step : on (suc k + 1) ≡ step_of (suc k) wanted (start tag) = rw miss refl in
    at_depth level wanted (suc k + 1) next rest elements (e ∙ elements_by from (start tag) rest (suc k) wanted (on (suc k + 1)) r step) (omega arith)
goes_below level next k wanted from rest (whole tag) elements r m e =
    let miss = no_hit k wanted tag in
    let step : on (suc k) ≡ step_of (suc k) wanted (whole tag) = rw miss refl in
    at_depth level wanted (suc k) next rest elements (e ∙ elements_by from (whole tag) rest (suc k) wanted (on (suc k)) r step) m
goes_below level next k wanted from rest (finish name) elements r m e =
    at_depth level wanted k next rest elements (e ∙ elements_by from (finish name) rest (suc k) wanted (on k) r refl) (omega arith)

stands_below : (level depth next : ℕ) (wanted : Option (List ℕ)) (p : Passing) (elements : List Found) → p.depth ≡ depth → piece_at p.from ≡ Some (p.piece, p.rest) → Moves p.piece depth next
    → (depth ≡ level → ⊥) → Stands level wanted depth p.from elements seeking → Stands level wanted next p.rest elements seeking
stands_below level depth next wanted p elements at read move apart stands = by_gap (depth - level) refl
  where
    by_gap : (gap : ℕ) → depth - level ≡ gap → Stands level wanted next p.rest elements seeking
    by_gap zero e = absurd (apart (let le : level ≤ depth = stands.0 in omega arith))
    by_gap (suc k) e =
        let le : level ≤ depth = stands.0 in
        let place : depth ≡ level + suc k = omega arith in
        goes_below level next k wanted p.from p.rest p.piece elements read (subst (λ (n : ℕ). Moves p.piece n next) place move)
        (stands.1 ∙ ap (λ (n : ℕ). elements_at n wanted p.from) e)

stands_step : (level depth next : ℕ) (wanted : Option (List ℕ)) (p : Passing) (elements : List Found) (s : Sought) → p.depth ≡ depth → piece_at p.from ≡ Some (p.piece, p.rest)
    → Moves p.piece depth next → Stands level wanted depth p.from elements s → Stands level wanted next p.rest elements (sought_at level wanted p s)
stands_step level depth next wanted p elements (hit f) at read move stands = stands
stands_step level depth next wanted p elements missed at read move stands = stands
stands_step level depth next wanted p elements seeking at read move stands =
    elim (cases_Bool (eqb p.depth level)) [
      | inl h ↦
          let same_level : depth ≡ level = sym at ∙ eqb-true p.depth level h in
          let none : depth - level ≡ 0 = omega arith in
          let here = stands_here level next wanted p elements read (subst (λ (n : ℕ). Moves p.piece n next) same_level move) (stands.1 ∙ ap (λ (n : ℕ). elements_at n wanted p.from) none) in
          rw h here
      | inr h ↦
          let apart : depth ≡ level → ⊥ = λ e. absurd (true≢false (sym (eq-eqb p.depth level (at ∙ e)) ∙ h)) in
          rw h (stands_below level depth next wanted p elements at read move apart stands)
    ]

-- ---- a search in what another one finds

-- the other search hits here, in its own level
fresh_step : (level next : ℕ) (wanted : Option (List ℕ)) (name : List ℕ) (p : Passing) → Moves p.piece level next → StandsUnder (suc level) name next p.rest (by_step p (step_of 0 wanted p.piece)) seeking
fresh_step level next wanted name p move = by_piece p.piece move
  where
    by_piece : (piece : Piece) → Moves piece level next → StandsUnder (suc level) name next p.rest (by_step p (step_of 0 wanted piece)) seeking
    by_piece (byte b) m = refl
    by_piece comment m = refl
    by_piece declaration m = refl
    by_piece (finish last) m = tt
    by_piece (start tag) m =
        elim (cases_Bool (is_hit 0 wanted tag)) [
          | inl h ↦
              let none : next - suc level ≡ 0 = omega arith in
              let le : suc level ≤ next = omega arith in
              let begins : Stands (suc level) (Some name) next p.rest (elements_at 0 (Some name) p.rest) seeking = (le, ap (λ (n : ℕ). elements_at n (Some name) p.rest) (sym none)) in
              rw h begins
          | inr h ↦ rw h refl
        ]
    by_piece (whole tag) m =
        elim (cases_Bool (is_hit 0 wanted tag)) [
          | inl h ↦ rw h refl
          | inr h ↦ rw h refl
        ]

-- the search that finds the other element, before and after the piece
abbrev IsAbove : ℕ → Option (List ℕ) → Passing → Sought → Sought → Type 0
IsAbove level wanted p above now = (now ≡ above) ⊎ (now ≡ sought_at level wanted p above)

under_seeking : (level depth next : ℕ) (wanted : Option (List ℕ)) (name : List ℕ) (p : Passing) (now : Sought) → p.depth ≡ depth → Moves p.piece depth next
    → IsAbove level wanted p seeking now → StandsUnder (suc level) name next p.rest now seeking
under_seeking level depth next wanted name p now at move (inl e) = subst (λ s. StandsUnder (suc level) name next p.rest s seeking) (sym e) refl
under_seeking level depth next wanted name p now at move (inr e) =
    let P : Sought → Type 0 = λ s. StandsUnder (suc level) name next p.rest s seeking in
    elim (cases_Bool (eqb p.depth level)) [
      | inl h ↦
          let same_level : depth ≡ level = sym at ∙ eqb-true p.depth level h in
          let begun = fresh_step level next wanted name p (subst (λ (n : ℕ). Moves p.piece n next) same_level move) in
          subst P (sym e) (rw h begun)
      | inr h ↦ subst P (sym e) (rw h refl)
    ]

kept_above : (level : ℕ) (wanted : Option (List ℕ)) (p : Passing) (above now : Sought) → sought_at level wanted p above ≡ above → IsAbove level wanted p above now → now ≡ above
kept_above level wanted p above now stays (inl e) = e
kept_above level wanted p above now stays (inr e) = e ∙ stays

abbrev Inside : Bool → ℕ → List ℕ → ℕ → List ℕ → Found → Sought → Type 0
Inside b level name depth rest f s = MatchBool b (Stands (suc level) (Some name) depth rest (children_at name f) s) (s ≡ seeking)

under_step : (level depth next : ℕ) (wanted : Option (List ℕ)) (name : List ℕ) (p : Passing) (above now s : Sought) → p.depth ≡ depth → piece_at p.from ≡ Some (p.piece, p.rest)
    → Moves p.piece depth next → IsAbove level wanted p above now → StandsUnder (suc level) name depth p.from above s
    → StandsUnder (suc level) name next p.rest now (sought_under (suc level) name p above s)
under_step level depth next wanted name p seeking now s at read move is under =
    subst (λ t. StandsUnder (suc level) name next p.rest now t) (sym under) (under_seeking level depth next wanted name p now at move is)
under_step level depth next wanted name p missed now s at read move is under =
    subst (λ t. StandsUnder (suc level) name next p.rest t s) (sym (kept_above level wanted p missed now refl is)) tt
under_step level depth next wanted name p (hit f) now s at read move is under =
    subst (λ t. StandsUnder (suc level) name next p.rest t (sought_under (suc level) name p (hit f) s)) (sym (kept_above level wanted p (hit f) now refl is)) (inside f.is_open under)
  where
    inside : (b : Bool) → Inside b level name depth p.from f s → Inside b level name next p.rest f (cond b (sought_at (suc level) (Some name) p s) s)
    inside true stands = stands_step (suc level) depth next (Some name) p (children_at name f) s at read move stands
    inside false none = none

gate : (level : ℕ) (name : List ℕ) (p : Passing) (above s : Sought) → IsAbove level (Some name) p s (sought_under level name p above s)
gate level name p above s = by_gate (opens above)
  where
    by_gate : (b : Bool) → IsAbove level (Some name) p s (cond b (sought_at level (Some name) p s) s)
    by_gate true = inr refl
    by_gate false = inl refl

-- ---- a count

-- the level of what was found begins where the bytes after it are left
hit_place : (level depth next : ℕ) (wanted : Option (List ℕ)) (p : Passing) (f : Found) → p.depth ≡ depth → Moves p.piece depth next → sought_at level wanted p seeking ≡ hit f
    → (level ≤ next) × (f.rest ≡ p.rest) × (depth_in f.is_open ≡ next - level)
hit_place level depth next wanted p f at move is =
    elim (chosen (eqb p.depth level) (by_step p (step_of 0 wanted p.piece)) seeking (hit f) is) [
      | inl h ↦
          let same_level : depth ≡ level = sym at ∙ eqb-true p.depth level h.0 in
          by_piece p.piece (subst (λ (n : ℕ). Moves p.piece n next) same_level move) h.1
      | inr h ↦ absurd (let no = h.1 in cc)
    ]
  where
    found_is : (tag : Tag) (is_open : Bool) → hit (record { from = p.from; tag = tag; is_open = is_open; rest = p.rest }) ≡ hit f
        → (p.rest ≡ f.rest) × (is_open ≡ f.is_open)
    found_is tag is_open e = let g : Found = record { from = p.from; tag = tag; is_open = is_open; rest = p.rest } in
        let same_found : g ≡ f = cc in (ap (λ (x : Found). x.rest) same_found, ap (λ (x : Found). x.is_open) same_found)

    by_piece : (piece : Piece) → Moves piece level next → by_step p (step_of 0 wanted piece) ≡ hit f → (level ≤ next) × (f.rest ≡ p.rest) × (depth_in f.is_open ≡ next - level)
    by_piece (byte b) m e = absurd (let no = e in cc)
    by_piece comment m e = absurd (let no = e in cc)
    by_piece declaration m e = absurd (let no = e in cc)
    by_piece (finish name) m e = absurd (let no = e in cc)
    by_piece (start tag) m e =
        elim (cases_Bool (is_hit 0 wanted tag)) [
          | inl h ↦
              let same = found_is tag true (rw h at e) in
              let one : 1 ≡ next - level = omega arith in
              (omega arith, sym same.0, ap depth_in (sym same.1) ∙ one)
          | inr h ↦ absurd (let no : seeking ≡ hit f = rw h at e in cc)
        ]
    by_piece (whole tag) m e =
        elim (cases_Bool (is_hit 0 wanted tag)) [
          | inl h ↦
              let same = found_is tag false (rw h at e) in
              let none : 0 ≡ next - level = omega arith in
              (omega arith, sym same.0, ap depth_in (sym same.1) ∙ none)
          | inr h ↦ absurd (let no : seeking ≡ hit f = rw h at e in cc)
        ]

tallies_step : (level depth next : ℕ) (wanted : Option (List ℕ)) (p : Passing) (elements : List Found) (count : ℕ) (over : Bool) → p.depth ≡ depth → piece_at p.from ≡ Some (p.piece, p.rest)
    → Moves p.piece depth next → Tallies level wanted depth p.from elements (record { count = count; is_over = over })
    → Tallies level wanted next p.rest elements (tally_at level wanted p (record { count = count; is_over = over }))
tallies_step level depth next wanted p elements count true at read move tallies = tallies
tallies_step level depth next wanted p elements count false at read move tallies =
    let left_before = elements_at (depth - level) wanted p.from in
    by_sought (sought_at level wanted p seeking) refl (stands_step level depth next wanted p left_before seeking at read move (tallies.0, refl))
  where
    by_sought : (s : Sought) → sought_at level wanted p seeking ≡ s → Stands level wanted next p.rest (elements_at (depth - level) wanted p.from) s
        → Tallies level wanted next p.rest elements (tallied (record { count = count; is_over = false }) s)
    by_sought seeking e stands = (stands.0, tallies.1 ∙ ap (λ (fs : List Found). count + length fs) stands.1)
    by_sought (hit f) e stands =
        let place = hit_place level depth next wanted p f at move e in
        let rest_is : elements_at (depth_in f.is_open) wanted f.rest ≡ elements_at (next - level) wanted p.rest
        = ap (λ (r : List ℕ). elements_at (depth_in f.is_open) wanted r) place.1 ∙ ap (λ (n : ℕ). elements_at n wanted p.rest) place.2 in
        let split : length (elements_at (depth - level) wanted p.from) ≡ suc (length (elements_at (next - level) wanted p.rest))
        = ap (λ (fs : List Found). length fs) stands ∙ ap (λ (fs : List Found). suc (length fs)) rest_is in
        (place.0, let all = tallies.1 in omega arith)
    by_sought missed e stands =
        let none : length (elements_at (depth - level) wanted p.from) ≡ 0 = ap (λ (fs : List Found). length fs) stands in
        let all = tallies.1 in
        omega arith

tally_fresh : (level depth : ℕ) (name rest : List ℕ) (above : Sought) → StandsUnder level name depth rest above seeking → TalliesUnder level name depth rest above no_tally
tally_fresh level depth name rest seeking under = refl
tally_fresh level depth name rest missed under = tt
tally_fresh level depth name rest (hit f) under = inside f.is_open under
  where
    inside : (b : Bool) → MatchBool b (Stands level (Some name) depth rest (children_at name f) seeking) (seeking ≡ seeking)
        → MatchBool b (Tallies level (Some name) depth rest (children_at name f) no_tally) (no_tally ≡ no_tally)
    inside true stands = (stands.0, let all : length (children_at name f) ≡ length (elements_at (depth - level) (Some name) rest) = ap (λ (fs : List Found). length fs) stands.1 in omega arith)
    inside false none = refl

tally_step : (level depth next : ℕ) (wanted : Option (List ℕ)) (name : List ℕ) (p : Passing) (above now : Sought) (t : Passed) → p.depth ≡ depth → piece_at p.from ≡ Some (p.piece, p.rest)
    → Moves p.piece depth next → IsAbove level wanted p above now → TalliesUnder (suc level) name depth p.from above t
    → TalliesUnder (suc level) name next p.rest now (tally_under (suc level) name p above t)
tally_step level depth next wanted name p seeking now t at read move is under =
    subst (λ u. TalliesUnder (suc level) name next p.rest now u) (sym under)
    (tally_fresh (suc level) next name p.rest now (under_seeking level depth next wanted name p now at move is))
tally_step level depth next wanted name p missed now t at read move is under =
    subst (λ s. TalliesUnder (suc level) name next p.rest s t) (sym (kept_above level wanted p missed now refl is)) tt
tally_step level depth next wanted name p (hit f) now t at read move is under =
    subst (λ s. TalliesUnder (suc level) name next p.rest s (tally_under (suc level) name p (hit f) t)) (sym (kept_above level wanted p (hit f) now refl is)) (inside f.is_open under)
  where
    inside : (b : Bool) → MatchBool b (Tallies (suc level) (Some name) depth p.from (children_at name f) t) (t ≡ no_tally)
        → MatchBool b (Tallies (suc level) (Some name) next p.rest (children_at name f) (cond b (tally_at (suc level) (Some name) p t) t)) (cond b (tally_at (suc level) (Some name) p t) t ≡ no_tally)
    inside true tallies = tallies_step (suc level) depth next (Some name) p (children_at name f) t.count t.is_over at read move tallies
    inside false none = none

pub tally_low : (level : ℕ) (name : List ℕ) (p : Passing) (above : Sought) (t : Passed) → (tally_under level name p above t).count ≤ t.count + 1
tally_low level name p above t = by_gate (opens above) t.is_over (sought_at level (Some name) p seeking)
  where
    low : (s : Sought) → (tallied t s).count ≤ t.count + 1
    low seeking = omega arith
    low (hit f) = omega arith
    low missed = omega arith

    by_gate : (b over : Bool) (s : Sought) → (cond b (cond over t (tallied t s)) t).count ≤ t.count + 1
    by_gate true true s = omega arith
    by_gate true false s = low s
    by_gate false over s = omega arith

-- ---- all searches

pub path_step : (bytes : List ℕ) (state next : State) (p : Passing) (path : ElementPath) → p.depth ≡ length state.names → piece_at p.from ≡ Some (p.piece, p.rest) → after_piece state p.piece ≡ Some next
    → IsPath bytes (length state.names) p.from path → IsPath bytes (length next.names) p.rest (path_after p path)
path_step bytes state next p path at read goes is =
    let depth = length state.names in
    let last = length next.names in
    let move = moves state.phase state.names p.piece next goes in
    record {
      root = stands_step 0 depth last None p (elements_at 0 None bytes) path.root at read move is.root;
      table = under_step 0 depth last None (codes "Table") p path.root (sought_at 0 None p path.root) path.table at read move (inr refl) is.table;
      about = under_step 1 depth last (Some (codes "Table")) (codes "MetaData") p path.table (sought_under 1 (codes "Table") p path.root path.table) path.about at read move (gate 1 (codes "Table") p path.root path.table) is.about;
      values = under_step 1 depth last (Some (codes "Table")) (codes "Values") p path.table (sought_under 1 (codes "Table") p path.root path.table) path.values at read move (gate 1 (codes "Table") p path.root path.table) is.values;
      axis = under_step 2 depth last (Some (codes "Values")) (codes "Axis") p path.values (sought_under 2 (codes "Values") p path.table path.values) path.axis at read move (gate 2 (codes "Values") p path.table path.values) is.axis;
      inner = under_step 3 depth last (Some (codes "Axis")) (codes "Axis") p path.axis (sought_under 3 (codes "Axis") p path.values path.axis) path.inner at read move (gate 3 (codes "Axis") p path.values path.axis) is.inner;
      first = under_step 3 depth last (Some (codes "Axis")) (codes "Y") p path.axis (sought_under 3 (codes "Axis") p path.values path.axis) path.first at read move (gate 3 (codes "Axis") p path.values path.axis) is.first;
      tally = tally_step 3 depth last (Some (codes "Axis")) (codes "Y") p path.axis (sought_under 3 (codes "Axis") p path.values path.axis) path.tally at read move (gate 3 (codes "Axis") p path.values path.axis) is.tally;
    }
