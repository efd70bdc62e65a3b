-- A lane's lines as the policies are dealt out one by one
use Rattle.load_maker.proofs.Names.{◌≡◌, ℕ, suc, ◌+◌, ◌%◌, ◌==◌, List, [], ◌∷◌, ◌++◌, map, refl, ap, sym, ◌∙◌, add-one, append-nil, filter, Line, state_after, policy_drawn, renewed_by_policy, ClerkLine, generated_rows, drawn_issue, drawn_premium, policy_rows, lines_of}
use Rattle.std.proofs.lemmas.Bool.{eq-eqb, ne_eqb}
use Rattle.std.proofs.lemmas.List.{map-append}
use Rattle.std.proofs.lemmas.List.Elements.{filter-append}
use Rattle.load_maker.specs.declared.generator.Drawn.{Drawn}

pub lines_of_both : (lane : ℕ) (xs ys : List ClerkLine) → lines_of lane (xs ++ ys) ≡ lines_of lane xs ++ lines_of lane ys
lines_of_both lane xs ys =
    ap (map (λ (row : ClerkLine). row.line)) (filter-append (λ (row : ClerkLine). row.clerk == lane) xs ys)
    ∙ map-append (λ (row : ClerkLine). row.line) (filter (λ (row : ClerkLine). row.clerk == lane) xs) (filter (λ (row : ClerkLine). row.clerk == lane) ys)

own_rows : (lane to id : ℕ) (p : Drawn) → to ≡ lane → lines_of lane (policy_rows to id p) ≡ drawn_issue id p ∷ drawn_premium id p ∷ []
own_rows lane to id p same = rw (eq-eqb to lane same) refl

other_rows : (lane to id : ℕ) (p : Drawn) → (to ≡ lane → ⊥) → lines_of lane (policy_rows to id p) ≡ []
other_rows lane to id p other = rw (ne_eqb to lane other) refl

pub none_dealt : (seed lanes lane : ℕ) (lines : List Line) → lines ≡ [] → lines ≡ lines_of lane (generated_rows seed lanes 0)
unfolding generated_rows
none_dealt seed lanes lane lines none = none

joined : (more lines old pair drawn rows new : List Line) → more ≡ lines ++ pair → lines ≡ old → pair ≡ drawn → rows ≡ drawn → new ≡ old ++ rows → more ≡ new
joined more lines old pair drawn rows new a b c d e = cc

-- the two lines of a policy
abbrev pub lines_of_policy : ℕ → Drawn → List Line
lines_of_policy id p = drawn_issue id p ∷ drawn_premium id p ∷ []

pub dealt_here : (seed lanes lane n : ℕ) (lines more : List Line) (p : Drawn) → 1 + n % lanes ≡ lane
    → p ≡ policy_drawn (state_after seed n)
    → lines ≡ lines_of lane (generated_rows seed lanes n)
    → more ≡ lines ++ lines_of_policy (n + 1) p
    → more ≡ lines_of lane (generated_rows seed lanes (n + 1))
unfolding generated_rows
dealt_here seed lanes lane n lines more p here drawn before added = rw add-one (
    let next = policy_drawn (state_after seed n) in
    let rows = policy_rows (1 + n % lanes) (suc n) next in
    joined more lines (lines_of lane (generated_rows seed lanes n)) (lines_of_policy (n + 1) p) (lines_of_policy (suc n) next)
    (lines_of lane rows) (lines_of lane (generated_rows seed lanes n ++ rows))
    added before (rw add-one (ap (lines_of_policy (suc n)) drawn)) (own_rows lane (1 + n % lanes) (suc n) next here)
    (lines_of_both lane (generated_rows seed lanes n) rows))

pub dealt_elsewhere : (seed lanes lane n : ℕ) (lines : List Line) → (1 + n % lanes ≡ lane → ⊥)
    → lines ≡ lines_of lane (generated_rows seed lanes n)
    → lines ≡ lines_of lane (generated_rows seed lanes (n + 1))
unfolding generated_rows
dealt_elsewhere seed lanes lane n lines elsewhere before = rw add-one (
    let rows = policy_rows (1 + n % lanes) (suc n) (policy_drawn (state_after seed n)) in
    let both = lines_of_both lane (generated_rows seed lanes n) rows in
    let other = other_rows lane (1 + n % lanes) (suc n) (policy_drawn (state_after seed n)) elsewhere in
    let rest = append-nil (lines_of lane (generated_rows seed lanes n)) in
    before ∙ sym (both ∙ ap (λ more. lines_of lane (generated_rows seed lanes n) ++ more) other ∙ rest))

pub from_seed : (seed state : ℕ) → state ≡ seed → state ≡ state_after seed 0
unfolding state_after
from_seed seed state is = is

pub drawn_next : (seed n state next : ℕ) → state ≡ state_after seed n → next ≡ renewed_by_policy state → next ≡ state_after seed (n + 1)
unfolding state_after
drawn_next seed n state next is drawn = rw add-one (drawn ∙ ap renewed_by_policy is)
