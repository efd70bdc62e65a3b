use Rattle.xtbml_subset.proofs.Names.{◌≡◌, ℕ, false, eqb, List, [], length, Some, sym, ap, subst, ◌∙◌, inl, MatchBool, eqb-true, true≢false, nil_from_length, White, InClass, after, IsUnscaled}
use Rattle.xtbml_subset.proofs.Scales.{all_white, white_is_nothing, unscaled_by, scaled_by_none}
use Rattle.xtbml_subset.proofs.table.is_unscaled.Goals as goal

-- white space alone leaves nothing after it
filled : (content rest : List ℕ) → rest ≡ after White content → false ≡ eqb (length rest) 0 → InClass White content → ⊥
filled content rest skipped e white =
    let none : rest ≡ [] = skipped ∙ white_is_nothing content white in
    true≢false (sym (e ∙ ap (λ (s : List ℕ). eqb (length s) 0) none))

pub returns-then-is_empty : goal.returns-then-is_empty
returns-then-is_empty c =
    let content = c.in-Some.content.now in
    let rest = c.skip.result.now in
    let none : rest ≡ [] = nil_from_length rest (eqb-true (length rest) 0 (sym c.if-is_empty.ensures)) in
    rw c.in-Some.is (inl (all_white content (sym c.skip.ensures.after ∙ none)))

pub returns-in-Some-rate_in : goal.returns-in-Some-rate_in
returns-in-Some-rate_in c =
    let content = c.in-Some.content.now in
    let rate = c.in-Some-rate_in.rate in
    let by_rate = unscaled_by content rate c.in-Some-rate_in.ensures (filled content c.skip.result.now c.skip.ensures.after c.if-is_empty.ensures) in
    let by_test = subst (λ t. MatchBool t (IsUnscaled (Some content)) (IsUnscaled (Some content) → ⊥)) (sym c.is_unit.ensures) by_rate in
    rw c.in-Some.is by_test

pub returns-in-None : goal.returns-in-None
returns-in-None c =
    let content = c.in-Some.content.now in
    rw c.in-Some.is (scaled_by_none content c.in-None.ensures (filled content c.skip.result.now c.skip.ensures.after c.if-is_empty.ensures))
