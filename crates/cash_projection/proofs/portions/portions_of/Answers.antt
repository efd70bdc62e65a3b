use Rattle.cash_projection.proofs.Names.{◌≡◌, ◌++◌, ◌∙◌, List, [], ap, ap₂, arith, sym, append-nil, take-append-drop, policies_of_portions}
use Rattle.std.proofs.lemmas.List.{nil_from_length}
use Rattle.cash_projection.proofs.Portioning.{portion_cut}
use Rattle.cash_projection.proofs.portions.portions_of.Goals as goal

pub loop-rest-preserved : goal.loop-rest-preserved
loop-rest-preserved c =
    portion_cut c.args.policies.now c.loop-rest.portions.items c.push.new.items.items _ c.loop-rest.rest.now c.split_at.result.1.now c.loop-rest.invariant
    c.in_ok-push.ensures.items (ap₂ ◌++◌ c.split_at.ensures.front c.split_at.ensures.back ∙ take-append-drop _ c.loop-rest.rest.now)

pub returns : goal.returns
returns c =
    let none : c.loop-rest.rest.now ≡ [] = nil_from_length _ (omega (arith, c.loop-rest-test.false)) in
    sym (append-nil _) ∙ ap (λ (ps : List _). policies_of_portions c.loop-rest.portions.items ++ ps) (sym none) ∙ c.loop-rest.invariant
