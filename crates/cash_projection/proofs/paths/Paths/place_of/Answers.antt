use Rattle.cash_projection.proofs.Names.{arith, ap, sym, ◌∙◌, ◌<◌, length, true≢false, length-set, get_or_read, IsRightPath, SurvivalPath}
use Rattle.std.proofs.lemmas.List.Elements.{All-set}
use Rattle.cash_projection.proofs.PathSteps.{kept_here, put_here, right_by_key}
use Rattle.cash_projection.proofs.paths.Paths.place_of.Goals as goal

pub returns-then-is-clause-here : goal.returns-then-is-clause-here
returns-then-is-clause-here c =
    let kept = c.args.self.now.kept.items in
    let within : c.slot_of-place.result < length kept = omega arith in
    kept_here c.args.basis.now c.args.key c.args.rates.now kept c.slot_of-place.result c.requires.right.right within
    c.requires.age.1 c.requires.rates
    (λ none. ap (λ (p : SurvivalPath). p.key) (sym (get_or_read kept _ _ within c.index.ensures none)) ∙ c.is.ensures.equal c.if-is.true)

pub returns-clause-right : goal.returns-clause-right
returns-clause-right c = record {
  some = rw length-set c.requires.right.some;
  right = All-set (IsRightPath c.args.basis.now) _ _ _
      (right_by_key c.args.basis.now c.args.key c.args.rates.now c.of.result c.of.ensures.key c.requires.rates c.of.ensures.path)
      c.requires.right.right;
}

pub returns-clause-here : goal.returns-clause-here
returns-clause-here c =
    put_here c.args.rates.now c.args.key.age c.args.self.now.kept.items c.slot_of-place.result c.of.result (omega arith) c.of.ensures.path

pub returns-clause-found : goal.returns-clause-found
returns-clause-found c = λ kept_there.
    let kept = c.args.self.now.kept.items in
    let within : c.slot_of-place.result < length kept = omega arith in
    let same = ap (λ (p : SurvivalPath). p.key) (get_or_read kept _ _ within c.index.ensures c.of.result) ∙ kept_there c.of.result in
    absurd (true≢false (sym (c.is.ensures.same same) ∙ c.if-is.false))
