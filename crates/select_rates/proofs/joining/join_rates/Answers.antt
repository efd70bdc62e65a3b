use Rattle.std.proofs.Common.{◌≡◌, ◌++◌, ◌∙◌, ap, arith, rules}
use Rattle.select_rates.proofs.Extending.{alone, extended}
use Rattle.select_rates.proofs.joining.join_rates.Goals as goal
use Rattle.select_rates.proofs.joining.join_rates.Goals.{then-behind-last_age+in_ok-extend, else-behind-last_age}

pub returns-clause-joined : goal.returns-clause-joined
returns-clause-joined c =
    let copied : c.in_ok-rates.rates.items ≡ c.args.select.now = search rules
    in elim c.if-behind-last_age.branch [
      | then-behind-last_age+in_ok-extend w ↦
          let same : c.if-behind-last_age.rates.items ≡ c.args.select.now ++ w.rates_from.result.now
          = ap (λ v. v.items) w.rates-is ∙ w.in_ok-extend.ensures.items ∙ ap (λ xs. xs ++ w.rates_from.result.now) copied
          in rw same (extended c.args.ultimate.now c.args.age c.args.select.now w.rates_from.result.now w.rates_from.ensures.rates)
      | else-behind-last_age w ↦
          let same : c.if-behind-last_age.rates.items ≡ c.args.select.now = ap (λ v. v.items) w.rates-is ∙ copied
          in rw same (alone c.args.ultimate.now c.args.age c.args.select.now
          (let past = w.if-behind-last_age.false in let age = c.last_age.ensures.age in omega arith))
    ]
