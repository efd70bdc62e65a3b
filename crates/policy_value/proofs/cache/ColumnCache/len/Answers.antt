use Rattle.policy_value.proofs.Names.{ap, sym, ◌∙◌, min, length-map}
use Rattle.policy_value.proofs.cache.ColumnCache.len.Goals as goal

pub returns : goal.returns
returns c = c.min.ensures ∙ ap (λ n. min n 255) (c.len.ensures.len ∙ sym (length-map c.args.self.now.premiums.entries _))
