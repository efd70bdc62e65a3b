use Rattle.present_value.proofs.Names.{rules, refl, ap, ◌∙◌, get_or-set_same, length-set, pair_of}
use Rattle.present_value.proofs.Ageing.{started}
use Rattle.present_value.proofs.column.Column.restart.Goals as goal

pub returns : goal.returns
returns c =
    let paid = c.paid_at_end-paid.ensures in
    let pairs = c.args.self.now.pairs in
    started c.args.stream c.args.end _ (refl, refl) refl c.requires (length-set pairs c.args.end _ ∙ search rules)
    (get_or-set_same pairs c.args.end _ (pair_of 0 0) (search rules) ∙ ap (λ k. pair_of k k) paid)
