use Rattle.policy_value.proofs.Names.{◌+◌, ◌-◌, ap, get_or, ◌∙◌, IsRowOf}
use Rattle.policy_value.proofs.Putting.{kept_value}
use Rattle.policy_value.proofs.columns.ColumnStore.value.Goals as goal

pub returns-clause-value : goal.returns-clause-value
returns-clause-value c =
    let rates = c.args.rates.now in
    let store = c.place_of-place.new.self in
    let kept = c.index-kept.result.now in
    let row : IsRowOf c.args.basis.now c.args.key.basis_row c.args.key.issue rates.table.now rates.bp = rw (c.requires.key.0, c.requires.key.1) c.requires.row in
    let here = kept_value c.args.basis.now store.pairs.items store.kept.items c.place_of-place.result c.args.age c.args.key rates.table.now rates.bp kept c.index.result.now c.place_of-place.ensures.right.columns c.place_of-place.ensures.kept row
    c.requires.can.before in
    c.index.ensures ∙ ap (λ k. get_or store.pairs.items (kept.first + k) c.index.result.now) c.from.ensures
    ∙ ap (λ one. get_or store.pairs.items (one.first + (c.args.age - one.lowest)) c.index.result.now) c.index-kept.ensures ∙ here
