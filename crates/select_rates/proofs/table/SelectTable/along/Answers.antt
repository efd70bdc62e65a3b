use Rattle.select_rates.proofs.Names.{◌<◌, ◌-◌, ◌∙◌, ap, length, arith, Selected}
use Rattle.select_rates.specs.Table.{select_table}
use Rattle.select_rates.proofs.Values.{prepared_is}
use Rattle.select_rates.proofs.table.SelectTable.along.Goals as goal

pub returns-then-place-len-clause-value : goal.returns-then-place-len-clause-value
returns-then-place-len-clause-value c =
    let inside = c.self.inside in
    let table : Selected = record { first_age = inside.first_age; rows = inside.rows.value; ultimate = inside.ultimate } in
    let within : c.args.age - inside.first_age < length inside.prepared.items = omega (arith, c.len.ensures, c.if-place-len.true) in
    c.index.ensures ∙ prepared_is table inside.prepared.items c.args.age _ c.self.invariant c.if-age-self.false within
    ∙ ap (λ (t : Selected). select_table t c.args.age) c.self.view_is
