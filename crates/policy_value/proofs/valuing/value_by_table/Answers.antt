use Rattle.policy_value.proofs.Names.{◌≡◌, sym, ◌∙◌, Cover, IsExactFor, Covered}
use Rattle.policy_value.proofs.Covering.{by_duration, worth_along}
use Rattle.policy_value.proofs.valuing.value_by_table.Goals as goal

pub returns-in-Ok-clause-exact : goal.returns-in-Ok-clause-exact
returns-in-Ok-clause-exact c = λ shape is.
    let policy = c.args.policy.now in
    let known = sym c.in-Ok.is ∙ c.shape_along.ensures.exact ∙ is in
    let same : shape ≡ c.in-Ok.shape = cc in
    let covered : Covered = record { own = c.of-own.result; next = c.of-next.result; shape = c.in-Ok.shape } in
    rw same (
      by_duration policy.plan policy.years c.args.bp c.args.table.now c.in-Ok.shape c.in-Ok.ensures.fits,
      worth_along c.args.table.now c.args.bp covered (λ (a b : Cover). IsExactFor c.args.measure policy a b c.min-t.result c.worth_by-worth.result)
          c.of-own.ensures.table c.of-next.ensures.table c.of-own.ensures.interest c.worth_by-worth.ensures.exact,
    )
