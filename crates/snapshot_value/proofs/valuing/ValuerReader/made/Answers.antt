use Rattle.std.proofs.Common.{FitsSigned, rules, refl, ◌∙◌, w32}
use Rattle.std.proofs.lemmas.Int.{to_z-of_z}
use Rattle.snapshot_value.proofs.ValueSteps.{valuation_at}
use Rattle.snapshot_value.proofs.valuing.ValuerReader.made.Goals as goal

pub returns : goal.returns
returns g c = λ plan policies has few sound.
    let fits : FitsSigned w32 c.args.self.on = search rules in
    valuation_at plan.basis.now plan.on plan.measure c.args.position policies c.value_read.new.self _ few
    (c.in_ok-value_read.ensures.made _ _ _ policies has.2) c.in_ok-value_read.ensures.none refl (to_z-of_z w32 c.args.self.on fits ∙ has.0) has.1
    (c.new.ensures ∙ c.into_rows.ensures)
