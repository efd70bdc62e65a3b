use Rattle.xtbml_subset.proofs.Names.{sym, ap, ◌∙◌, Attribute}
use Rattle.xtbml_subset.proofs.Behind.{behind_shorter}
use Rattle.xtbml_subset.proofs.AttributeRuns.{attribute_behind, attributes_step, attributes_stop}
use Rattle.xtbml_subset.proofs.attribute.after_attributes.Goals as goal

pub loop-next-smaller : goal.loop-next-smaller
loop-next-smaller c =
    let a : Attribute = (c.in-Some.field-0-0.name.now, c.in-Some.field-0-0.value.now) in
    behind_shorter c.loop-next.rest.now c.in-Some.next.now (attribute_behind c.loop-next.rest.now a c.in-Some.next.now (sym c.in-Some.ensures))

pub loop-next-preserved : goal.loop-next-preserved
loop-next-preserved c =
    let a : Attribute = (c.in-Some.field-0-0.name.now, c.in-Some.field-0-0.value.now) in
    let step = attributes_step c.loop-next.rest.now a c.in-Some.next.now (sym c.in-Some.ensures) in
    sym (ap (λ read. read.1) step) ∙ c.loop-next.invariant

pub returns : goal.returns
returns c = sym (ap (λ read. read.1) (attributes_stop c.loop-next.rest.now (sym c.in_default.ensures))) ∙ c.loop-next.invariant
