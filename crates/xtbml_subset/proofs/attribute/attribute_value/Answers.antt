use Rattle.xtbml_subset.proofs.Names.{◌≡◌, Some, true, false, sym, ◌∙◌, cond-true, cond-false, bytes_eq, Attribute, attributes_at, value_of}
use Rattle.xtbml_subset.proofs.Behind.{behind_shorter}
use Rattle.xtbml_subset.proofs.AttributeRuns.{attribute_behind, value_step, value_stop}
use Rattle.xtbml_subset.proofs.attribute.attribute_value.Goals as goal

pub returns-then-eq : goal.returns-then-eq
returns-then-eq c =
    let a : Attribute = (c.in-Some.attribute.name.now, c.in-Some.attribute.value.now) in
    let step = value_step c.args.name.now c.loop-attribute.rest.now a c.in-Some.next.now (sym c.in-Some.ensures) in
    let same : bytes_eq a.0 c.args.name.now ≡ true = sym c.if-eq.ensures in
    sym (step ∙ cond-true (bytes_eq a.0 c.args.name.now) (Some a.1) (value_of c.args.name.now (attributes_at c.in-Some.next.now).0) same) ∙ c.loop-attribute.invariant

pub loop-attribute-smaller : goal.loop-attribute-smaller
loop-attribute-smaller c =
    let a : Attribute = (c.in-Some.attribute.name.now, c.in-Some.attribute.value.now) in
    behind_shorter c.loop-attribute.rest.now c.in-Some.next.now (attribute_behind c.loop-attribute.rest.now a c.in-Some.next.now (sym c.in-Some.ensures))

pub loop-attribute-preserved : goal.loop-attribute-preserved
loop-attribute-preserved c =
    let a : Attribute = (c.in-Some.attribute.name.now, c.in-Some.attribute.value.now) in
    let step = value_step c.args.name.now c.loop-attribute.rest.now a c.in-Some.next.now (sym c.in-Some.ensures) in
    let other : bytes_eq a.0 c.args.name.now ≡ false = sym c.if-eq.ensures in
    sym (step ∙ cond-false (bytes_eq a.0 c.args.name.now) (Some a.1) (value_of c.args.name.now (attributes_at c.in-Some.next.now).0) other) ∙ c.loop-attribute.invariant

pub returns : goal.returns
returns c = sym (value_stop c.args.name.now c.loop-attribute.rest.now (sym c.in_default.ensures)) ∙ c.loop-attribute.invariant
