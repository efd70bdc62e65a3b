use Rattle.program_endings.proofs.Names.{◌≡◌, ◌∙◌, ℕ, List, ap, take, flat_map, subst, arith, Appends, AppendsPart}
use Rattle.std.proofs.lemmas.List.{take_all}
use Rattle.program_endings.proofs.PartSteps.{appends_none, on_err, part_failed, part_written}
use Rattle.program_endings.proofs.saying.write_parts.Goals as goal

pub loop-part-init : goal.loop-part-init
loop-part-init g c = record { later = omega arith; written = appends_none (g.K.Sink.written c.args.output.now) }

pub loop-part-preserved : goal.loop-part-preserved
loop-part-preserved g c = record {
  later = omega (arith, c.loop-part.invariant.later, c.in_ok-write_all.ensures.cause.later);
  written = part_written _ (g.K.Sink.written c.loop-part.output) _ c.as_slice-part-items.result.now c.loop-part.part-index _ c.loop-part-test.true
      c.loop-part.invariant.written (rw (c.as_slice.ensures, c.part-item.is) at c.in_ok-write_all.ensures.whole);
}

pub returns-in_err-write_all-clause-part : goal.returns-in_err-write_all-clause-part
returns-in_err-write_all-clause-part g c =
    on_err c.from_residual.result
    (subst (AppendsPart (g.K.Sink.written c.args.output.now) (g.K.Sink.written c.write_all.new.sink)) c.as_slice-part-items.ensures
    (part_failed _ (g.K.Sink.written c.loop-part.output) _ c.as_slice-part-items.result.now c.loop-part.part-index _ c.loop-part-test.true
    c.loop-part.invariant.written (rw (c.as_slice.ensures, c.part-item.is) at c.in_err-write_all.ensures.part)))

pub returns-clause-whole : goal.returns-clause-whole
returns-clause-whole g c =
    let items = c.as_slice-part-items.result.now in
    let all : flat_map (λ (part : List ℕ). part) (take c.loop-part.part-index items) ≡ c.args.text.now =
    ap (flat_map (λ (part : List ℕ). part)) (take_all c.loop-part.part-index items (omega (arith, c.loop-part-test.false))) ∙ c.as_slice-part-items.ensures in
    subst (Appends (g.K.Sink.written c.args.output.now) (g.K.Sink.written c.loop-part.output)) all c.loop-part.invariant.written
