use Rattle.lane_runner.proofs.Names.{false, refl, ap, sym, subst, AreTallied, all_added}
use Rattle.lane_runner.proofs.transcript_lines.TranscriptLines.new.Goals as goal

pub invariant_of-result : goal.invariant_of-result
invariant_of-result c = subst (λ lines. AreTallied lines 0 0 false false) (sym (ap all_added c.of.ensures))
    (record { accepted_is = refl; refused_is = refl; faulted_is = refl; lacked_is = refl })

pub returns : goal.returns
returns c = ap all_added c.of.ensures
