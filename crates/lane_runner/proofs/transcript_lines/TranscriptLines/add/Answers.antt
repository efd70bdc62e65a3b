use Rattle.lane_runner.proofs.Names.{[], ◌∷◌, ◌++◌, ap, ◌∙◌, all_added}
use Rattle.std.specs.Option.{is_some}
use Rattle.lane_runner.proofs.TallySteps.{tallied_more}
use Rattle.lane_runner.proofs.transcript_lines.TranscriptLines.add.Goals as goal

pub invariant_of-self : goal.invariant_of-self
invariant_of-self c =
    rw c.earlier_of-self-inside.ensures (tallied_more (all_added c.self.inside.added.value) (all_added c.of-3.result.value) c.args.told c.self.inside.accepted c.self.inside.refused
    c.self.inside.faulted (is_some c.self.inside.lack) c.is_accepted.result c.is_refused.result c.is_faulted.result (is_some c.lack_in.result) c.self.invariant
    c.is_accepted.ensures c.is_refused.ensures c.is_faulted.ensures c.lack_in.ensures
    (ap all_added c.of-3.ensures ∙ ap (λ lines. lines ++ c.of-2.result.value ∷ []) (ap (λ earlier. all_added earlier.value) c.replace-earlier.ensures.value)
    ∙ ap (λ told. all_added c.self.inside.added.value ++ told ∷ []) c.of-2.ensures))

pub returns : goal.returns
returns c =
    ap all_added c.of-3.ensures ∙ ap (λ lines. lines ++ c.of-2.result.value ∷ []) (ap (λ earlier. all_added earlier.value) c.replace-earlier.ensures.value)
    ∙ ap (λ told. all_added c.self.inside.added.value ++ told ∷ []) c.of-2.ensures ∙ ap (λ lines. lines ++ c.args.told ∷ []) c.self.view_is
