use Rattle.std.proofs.Common.{◌∙◌}
use Rattle.measure.proofs.Taking.{turns_in_all}
use Rattle.measure.proofs.counter.count_turns.Goals as goal

pub returns : goal.returns
returns g c =
    c.close.ensures.stood
    ∙ turns_in_all _ g.L.Lane.counts _ _ _ c.in-Ok.made.1 _ c.in-Ok.ensures.ok.0 c.lanes-pass.ensures.take c.close.ensures.facts c.close.ensures.whole
