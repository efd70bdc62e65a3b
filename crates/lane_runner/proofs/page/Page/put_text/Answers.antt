use Rattle.std.proofs.Common.{sym, ◌∙◌, rules}
use Rattle.lane_runner.proofs.ShowSteps.{showing_past}
use Rattle.lane_runner.proofs.page.Page.put_text.Goals as goal

pub returns-in-Ok-clause-put : goal.returns-in-Ok-clause-put
returns-in-Ok-clause-put g c = λ faults first lines put.
    c.gather.ensures.put faults first g.X.Wording.text lines c.args.told.now (search rules) put

pub returns-in-Err-clause-put : goal.returns-in-Err-clause-put
returns-in-Err-clause-put g c = λ faults first lines put.
    c.stop_short.ensures.put faults first g.X.Wording.text lines c.args.told.now (search rules) put

pub returns-then-is_some-clause-shown : goal.returns-then-is_some-clause-shown
returns-then-is_some-clause-shown g c = λ first lines moments enough is.
    showing_past g.X.Wording.text first (g.K.Sink.pieces c.args.output.now) lines moments c.args.self.now.latest c.args.self.now.bytes.items
    c.args.self.now.bytes.items c.args.self.now.stopped c.args.told.now (sym c.is_some.ensures ∙ c.if-is_some.true) enough is
