use Rattle.lane_runner.proofs.Names.{Some, refl, rules, WriteFault}
use Rattle.lane_runner.proofs.GatherSteps.{put_failed, put_out}
use Rattle.lane_runner.proofs.ShowSteps.{showing_failed, showing_out}
use Rattle.lane_runner.proofs.page.Page.flush.Goals as goal

pub returns-in-Ok-clause-put : goal.returns-in-Ok-clause-put
returns-in-Ok-clause-put g c = λ faults first text lines put.
    put_out text faults _ _ first _ _ lines _ _ _ (search rules) (search rules) (search rules) (search rules) put

pub returns-in-Err-clause-put : goal.returns-in-Err-clause-put
returns-in-Err-clause-put g c = λ faults first text lines put.
    put_failed text faults (g.K.Sink.faults c.args.output.now) (g.K.Sink.faults c.write_all_since.new.sink) first (g.K.Sink.written c.args.output.now)
    (g.K.Sink.written c.write_all_since.new.sink) lines c.args.self.now.bytes.items c.args.self.now.bytes.items c.args.self.now.stopped (Some WriteFault)
    (search rules) refl (search rules) (search rules) put

pub returns-in-Ok-clause-shown : goal.returns-in-Ok-clause-shown
returns-in-Ok-clause-shown g c = λ text first lines moments is.
    showing_out text first (g.K.Sink.pieces c.args.output.now) (g.K.Sink.pieces c.write_all_since.new.sink) lines moments c.args.self.now.latest
    c.args.self.now.bytes.items c.args.self.now.stopped (search rules) c.as_slice.result.now c.clear.new.self.items c.args.self.now.stopped
    c.in-Ok.field-0 c.in-Ok.ensures.pieces c.as_slice.ensures.value c.clear.ensures.items refl is

pub returns-in-Err-clause-shown : goal.returns-in-Err-clause-shown
returns-in-Err-clause-shown g c = λ text first lines moments is.
    showing_failed text first (g.K.Sink.pieces c.args.output.now) (g.K.Sink.pieces c.write_all_since.new.sink) lines moments c.args.self.now.latest
    c.args.self.now.bytes.items c.args.self.now.stopped (search rules) c.as_slice.result.now c.args.self.now.bytes.items (Some WriteFault) WriteFault
    c.in-Err.field-0 c.in-Err.ensures.pieces c.as_slice.ensures.value refl is
