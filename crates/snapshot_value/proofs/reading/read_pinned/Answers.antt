use Rattle.std.proofs.Common.{arith}
use Rattle.snapshot_value.proofs.ReadSteps.{made_of_pin, others_kept, pin_refused}
use Rattle.snapshot_value.proofs.reading.read_pinned.Goals as goal

pub returns-in-Ok-clause-made : goal.returns-in-Ok-clause-made
returns-in-Ok-clause-made g c =
    made_of_pin (g.T.Reader.gives c.args.plan) c.args.at c.pin_as_asked-turn.result.turn c.args.pass.now c.pin_as_asked-turn.new.pass
    c.read_pin.new.pass c.in-Ok.pin (omega (arith, c.requires.left)) (rw c.in-Ok.is at c.pin_as_asked-turn.ensures.turn) (rw c.in-Ok.is at c.pin_as_asked-turn.ensures.held).0
    c.read_pin.result c.pin_as_asked-turn.ensures.facts (rw c.in-Ok.is at c.pin_as_asked-turn.ensures.held).1
    c.read_pin.ensures.made

pub returns-in-Ok-clause-pins : goal.returns-in-Ok-clause-pins
returns-in-Ok-clause-pins g c =
    others_kept (g.T.Reader.gives c.args.plan) c.args.at c.pin_as_asked-turn.result.turn c.args.pass.now c.pin_as_asked-turn.new.pass
    c.read_pin.new.pass c.in-Ok.pin (omega (arith, c.requires.left)) (rw c.in-Ok.is at c.pin_as_asked-turn.ensures.turn) (rw c.in-Ok.is at c.pin_as_asked-turn.ensures.held).0
    c.read_pin.new.pass c.pin_as_asked-turn.ensures.pins c.read_pin.ensures.pins

pub returns-in-Err-clause-made : goal.returns-in-Err-clause-made
returns-in-Err-clause-made g c =
    pin_refused (g.T.Reader.gives c.args.plan) c.args.at c.pin_as_asked-turn.result.turn c.args.pass.now c.pin_as_asked-turn.new.pass
    c.in-Err.refusal (omega (arith, c.requires.left)) (rw c.in-Err.is at c.pin_as_asked-turn.ensures.turn) c.pin_as_asked-turn.ensures.facts
