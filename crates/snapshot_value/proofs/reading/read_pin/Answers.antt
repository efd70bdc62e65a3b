use Rattle.std.proofs.Common.{arith}
use Rattle.snapshot_value.proofs.ReadSteps.{lacking_then, left_to_unpin, made_then}
use Rattle.snapshot_value.proofs.reading.read_pin.Goals as goal

pub unpin-requires-clause-left : goal.unpin-requires-clause-left
unpin-requires-clause-left g c =
    left_to_unpin c.args.pin (g.T.Reader.gives c.args.plan) c.args.pass.now c.read_parts-read.new.pass c.read_parts-read.result c.requires.facts
    c.requires.held c.read_parts-read.ensures.made (omega (arith, c.requires.left))

pub returns-in-Ok-clause-made : goal.returns-in-Ok-clause-made
returns-in-Ok-clause-made g c =
    made_then c.args.pin (g.T.Reader.gives c.args.plan) c.unpin.result c.args.pass.now c.read_parts-read.new.pass c.unpin.new.pass c.requires.facts
    c.requires.held (omega (arith, c.requires.left)) c.unpin.ensures.turn c.in-Ok.made c.in-Ok.ensures.made

pub returns-in-Err-clause-made : goal.returns-in-Err-clause-made
returns-in-Err-clause-made g c =
    lacking_then c.args.pin (g.T.Reader.gives c.args.plan) c.unpin.result c.args.pass.now c.read_parts-read.new.pass c.unpin.new.pass c.requires.facts
    c.requires.held (omega (arith, c.requires.left)) c.unpin.ensures.turn c.in-Err.ensures.made
