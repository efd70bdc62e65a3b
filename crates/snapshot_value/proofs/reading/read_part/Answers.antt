use Rattle.std.proofs.Common.{arith}
use Rattle.snapshot_value.proofs.PinSteps.{known, part_read}
use Rattle.snapshot_value.proofs.reading.read_part.Goals as goal

pub overflow_mul-k : goal.overflow_mul-k
overflow_mul-k g c =
    omega (arith, (known c.args.pass.now c.args.pin.now c.requires.facts c.requires.held).few, c.requires.within)

pub returns-clause-read : goal.returns-clause-read
returns-clause-read g c =
    part_read c.read.result c.args.k c.read.new.batch c.args.pass.now c.read.new.pass c.args.pin.now c.requires.left c.read.ensures.turn
    c.requires.facts c.read.ensures.facts c.requires.held (c.read.ensures.pins c.args.pin.now c.requires.held)
