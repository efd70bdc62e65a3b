use Rattle.snapshot_value.proofs.ValueSteps.{valued_so}
use Rattle.snapshot_value.proofs.valuing.value.Goals as goal

pub returns-clause-valued : goal.returns-clause-valued
returns-clause-valued g c =
    valued_so c.args.query.basis.now c.args.query.on c.args.query.measure c.args.at c.args.query.workers c.read_pinned.result.turn c.args.pass.now
    c.read_pinned.new.pass c.read_pinned.result.answer c.read_pinned.ensures.made
