use Rattle.std.proofs.Common.{◌∙◌, [], ◌∷◌, ◌++◌, arith}
use Rattle.versioned_book.proofs.VersionSteps.{trim_step_at, trim_stop_at}
use Rattle.versioned_book.proofs.past.Past.unneeded.Goals as goal

pub returns-then-floor-next-clause-rest : goal.returns-then-floor-next-clause-rest
returns-then-floor-next-clause-rest g c =
    c.loop-count.invariant.1 ∙ trim_stop_at c.args.floor c.loop-count.count (c.args.self.now.older.items ++ c.args.newest ∷ []) c.version-next.result c.version-next.ensures c.if-floor-next.true

pub loop-count-preserved : goal.loop-count-preserved
loop-count-preserved g c = (
  omega (arith, c.loop-count-test.true, c.len.ensures),
  c.loop-count.invariant.1 ∙ trim_step_at c.args.floor c.loop-count.count (c.args.self.now.older.items ++ c.args.newest ∷ []) c.version-next.result c.version-next.ensures c.if-floor-next.false,
)
