use Rattle.snapshot_value.proofs.Names.{◌≡◌, ◌+◌, ◌∙◌, sym, subst, length-append, ap, length, arith, rules, AllByRecursion, IsReadyWorker, ValuesBy}
use Rattle.snapshot_value.proofs.RowSteps.{all_append}
use Rattle.snapshot_value.proofs.worksheet.workers_for.Goals as goal

pub loop-preserved : goal.loop-preserved
loop-preserved c = record {
  room = search rules;
  many =
      let longer : length c.push_reserved.new.self.items ≡ length c.loop.workers.items + 1 =
      ap length c.push_reserved.ensures.items ∙ length-append c.loop.workers.items _ in omega (arith, c.loop.invariant.many, longer);
  ready = subst (AllByRecursion IsReadyWorker) (sym c.push_reserved.ensures.items)
      (all_append IsReadyWorker c.loop.workers.items _ c.loop.invariant.ready ((λ policy sound. (c.in_ok-cache.ensures.right _, sound)), tt));
  by = subst (AllByRecursion (ValuesBy c.args.basis.now _ c.args.measure)) (sym c.push_reserved.ensures.items)
      (all_append (ValuesBy c.args.basis.now _ c.args.measure) c.loop.workers.items _ c.loop.invariant.by ((λ policy row given. given), tt));
}
