use Rattle.cash_projection.proofs.Names.{◌≡◌, ◌+◌, ◌∙◌, sym, subst, length-append, ap, length, arith, rules, AllByRecursion, IsProjectorFor}
use Rattle.cash_projection.proofs.Portioning.{all_behind}
use Rattle.cash_projection.proofs.sharing.projectors_for.Goals as goal

pub loop-preserved : goal.loop-preserved
loop-preserved c = record {
  room = search rules;
  many =
      let longer : length c.push_reserved.new.self.items ≡ length c.loop.projectors.items + 1 =
      ap length c.push_reserved.ensures.items ∙ length-append c.loop.projectors.items _ in omega (arith, c.loop.invariant.many, longer);
  each = subst (AllByRecursion (IsProjectorFor c.args.basis.now _ c.args.years)) (sym c.push_reserved.ensures.items)
      (all_behind (IsProjectorFor c.args.basis.now _ c.args.years) c.loop.projectors.items _ c.loop.invariant.each
      (record {
        takes = λ portion sound few. record { years = c.requires.years; right = c.in_ok-paths.ensures _; sound = sound; few = few };
        by = λ portion tally given. given;
      }));
}
