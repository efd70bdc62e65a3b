use Rattle.policy_machine.proofs.Names.{refl, arith, [], ◌∷◌, IsDistinct, PinAt, PinRefused, turn}
use Rattle.policy_types.specs.declared.entry.PinRefusal.TheVariants.{Ahead}
use Rattle.policy_machine.proofs.worked.merges.refused_valuation.Goals as goal

pub returns-clause-merge : goal.returns-clause-merge
unfolding IsDistinct
returns-clause-merge c = record {
  distinct = (tt, tt);
  theirs = ((0, omega arith, refl), tt);
  answers = (((0, turn 6 (PinAt 2) (PinRefused (Ahead 1))) ∷ [], ([], refl, (refl, refl), refl)), tt);
}
