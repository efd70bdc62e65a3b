use Rattle.policy_machine.proofs.Names.{refl, IsDistinct, eqb-false}
use Rattle.policy_machine.proofs.worked.merges.own_lines.Goals as goal

pub returns-clause-shared : goal.returns-clause-shared
unfolding IsDistinct
returns-clause-shared c = λ merge. eqb-false 6 6 merge.distinct.0.0 refl
