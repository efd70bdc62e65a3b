use Rattle.checkpoint_store.proofs.Names.{◌≡◌, ◌≤◌, [], ◌∷◌, refl, arith, eqb-false, IsDistinct}
use Rattle.checkpoint_store.proofs.ClaimedFile.{claimed_checkpoint, claimed_sound, claimed_spelled, claimed_stands}
use Rattle.checkpoint_store.proofs.worked.checkpoints_by_hand.Goals as goal

pub returns-clause-spelled : goal.returns-clause-spelled
returns-clause-spelled c = claimed_spelled

pub returns-clause-gates : goal.returns-clause-gates
returns-clause-gates c = (
  claimed_checkpoint,
  record { opened = refl; spelled = claimed_stands (7 ∷ 7 ∷ []); sound = claimed_sound },
  λ s is. let no : 0 ≡ 1 = is.opened in omega (arith, no),
  λ s is. let no : 2 ≡ 1 = is.opened in omega (arith, no),
  λ s is. let no : 0 ≡ 1 = is.opened in omega (arith, no),
)

pub returns-clause-unsound : goal.returns-clause-unsound
unfolding IsDistinct
returns-clause-unsound c = (
  λ s. eqb-false 7001 7001 s.distinct.0.0 refl,
  λ s. let no : 1 ≤ 0 = s.policies_in in omega (arith, no),
)
