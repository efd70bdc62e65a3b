use Rattle.policy_machine.proofs.Names.{refl, arith, Pin, Pinned, turn}
use Rattle.policy_machine.proofs.worked.reads.reads_of_257.Goals as goal

pub returns : goal.returns
returns c =
    let pin = turn 1 Pin (Pinned 257 257) in (
      (omega arith, refl, refl),
      (
        ((257, 257), refl, (pin, refl, refl), omega arith, refl),
        (
          ((257, 257), refl, (pin, refl, refl), omega arith, refl),
          (
            ((257, 257), refl, (pin, refl, refl), omega arith, refl),
            (((257, 257), refl, (pin, refl, refl)), tt),
          ),
        ),
      ),
    )
