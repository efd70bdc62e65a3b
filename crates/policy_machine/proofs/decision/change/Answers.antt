use Rattle.std.proofs.Common.{◌≡◌, rules, w32, to_z, of_z}
use Rattle.policy_machine.proofs.decision.change.Goals as goal

pub returns-in-Reinstate : goal.returns-in-Reinstate
returns-in-Reinstate c =
    let day : to_z w32 (of_z w32 c.in-Reinstate.day) ≡ c.in-Reinstate.day = search rules in
    rw c.in-Reinstate.is (rw day at c.reinstate.ensures)
