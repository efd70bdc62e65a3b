use Rattle.std.proofs.Common.{◌≤◌, length, arith}
use Rattle.policy_machine.proofs.worked.postings.openings.Goals as goal

pub returns-clause-limit : goal.returns-clause-limit
returns-clause-limit c = λ commands faults long opening.
    let few : length commands ≤ 4000000 = opening.few in omega arith
