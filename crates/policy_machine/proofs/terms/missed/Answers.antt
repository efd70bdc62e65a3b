use Rattle.policy_machine.proofs.Names.{◌≡◌, ◌≤◌, arith, rules, w32, to_z, of_z, to_z-of_z, payments_of}
use Rattle.policy_machine.proofs.MissedLemmas.{premiums_missed-by}
use Rattle.policy_machine.proofs.terms.missed.Goals as goal

pub returns-clause-value : goal.returns-clause-value
returns-clause-value c =
    let issued : to_z w32 (of_z w32 c.args.policy.issued) ≡ c.args.policy.issued = search rules in
    let day : to_z w32 (of_z w32 c.args.day) ≡ c.args.day = to_z-of_z c.ranges.day in
    let come = rw (issued, day) at c.completed-come.ensures in
    let most : payments_of c.args.policy ≤ 131 = omega (arith, c.payments.ensures.value, c.payments.ensures.bound c.requires.sound) in
    let is = premiums_missed-by c.args.policy c.args.day c.completed-come.result c.requires.sound come most in
    cc

pub returns-clause-bound : goal.returns-clause-bound
returns-clause-bound c = omega (arith, c.requires.sound.paid_in, c.payments.ensures.value, c.payments.ensures.bound c.requires.sound)
