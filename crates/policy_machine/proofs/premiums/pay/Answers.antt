use Rattle.policy_machine.proofs.Names.{◌≡◌, true, false, ◌==◌, int_lt, rules, pos, ◌-ℤ◌, w32, to_z, of_z, due_of}
use Rattle.std.proofs.lemmas.Bool.{ne_eqb}
use Rattle.policy_machine.proofs.premiums.pay.Goals as goal

pub returns-then-amount-policy : goal.returns-then-amount-policy
returns-then-amount-policy c =
    let day : to_z w32 (of_z w32 c.args.day) ≡ c.args.day = search rules in
    let in_time : int_lt c.args.day (due_of c.args.policy -ℤ pos 90) ≡ false = search rules in
    let other = ne_eqb c.args.amount c.args.policy.premium c.if-amount-policy.true in
    rw (rw day at c.in_ok-not_before_last.ensures, c.in_ok-in_force.ensures, rw day at c.in_ok-within_term.ensures, c.in_ok-something_due.ensures, in_time, rw day at c.in_ok-within_grace.ensures, other)

pub returns : goal.returns
returns c =
    let day : to_z w32 (of_z w32 c.args.day) ≡ c.args.day = search rules in
    let issued : to_z w32 (of_z w32 c.args.policy.issued) ≡ c.args.policy.issued = search rules in
    let in_time : int_lt c.args.day (due_of c.args.policy -ℤ pos 90) ≡ false = search rules in
    let right : (c.args.amount == c.args.policy.premium) ≡ true = search rules in
    rw (rw day at c.in_ok-not_before_last.ensures, c.in_ok-in_force.ensures, rw day at c.in_ok-within_term.ensures, c.in_ok-something_due.ensures, in_time, rw day at c.in_ok-within_grace.ensures, right, issued, day)
