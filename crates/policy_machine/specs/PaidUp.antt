-- What can become of a paid-up policy
use Rattle.std.specs.Prelude.{◌≡◌, false}
use Rattle.policy_types.specs.declared.policy.Policy.{Policy}
use Rattle.policy_machine.specs.Names.{status_eq, InForce, Lapsed}

-- its amount and the number of its premiums paid stay, and it is never in force or lapsed again
pub record StaysPaidUp (before after : Policy) : Type 0 where
  pub same_amount : after.amount ≡ before.amount
  pub same_paid : after.paid ≡ before.paid
  pub not_in_force_again : status_eq.it after.status InForce ≡ false
  pub not_lapsed_again : status_eq.it after.status Lapsed ≡ false
