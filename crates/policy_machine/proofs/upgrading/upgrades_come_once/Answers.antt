use Rattle.policy_machine.proofs.Names.{refl, arith, Upgrade}
use Rattle.policy_machine.proofs.JudgeLemmas.{accepted_paid_up, accepted_upgrade, second_refused, upgrade_from-first}
use Rattle.policy_machine.proofs.upgrading.upgrades_come_once.Goals as goal

pub returns-clause-place : goal.returns-clause-place
returns-clause-place c = λ front rest none. let place = upgrade_from-first 1 front rest Upgrade (omega arith) refl none in omega (arith, place)

pub returns-clause-again : goal.returns-clause-again
returns-clause-again c = second_refused

pub returns-clause-once : goal.returns-clause-once
returns-clause-once c = accepted_upgrade

pub returns-clause-before : goal.returns-clause-before
returns-clause-before c = accepted_paid_up
