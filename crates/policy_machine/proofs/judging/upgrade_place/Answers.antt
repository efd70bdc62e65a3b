use Rattle.policy_machine.proofs.Names.{◌≡◌, ◌≤◌, [], ◌∷◌, sym, ◌∙◌, arith, upgrade_of}
use Rattle.policy_machine.proofs.JudgeLemmas.{upgrade_from-first, upgrade_from-more, upgrade_from-other}
use Rattle.policy_machine.proofs.judging.upgrade_place.Goals as goal

pub returns-then-not-is_upgrade : goal.returns-then-not-is_upgrade
returns-then-not-is_upgrade c = λ before at number.
    at ∙ sym (upgrade_from-other 1 before c.args.command.now (sym c.is_upgrade.ensures ∙ c.if-not-is_upgrade.true))

pub returns-then-upgrade-eq0 : goal.returns-then-upgrade-eq0
returns-then-upgrade-eq0 c = λ before at number.
    let none : upgrade_of before ≡ 0 = sym at ∙ c.if-upgrade-eq0.true in
    let first = upgrade_from-first 1 before [] c.args.command.now (omega arith) (sym c.is_upgrade.ensures ∙ c.if-not-is_upgrade.false) none in
    omega (arith, first, number)

pub returns-else-upgrade-eq0 : goal.returns-else-upgrade-eq0
returns-else-upgrade-eq0 c = λ before at number.
    let some : 1 ≤ upgrade_of before = omega (arith, at, c.if-upgrade-eq0.false) in
    at ∙ sym (upgrade_from-more 1 before (c.args.command.now ∷ []) some)
