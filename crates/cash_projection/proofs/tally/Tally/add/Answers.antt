use Rattle.cash_projection.proofs.Names.{◌≡◌, ◌<ℤ◌, ℤ, All, refl, sym, ◌∙◌, subst, arith, w32, to_z, of_z, ints, to_z-of_z, false≢true, Dated, IsPicked, nothing_ahead}
use Rattle.policy_value.specs.Rows.{IsInsured}
use Rattle.cash_projection.proofs.Adding.{nothing_idle}
use Rattle.cash_projection.proofs.Taking.{uninsured_taken, unnamed_taken, named_taken, picked_row}
use Rattle.cash_projection.proofs.tally.Tally.add.Goals as goal

pub returns-then-not-is_insured-clause-taken : goal.returns-then-not-is_insured-clause-taken
returns-then-not-is_insured-clause-taken c =
    let on : to_z w32 (of_z w32 c.args.on) ≡ c.args.on = to_z-of_z w32 c.args.on c.ranges.on in
    uninsured_taken c.args.basis.now c.args.on c.args.policy.now _ _
    (λ insured. false≢true (sym c.if-not-is_insured.true ∙ c.is_insured.ensures.1 (subst (λ (day : ℤ). IsInsured c.args.policy.now day) (sym on) insured)))
    (c.add_nothing.ensures (nothing_ahead 0) (nothing_idle 0) refl)

pub add_by-requires-clause-row : goal.add_by-requires-clause-row
add_by-requires-clause-row c =
    let found = c.in-Some.ensures.picked in
    picked_row c.args.basis.now _ c.in-Some.row found.0 c.in-Some.table.now found.1 found.2

pub returns-in-Some-clause-taken : goal.returns-in-Some-clause-taken
returns-in-Some-clause-taken c =
    let policy = c.args.policy.now in
    let issued : to_z w32 (of_z w32 policy.issued) ≡ policy.issued = omega (arith, ints, c.requires.sound.day_in.0, c.requires.sound.day_in.1) in
    let on : to_z w32 (of_z w32 c.args.on) ≡ c.args.on = to_z-of_z w32 c.args.on c.ranges.on in
    let found = c.in-Some.ensures.picked in
    let picked = subst (λ (day : ℤ). IsPicked c.args.basis.now day c.in-Some.row found.0) issued found.1 in
    let insured = subst (λ (day : ℤ). IsInsured policy day) on (c.is_insured.ensures.0 c.if-not-is_insured.false) in
    named_taken c.args.basis.now c.args.on policy _ _ c.in-Some.row found.0 insured picked
    (rw (← found.2) (rw on at c.add_by.ensures.taken))

pub returns-in-None-clause-taken : goal.returns-in-None-clause-taken
returns-in-None-clause-taken c =
    let policy = c.args.policy.now in
    let issued : to_z w32 (of_z w32 policy.issued) ≡ policy.issued = omega (arith, ints, c.requires.sound.day_in.0, c.requires.sound.day_in.1) in
    let on : to_z w32 (of_z w32 c.args.on) ≡ c.args.on = to_z-of_z w32 c.args.on c.ranges.on in
    let none = subst (λ (day : ℤ). All (λ (entry : Dated). day <ℤ entry.from_day) c.args.basis.now) issued c.in-None.ensures.picked in
    let insured = subst (λ (day : ℤ). IsInsured policy day) on (c.is_insured.ensures.0 c.if-not-is_insured.false) in
    unnamed_taken c.args.basis.now c.args.on policy _ _ insured none (c.add_nothing-in-None.ensures (nothing_ahead 1) (nothing_idle 1) refl)
