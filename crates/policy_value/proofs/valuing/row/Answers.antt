use Rattle.policy_value.proofs.Names.{◌≡◌, ℤ, refl, subst, rules, w32, to_z, of_z}
use Rattle.std.proofs.lemmas.Int.{to_z-of_z}
use Rattle.policy_value.specs.Rows.{IsInsured}
use Rattle.policy_value.proofs.Valued.{insured_row, uninsured_row}
use Rattle.policy_value.proofs.valuing.row.Goals as goal
use Rattle.policy_value.proofs.valuing.row.Goals.{then-is_insured, else-is_insured}

pub returns-clause-row : goal.returns-clause-row
returns-clause-row c =
    let policy = c.args.policy.now in
    let on : to_z w32 (of_z w32 c.args.on) ≡ c.args.on = to_z-of_z w32 c.args.on c.ranges.on in
    elim c.if-is_insured.branch [
      | then-is_insured w ↦ insured_row c.args.basis.now c.args.on c.args.measure policy _ refl refl
          (subst (λ (day : ℤ). IsInsured policy day) on (search rules))
          (rw w.t-is (rw on at w.value_by_basis.ensures.value)) (λ index entry picked. rw w.t-is (w.value_by_basis.ensures.exact index entry picked))
      | else-is_insured w ↦ uninsured_row c.args.basis.now c.args.on c.args.measure policy _ refl refl (search rules) (search rules)
          (search rules)
    ]
