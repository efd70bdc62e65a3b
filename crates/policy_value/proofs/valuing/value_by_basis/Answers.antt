use Rattle.policy_value.proofs.Names.{◌≡◌, ◌<ℤ◌, ℤ, All, sym, ap, ◌∙◌, refl, subst, arith, w32, to_z, of_z, Dated, IsPicked}
use Rattle.std.proofs.lemmas.Int.{ints, to_z-of_z}
use Rattle.basis_book.proofs.CallerLemmas.{none_picked, one_picked}
use Rattle.policy_value.proofs.valuing.value_by_basis.Goals as goal

pub returns-in-Some-clause-value : goal.returns-in-Some-clause-value
returns-in-Some-clause-value c =
    let issued : to_z w32 (of_z w32 c.args.policy.now.issued) ≡ c.args.policy.now.issued = omega (arith, ints, c.requires.sound.day_in.0, c.requires.sound.day_in.1) in
    let on : to_z w32 (of_z w32 c.args.on) ≡ c.args.on = to_z-of_z w32 c.args.on c.ranges.on in
    let found = c.in-Some.ensures.picked in
    let first = subst (λ (day : ℤ). IsPicked c.args.basis.now day c.in-Some.place found.0) issued found.1 in
    record {
      unnamed = λ none. absurd (none_picked c.args.basis.now c.args.policy.now.issued c.in-Some.place found.0 none first);
      named = λ index entry picked.
          let same = one_picked c.args.basis.now c.args.policy.now.issued c.in-Some.place index found.0 entry first picked in
          let table : entry.table ≡ c.in-Some.table.now = ap (λ (e : Dated). e.table) (sym same.1) ∙ sym found.2 in
          let bp : entry.bp ≡ c.in-Some.bp = ap (λ (e : Dated). e.bp) (sym same.1) ∙ sym found.3 in
          rw (table, bp) (rw on at c.value_by_table.ensures.value);
    }

pub returns-in-Some-clause-exact : goal.returns-in-Some-clause-exact
returns-in-Some-clause-exact c = λ index entry picked.
    let issued : to_z w32 (of_z w32 c.args.policy.now.issued) ≡ c.args.policy.now.issued = omega (arith, ints, c.requires.sound.day_in.0, c.requires.sound.day_in.1) in
    let found = c.in-Some.ensures.picked in
    let first = subst (λ (day : ℤ). IsPicked c.args.basis.now day c.in-Some.place found.0) issued found.1 in
    let same = one_picked c.args.basis.now c.args.policy.now.issued c.in-Some.place index found.0 entry first picked in
    let table : entry.table ≡ c.in-Some.table.now = ap (λ (e : Dated). e.table) (sym same.1) ∙ sym found.2 in
    let bp : entry.bp ≡ c.in-Some.bp = ap (λ (e : Dated). e.bp) (sym same.1) ∙ sym found.3 in
    rw (table, bp) c.value_by_table.ensures.exact

pub returns-in-None-clause-value : goal.returns-in-None-clause-value
returns-in-None-clause-value c =
    let issued : to_z w32 (of_z w32 c.args.policy.now.issued) ≡ c.args.policy.now.issued = omega (arith, ints, c.requires.sound.day_in.0, c.requires.sound.day_in.1) in
    let none = subst (λ (day : ℤ). All (λ (entry : Dated). day <ℤ entry.from_day) c.args.basis.now) issued c.in-None.ensures.picked in
    record {
      unnamed = λ none. (refl, refl);
      named = λ index entry picked. absurd (none_picked c.args.basis.now c.args.policy.now.issued index entry none picked);
    }

pub returns-in-Some-clause-keys : goal.returns-in-Some-clause-keys
returns-in-Some-clause-keys c =
    let issued : to_z w32 (of_z w32 c.args.policy.now.issued) ≡ c.args.policy.now.issued = omega (arith, ints, c.requires.sound.day_in.0, c.requires.sound.day_in.1) in
    let found = c.in-Some.ensures.picked in
    let first = subst (λ (day : ℤ). IsPicked c.args.basis.now day c.in-Some.place found.0) issued found.1 in
    record {
      unnamed = λ none. absurd (none_picked c.args.basis.now c.args.policy.now.issued c.in-Some.place found.0 none first);
      named = λ index entry picked.
          let same = one_picked c.args.basis.now c.args.policy.now.issued c.in-Some.place index found.0 entry first picked in
          let table : entry.table ≡ c.in-Some.table.now = ap (λ (e : Dated). e.table) (sym same.1) ∙ sym found.2 in
          rw (table, ← same.0) c.value_by_table.ensures.keys;
    }

pub returns-in-None-clause-keys : goal.returns-in-None-clause-keys
returns-in-None-clause-keys c =
    let issued : to_z w32 (of_z w32 c.args.policy.now.issued) ≡ c.args.policy.now.issued = omega (arith, ints, c.requires.sound.day_in.0, c.requires.sound.day_in.1) in
    let none = subst (λ (day : ℤ). All (λ (entry : Dated). day <ℤ entry.from_day) c.args.basis.now) issued c.in-None.ensures.picked in
    record {
      unnamed = λ none. refl;
      named = λ index entry picked. absurd (none_picked c.args.basis.now c.args.policy.now.issued index entry none picked);
    }

pub returns-in-None-clause-exact : goal.returns-in-None-clause-exact
returns-in-None-clause-exact c = λ index entry picked.
    let issued : to_z w32 (of_z w32 c.args.policy.now.issued) ≡ c.args.policy.now.issued = omega (arith, ints, c.requires.sound.day_in.0, c.requires.sound.day_in.1) in
    let none = subst (λ (day : ℤ). All (λ (entry : Dated). day <ℤ entry.from_day) c.args.basis.now) issued c.in-None.ensures.picked in
    absurd (none_picked c.args.basis.now c.args.policy.now.issued index entry none picked)
