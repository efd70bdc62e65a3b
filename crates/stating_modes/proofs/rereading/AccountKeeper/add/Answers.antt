use Rattle.stating_modes.proofs.Names.{◌≡◌, ℕ, ◌==◌, true, false, List, [], ◌∷◌, ◌++◌, length, refl, ap, sym, ◌∙◌, subst, Option, Some, Ok, arith, IfSome, Command, Policy, id_of, IsSound, next, IsAccount}
use Rattle.std.proofs.lemmas.Bool.{eq-eqb, ne_eqb}
use Rattle.std.proofs.lemmas.List.{length_push}
use Rattle.policy_machine.proofs.JudgeLemmas.{named-no_upgrade}
use Rattle.stating_modes.proofs.ReadingSteps.{account_other, account_own, account_own_policy, account_sound}
use Rattle.stating_modes.proofs.rereading.AccountKeeper.add.Goals as goal

pub returns-then-id-self-clause-kept : goal.returns-then-id-self-clause-kept
returns-then-id-self-clause-kept c = λ (commands : List Command) (holds : IsAccount c.args.self.now commands) (each : length commands ≡ c.args.n).
    let other : (id_of c.args.command.now == c.args.self.now.id) ≡ false =
    ne_eqb (id_of c.args.command.now) c.args.self.now.id (λ h. c.if-id-self.true (c.id.ensures ∙ h)) in
    account_other c.args.self.now commands c.args.command.now holds c.requires.valid other

pub returns-then-id-self-clause-takes : goal.returns-then-id-self-clause-takes
returns-then-id-self-clause-takes c =
    let commands : List Command = c.requires.takes.1.0 in
    let counted : length commands ≡ c.args.n = c.requires.takes.1.2 in (
      c.requires.takes.0,
      (
        commands ++ c.args.command.now ∷ [],
        returns-then-id-self-clause-kept c commands c.requires.takes.1.1 counted,
        omega (arith, length_push commands c.args.command.now, counted),
      ),
    )

pub decide-requires-clause-named : goal.decide-requires-clause-named
decide-requires-clause-named c =
    let own : id_of c.args.command.now ≡ c.args.self.now.id = sym c.id.ensures ∙ c.if-id-self.false in
    named-no_upgrade c.args.command.now (omega (arith, own, c.requires.takes.0))

pub decide-requires-clause-own : goal.decide-requires-clause-own
decide-requires-clause-own c =
    let own : id_of c.args.command.now ≡ c.args.self.now.id = sym c.id.ensures ∙ c.if-id-self.false in
    subst (λ (p : Option Policy). IfSome p (λ q. q.id ≡ id_of c.args.command.now)) (sym c.as_ref.ensures.value)
    (subst (λ (id : ℕ). IfSome c.args.self.now.policy (λ q. q.id ≡ id)) (sym own) (account_own_policy c.args.self.now c.requires.takes.1.0 c.requires.takes.1.1))

pub decide-requires-clause-sound : goal.decide-requires-clause-sound
decide-requires-clause-sound c =
    subst (λ (p : Option Policy). IfSome p IsSound) (sym c.as_ref.ensures.value)
    (account_sound c.args.self.now c.requires.takes.1.0 c.requires.takes.1.1)

pub returns-clause-kept : goal.returns-clause-kept
returns-clause-kept c = λ (commands : List Command) (holds : IsAccount c.args.self.now commands) (each : length commands ≡ c.args.n).
    let own : (id_of c.args.command.now == c.args.self.now.id) ≡ true =
    eq-eqb (id_of c.args.command.now) c.args.self.now.id (sym c.id.ensures ∙ c.if-id-self.false) in
    let decided : next c.args.self.now.policy c.args.command.now ≡ Ok c.in-Ok.policy =
    ap (λ (p : Option Policy). next p c.args.command.now) (sym c.as_ref.ensures.value) ∙ sym c.in-Ok.ensures.decided in
    account_own c.args.self.now (record { id = c.args.self.now.id; entries = c.push.new.items; policy = Some c.in-Ok.policy }) commands
    c.args.command.now c.in-Ok.policy c.args.n holds c.requires.valid each own refl c.in-Ok-push.ensures.items refl decided

pub returns-clause-takes : goal.returns-clause-takes
returns-clause-takes c =
    let commands : List Command = c.requires.takes.1.0 in
    let counted : length commands ≡ c.args.n = c.requires.takes.1.2 in (
      c.requires.takes.0,
      (
        commands ++ c.args.command.now ∷ [],
        returns-clause-kept c commands c.requires.takes.1.1 counted,
        omega (arith, length_push commands c.args.command.now, counted),
      ),
    )
