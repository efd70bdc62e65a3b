use Rattle.program_endings.proofs.Names.{◌≡◌, ◌<◌, [], ◌∷◌, sym, subst, refl, inl, inr, pos, lit<, arith, Accepted, Blank, Entry}
use Rattle.policy_types.specs.declared.command.Command.TheVariants.{Lapse}
use Rattle.program_endings.proofs.ReplyNames.{IsPinned}
use Rattle.program_endings.specs.Worked.{pinned_turn, lapse_turn}
use Rattle.program_endings.proofs.WorkedEndings.{same_some, no_blank, no_faulted}
use Rattle.program_endings.proofs.worked.replies_of_a_few_turns.Goals as goal

pub returns-clause-answered : goal.returns-clause-answered
returns-clause-answered c = (
  (((refl, λ no. cc), ((refl, λ no. cc), ((refl, λ no. cc), tt))), refl),
  (λ h. let no : 0 ∷ [] ≡ [] = h.1 in cc),
  (λ h. h.0.1.0.1 refl),
  (λ h. let no = h.0.0.0 in cc),
  ((pinned_turn, refl, (5, 2, refl)), tt),
  (λ h.
      let same : lapse_turn (Accepted 6) ≡ h.0.0 = same_some (lapse_turn (Accepted 6)) h.0.0 h.0.1 in
      let pinned : IsPinned (Accepted 6) = subst (λ (it : Entry). IsPinned it.reply) (sym same) h.0.2 in
      let no = pinned.2 in
      cc),
)

pub returns-clause-wants : goal.returns-clause-wants
returns-clause-wants c = (
  ((refl, tt), inr (0, (0, lit< tt, refl))),
  ((refl, tt), inl (0, (lapse_turn Blank, refl, refl))),
  (λ h. elim h.1 [
    | inl blank ↦ no_blank blank.0 blank.1.0 blank.1.1 blank.1.2
    | inr dry ↦ let none : dry.1.0 < 0 = dry.1.1 in omega arith
  ]),
  (λ h. let no = h.0.1.0 in cc),
  ([], (Lapse 7001 (pos 18262), record { before = pinned_turn ∷ []; caller = 1; count = 4; after = []; turns = refl; then = refl })),
  (λ h. no_faulted h.1.1.before h.1.1.after h.1.1.caller h.1.1.count h.1.0 h.1.1.turns),
)
