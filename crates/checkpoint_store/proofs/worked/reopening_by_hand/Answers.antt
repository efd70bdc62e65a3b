use Rattle.checkpoint_store.proofs.Names.{◌≡◌, ◌⊎◌, inl, inr, ℕ, List, [], ◌∷◌, length, refl, sym, subst, ap, ◌∙◌, arith, None, ints, length-map, judge, IsValid, Snapshot, CheckpointBytes, IsFaultOfTwo, IsSnapshotOfAll, IsSnapshotOfFront, IsStartOf}
use Rattle.std.proofs.lemmas.Option.{none-some}
use Rattle.policy_types.specs.declared.refusal.Refusal.TheVariants.{Taken}
use Rattle.policy_types.specs.declared.command.Command.TheVariants.{Upgrade}
use Rattle.record_codec.specs.Spelling.{spelling_of}
use Rattle.record_codec.proofs.SpellingLemmas.{one_command}
use Rattle.checkpoint_store.specs.Worked.{claimed_bytes, claimed_snapshot, issue_of_7001, issued_file, issued_snapshot, two_bodies, upgraded_snapshot}
use Rattle.checkpoint_store.proofs.ClaimedFile.{claimed_checkpoint, issued_checkpoint}
use Rattle.checkpoint_store.proofs.OneSnapshot.{all_or_bad, one_of_all, one_snapshot}
use Rattle.checkpoint_store.proofs.worked.reopening_by_hand.Goals as goal

is_claimed : (s : Snapshot) → CheckpointBytes (1 ∷ claimed_bytes) s → s.position ≡ 4
is_claimed s is = ap (λ (t : Snapshot). t.position) (one_snapshot (1 ∷ claimed_bytes) s claimed_snapshot is claimed_checkpoint)

issue_valid : IsValid issue_of_7001
issue_valid = record { id_in = (omega arith, omega arith); day_in = (omega (arith, ints), omega (arith, ints)); age_in = omega arith; years_in = (omega arith, omega arith); amount_in = (omega arith, omega arith); premium_in = (omega arith, omega arith) }

issued_front : IsSnapshotOfFront two_bodies issued_snapshot
issued_front = record {
  commands = issue_of_7001 ∷ [];
  spelled = refl;
  valid = (issue_valid, tt);
  accepted = (refl, tt);
  snapshot = record { position = refl; upgrade = refl; ledger = refl; policies = refl };
}

upgraded_all : IsSnapshotOfAll two_bodies upgraded_snapshot
upgraded_all = record {
  commands = issue_of_7001 ∷ Upgrade ∷ [];
  spelled = refl;
  valid = (issue_valid, (tt, tt));
  accepted = (refl, (refl, tt));
  snapshot = record { position = refl; upgrade = refl; ledger = refl; policies = refl };
}

closed_start : (count : ℕ) → IsStartOf (0 ∷ claimed_bytes) count 0
closed_start count = record {
  found = λ s is le. let not_open : 0 ≡ 1 = is.opened in absurd (omega (arith, not_open));
  none = λ nothing. refl;
}

pub returns-clause-starts : goal.returns-clause-starts
returns-clause-starts c = (
  record {
    start = 4;
    begun = record { found = λ s is le. sym (is_claimed s is); none = λ nothing. absurd (nothing claimed_snapshot claimed_checkpoint (omega arith)) };
    steps = refl;
  },
  record {
    start = 0;
    begun = record { found = λ s is le. let four = is_claimed s is in absurd (omega (arith, four, le)); none = λ nothing. refl };
    steps = refl;
  },
  record { start = 0; begun = closed_start 5; steps = refl },
  λ taken. let from_zero = taken.begun.none (λ s is le. let not_open : 0 ≡ 1 = is.opened in omega (arith, not_open)) in let steps = taken.steps in omega (arith, from_zero, steps),
)

pub returns-clause-front : goal.returns-clause-front
returns-clause-front c = (
  λ s is le. subst (IsSnapshotOfFront two_bodies) (one_snapshot issued_file issued_snapshot s issued_checkpoint is) issued_front,
  λ s is le. let one : s.position ≡ 1 = ap (λ (t : Snapshot). t.position) (one_snapshot issued_file s issued_snapshot is issued_checkpoint) in absurd (omega (arith, one, le)),
  λ every.
      let front = every issued_snapshot issued_checkpoint in
      let none : 0 ≡ length front.commands = ap (λ (l : List (List ℕ)). length l) front.spelled ∙ length-map front.commands spelling_of in
      let one : 1 ≡ length front.commands = front.snapshot.position in
      omega (arith, none, one),
)

refused : judge (issue_of_7001 ∷ []) issue_of_7001 ≡ None → ⊥
refused none = none-some Taken (sym none)

pub returns-clause-bad : goal.returns-clause-bad
returns-clause-bad c = (
  record {
    start = 0;
    begun = record { found = λ s is le. let not_open : 0 ≡ 1 = is.opened in absurd (omega (arith, not_open)); none = λ nothing. refl };
    from = omega arith;
    bad = record {
      commands = issue_of_7001 ∷ [];
      within = omega arith;
      counted = refl;
      spelled = refl;
      valid = (issue_valid, tt);
      accepted = (refl, tt);
      none = λ command is valid accepted.
          let same : command ≡ issue_of_7001 =
          one_command (spelling_of command) command issue_of_7001 (record { valid = valid; spelled = refl }) (record { valid = issue_valid; spelled = sym is }) in
          refused (subst (λ d. judge (issue_of_7001 ∷ []) d ≡ None) same accepted);
    };
  },
  λ shown. all_or_bad two_bodies upgraded_snapshot 1 upgraded_all shown.bad,
)

pub returns-clause-reopened : goal.returns-clause-reopened
returns-clause-reopened c = (
  upgraded_all,
  λ other. let positions : 2 ≡ 1 = ap (λ (s : Snapshot). s.position) (one_of_all two_bodies upgraded_snapshot issued_snapshot upgraded_all other) in omega (arith, positions),
)

pub returns-clause-faults : goal.returns-clause-faults
returns-clause-faults c = (
  inl (refl, omega arith, refl),
  inr (refl, omega arith, refl),
  λ shown. neither shown,
  λ shown. let quiet : 1 ≡ 0 = shown.0 in omega (arith, quiet),
)
  where
    neither : IsFaultOfTwo 0 0 3 3 3 ⊎ IsFaultOfTwo 3 3 0 0 3 → ⊥
    neither (inl shown) = let rose = shown.1 in omega (arith, rose)
    neither (inr shown) = let rose = shown.1 in omega (arith, rose)
