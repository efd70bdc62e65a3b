-- The worked checkpoint is one.
use Rattle.checkpoint_store.proofs.Names.{◌≡◌, ℕ, List, [], ◌∷◌, ◌++◌, refl, sym, subst, ap, ◌∙◌, arith, length, take, true≢false, ints, IsDistinct, CheckpointBytes, IsSoundSnapshot, balance_bytes, policy_bytes, position_bytes, snapshot_bytes, StandBehindGate}
use Rattle.std.proofs.lemmas.List.{append-nil, take_at}
use Rattle.checkpoint_store.specs.Worked.{claimed_bytes, claimed_snapshot, issued_file, issued_snapshot}

pub claimed_spelled : snapshot_bytes claimed_snapshot ≡ claimed_bytes
unfolding balance_bytes policy_bytes position_bytes
claimed_spelled = refl

pub claimed_sound : IsSoundSnapshot claimed_snapshot
unfolding IsDistinct
claimed_sound = record {
  position_in = omega arith;
  upgrade_in = omega arith;
  policies_in = omega arith;
  balances_in = ((omega (arith, ints), omega (arith, ints)), (omega (arith, ints), omega (arith, ints)), (omega (arith, ints), omega (arith, ints)), (omega (arith, ints), omega (arith, ints)));
  sound = (
    record {
      issue_in = record { id_in = (omega arith, omega arith); day_in = (omega (arith, ints), omega (arith, ints)); age_in = omega arith; years_in = (omega arith, omega arith); amount_in = (omega arith, omega arith); premium_in = (omega arith, omega arith) };
      paid_in = omega arith;
      last_after = omega (arith, ints);
      last_in = (omega (arith, ints), omega (arith, ints));
      outstanding_in = omega arith;
      outstanding_when = (λ some. refl, λ awaits. omega arith);
    },
    tt,
  );
  distinct = (tt, tt);
}

pub claimed_stands : (more : List ℕ) → StandBehindGate (snapshot_bytes claimed_snapshot) (1 ∷ claimed_bytes ++ more)
claimed_stands more =
    let part : List ℕ = snapshot_bytes claimed_snapshot in
    ap (λ (l : List ℕ). take (length part) (l ++ more)) (sym claimed_spelled) ∙ take_at part more (length part) refl

pub claimed_checkpoint : CheckpointBytes (1 ∷ claimed_bytes) claimed_snapshot
claimed_checkpoint = record {
  opened = refl;
  spelled = subst (λ (l : List ℕ). StandBehindGate (snapshot_bytes claimed_snapshot) (1 ∷ l)) (append-nil claimed_bytes) (claimed_stands []);
  sound = claimed_sound;
}

pub issued_sound : IsSoundSnapshot issued_snapshot
unfolding IsDistinct
issued_sound = record {
  position_in = omega arith;
  upgrade_in = omega arith;
  policies_in = omega arith;
  balances_in = ((omega (arith, ints), omega (arith, ints)), (omega (arith, ints), omega (arith, ints)), (omega (arith, ints), omega (arith, ints)), (omega (arith, ints), omega (arith, ints)));
  sound = (
    record {
      issue_in = record { id_in = (omega arith, omega arith); day_in = (omega (arith, ints), omega (arith, ints)); age_in = omega arith; years_in = (omega arith, omega arith); amount_in = (omega arith, omega arith); premium_in = (omega arith, omega arith) };
      paid_in = omega arith;
      last_after = omega (arith, ints);
      last_in = (omega (arith, ints), omega (arith, ints));
      outstanding_in = omega arith;
      outstanding_when = (λ some. absurd (omega (arith, some)), λ awaits. absurd (true≢false (sym awaits)));
    },
    tt,
  );
  distinct = (tt, tt);
}

pub issued_checkpoint : CheckpointBytes issued_file issued_snapshot
issued_checkpoint =
    let part : List ℕ = snapshot_bytes issued_snapshot in
    record {
      opened = refl;
      spelled = ap (λ (l : List ℕ). take (length part) l) (sym (append-nil part)) ∙ take_at part [] (length part) refl;
      sound = issued_sound;
    }
