-- The stages of a store: what its disk may leave after each.
use Rattle.checkpoint_store.proofs.Names.{◌≡◌, ◌⊎◌, ◌↔◌, inl, inr, ⊎_elim, ℕ, Bool, true, false, IsTrue, List, ◌∷◌, length, drop, get_or, refl, sym, ◌∙◌, ap, subst, arith, Result, Ok, Err, IfOk, OnOk, cases_eq, cases_lt, Syncs, Ghosts, IsSafe, Leaves, LooksOn, Passes, leaves, leaves_more, leaves_on, looked, wider, Snapshot, CheckpointBytes, IsNoCheckpoint, IsSoundSnapshot, snapshot_bytes, StandBehindGate, AreShut, DifferInGate, IsKeptBy, IsKeptOrSavedBy, IsShut, Knows, KnowsGate, MightBeLeft, Store, StoreLeaves, GatesOn, HasOtherGate, LooksAtGate, OpensGateOn, StaysShut}
use Rattle.checkpoint_store.proofs.Behind.{alone_none, gate_first, gate_or, opened, shut_none}

-- what an answer has, it has more of
pub ok_map : {T E : Type 0} (r : Result T E) (P Q : T → Type 0) → ((x : T) → P x → Q x) → IfOk r P → IfOk r Q
ok_map (Ok x) P Q more has = more x has
ok_map (Err e) P Q more has = tt

pub ok_both : {T E : Type 0} (r : Result T E) (P Q : Type 0) → P → OnOk r Q → OnOk r (P × Q)
ok_both (Ok x) P Q p q = (p, q)
ok_both (Err e) P Q p q = tt

module _ {D : Type 0} (g : Ghosts D) where
  pub knows_shut : (closed : Bool) (disk : D) → IsTrue closed → KnowsGate g closed disk → AreShut g disk
  knows_shut true disk is knows = knows
  knows_shut false disk is knows = absurd (cc)

  pub shut_knows : (closed : Bool) (disk : D) → IsTrue closed → AreShut g disk → KnowsGate g closed disk
  shut_knows true disk is shut = shut
  shut_knows false disk is shut = absurd (cc)

  pub knows_differ : (closed : Bool) (disk : D) → closed ≡ false → KnowsGate g closed disk → DifferInGate g disk
  knows_differ true disk is knows = absurd (cc)
  knows_differ false disk is knows = knows

  pub differ_knows : (closed : Bool) (disk : D) → closed ≡ false → DifferInGate g disk → KnowsGate g closed disk
  differ_knows true disk is differ = absurd (cc)
  differ_knows false disk is differ = differ

  pub safe_differ : (disk : D) → IsSafe g disk → DifferInGate g disk
  safe_differ disk safe image left = ap (λ (l : List ℕ). drop 1 l) (safe image left)

  pub safe_shut : (disk : D) (rest : List ℕ) → IsSafe g disk → g.reads disk ≡ 0 ∷ rest → AreShut g disk
  safe_shut disk rest safe now image left = subst IsShut (sym (safe image left ∙ now)) (record { there = omega arith; shut = λ one. let no : 0 ≡ 1 = one in omega (arith, no) })

  pub differ_still : (old new : D) → DifferInGate g old → GatesOn g old new → DifferInGate g new
  differ_still old new differ gates image left = let from = gates.images image left in from.2 ∙ differ from.0 from.1 ∙ sym gates.rest

  pub other_gate : (old : D) (image : List ℕ) → DifferInGate g old → HasOtherGate g old image → IsNoCheckpoint image ⊎ (image ≡ 1 ∷ drop 1 (g.reads old))
  other_gate old image differ from = gate_or image (g.reads old) (from.2 ∙ differ from.0 from.1)

  -- since a moment there is no other
  abbrev OnlyNow : D → Type 0
  OnlyNow disk = (image : List ℕ) → g.left_since disk (g.clock disk) image → g.may_leave disk image

  pub regate_knows : (old new : D) (closed : Bool) → closed ≡ false → KnowsGate g closed old → GatesOn g old new → KnowsGate g closed new
  regate_knows old new closed unknown knows gates = differ_knows closed new unknown (differ_still old new (knows_differ closed old unknown knows) gates)

  -- a gate that wasn't known is written: an image from before, or a snapshot from before with its gate apart
  pub regate_left : (old new : Store D g) → old.closed ≡ false → Knows old → GatesOn g old.disk new.disk → Knows new → OnlyNow old.disk → StoreLeaves old new (IsKeptBy old)
  regate_left old new unknown knows gates later only_now = record {
    knows = later;
    moments = leaves g old.disk new.disk (IsKeptBy old) (λ image left. inr (inl (only_now image left)))
        (wider g old.disk new.disk (HasOtherGate g old.disk) (IsKeptBy old) gates.time each);
    kept = λ image might. elim might [
      | inl left ↦ each image (gates.images image left)
      | inr apart ↦ inr (inr (unknown, apart.1 ∙ ap (λ (l : List ℕ). 1 ∷ l) gates.rest))
    ];
  }
    where
      each : (image : List ℕ) → HasOtherGate g old.disk image → IsKeptBy old image
      each image from = ⊎_elim (λ none. inl none) (λ is. inr (inr (unknown, is))) (other_gate old.disk image (knows_differ old.closed old.disk unknown knows) from)

  shut_moments : (old : Store D g) (new : D) → StaysShut g old.disk new → OnlyNow old.disk → Leaves g old.disk new (IsKeptBy old)
  shut_moments old new shut only_now = leaves g old.disk new (IsKeptBy old) (λ image left. inr (inl (only_now image left)))
      (wider g old.disk new IsShut (IsKeptBy old) shut.time (λ image is. inl (shut_none image is)))

  -- what is written behind a closed gate
  pub shut_left : (old new : Store D g) → StaysShut g old.disk new.disk → IsTrue new.closed → OnlyNow old.disk → StoreLeaves old new (IsKeptBy old)
  shut_left old new shut closed only_now = record {
    knows = shut_knows new.closed new.disk closed shut.shut;
    moments = shut_moments old new.disk shut only_now;
    kept = λ image might. elim might [
      | inl left ↦ inl (shut_none image (shut.shut image left))
      | inr apart ↦ absurd (let no : new.closed ≡ false = apart.0 in cc)
    ];
  }

  -- The gate before a snapshot is opened.
  saved_on : {T E : Type 0} (old new : D) (s : Snapshot) (r : Result T E) → StandBehindGate (snapshot_bytes s) (g.reads old) → IsSoundSnapshot s
      → OnOk r (IsSafe g new × (g.reads new ≡ 1 ∷ drop 1 (g.reads old))) → OnOk r ((image : List ℕ) → g.may_leave new image → CheckpointBytes image s)
  saved_on old new s (Ok x) stands sound done = λ image left. opened (g.reads old) image s (done.0 image left ∙ done.1) stands sound
  saved_on old new s (Err e) stands sound done = tt

  pub opening : {T E : Type 0} (old new : D) (s : Snapshot) (r : Result T E) → IsSoundSnapshot s → StandBehindGate (snapshot_bytes s) (g.reads old)
      → IsSafe g old → GatesOn g old new → OnOk r (IsSafe g new × (g.reads new ≡ 1 ∷ drop 1 (g.reads old))) → OpensGateOn g old new s r
  opening old new s r sound stands safe gates done =
      let differ = safe_differ old safe in
      let each : (image : List ℕ) → HasOtherGate g old image → IsNoCheckpoint image ⊎ CheckpointBytes image s =
      λ image from. ⊎_elim (λ none. inl none) (λ is. inr (opened (g.reads old) image s is stands sound)) (other_gate old image differ from) in
      record {
        knows = differ_still old new differ gates;
        saved = saved_on old new s r stands sound done;
        moments = wider g old new (HasOtherGate g old) (λ image. IsNoCheckpoint image ⊎ CheckpointBytes image s) gates.time each;
        kept = λ image might. ⊎_elim (λ left. each image (gates.images image left))
            (λ apart. inr (opened (g.reads old) image s (apart.1 ∙ ap (λ (l : List ℕ). 1 ∷ l) gates.rest) stands sound)) might;
      }

  -- no checkpoint or the new one is no checkpoint, one from before or the new one
  or_new : (old : Store D g) (s : Snapshot) (image : List ℕ) → IsNoCheckpoint image ⊎ CheckpointBytes image s → IsKeptOrSavedBy old s image
  or_new old s image is = ⊎_elim (λ none. inl (inl none)) (λ new. inr new) is

  pub then_opened : {T E : Type 0} (old mid new : Store D g) (s : Snapshot) (r : Result T E) → StaysShut g old.disk mid.disk → OpensGateOn g mid.disk new.disk s r
      → new.closed ≡ false → OnlyNow old.disk → OnlyNow mid.disk → StoreLeaves old new (IsKeptOrSavedBy old s)
  then_opened old mid new s r shut opens unknown only_now only_mid = record {
    knows = differ_knows new.closed new.disk unknown opens.knows;
    moments = leaves_on g old.disk mid.disk new.disk (IsKeptBy old) (IsKeptOrSavedBy old s) (shut_moments old mid.disk shut only_now)
        (leaves g mid.disk new.disk (IsKeptOrSavedBy old s) (λ image left. inl (inl (shut_none image (shut.shut image (only_mid image left)))))
        (wider g mid.disk new.disk (λ image. IsNoCheckpoint image ⊎ CheckpointBytes image s) (IsKeptOrSavedBy old s) opens.moments (or_new old s)))
        (λ image is. inl is);
    kept = λ image might. or_new old s image (opens.kept image (subst (λ b. MightBeLeft g b new.disk image) unknown might));
  }

  -- what was left before the second stage was left before the first
  pub then_saved : (old mid new : Store D g) (s : Snapshot) → StoreLeaves old mid (IsKeptBy old) → StoreLeaves mid new (IsKeptOrSavedBy mid s)
      → StoreLeaves old new (IsKeptOrSavedBy old s)
  then_saved old mid new s first second = record {
    knows = second.knows;
    moments = leaves_on g old.disk mid.disk new.disk (IsKeptBy old) (IsKeptOrSavedBy old s) first.moments
        (leaves_more g mid.disk new.disk (IsKeptOrSavedBy mid s) (IsKeptOrSavedBy old s) second.moments earlier) (λ image is. inl is);
    kept = λ image might. earlier image (second.kept image might);
  }
    where
      earlier : (image : List ℕ) → IsKeptOrSavedBy mid s image → IsKeptOrSavedBy old s image
      earlier image (inr new) = inr new
      earlier image (inl (inl none)) = inl (inl none)
      earlier image (inl (inr might)) = inl (first.kept image might)

  pub not_new : (old new : Store D g) (s : Snapshot) → StoreLeaves old new (IsKeptBy old) → StoreLeaves old new (IsKeptOrSavedBy old s)
  not_new old new s left = record {
    knows = left.knows;
    moments = leaves_more g old.disk new.disk (IsKeptBy old) (IsKeptOrSavedBy old s) left.moments (λ image is. inl is);
    kept = λ image might. inl (left.kept image might);
  }

  -- a sync that is looked back on
  pub synced_looks : {T E : Type 0} (old new : D) (r : Result T E) → Syncs r (g.reads old) (g.reads new) (g.may_leave old) (g.may_leave new) → Passes g old new (g.may_leave new) → LooksOn g old new
  synced_looks old new r syncs time = looked g old new (record { reads = syncs.reads; images = syncs.images }) time

  pub looks_safe : (old new : D) → IsSafe g old → LooksOn g old new → IsSafe g new
  looks_safe old new safe looks image left = safe image (looks.images image left) ∙ sym looks.reads

  pub looked_at : (disk : D) (closed : Bool) → IsSafe g disk → IsTrue closed ↔ IsShut (g.reads disk) → LooksAtGate g disk closed
  looked_at disk true safe shut = record {
    safe = safe;
    knows = λ image left. subst IsShut (sym (safe image left)) (shut.0 refl);
    earlier = λ is. absurd (cc);
  }
  looked_at disk false safe shut = record {
    safe = safe;
    knows = safe_differ disk safe;
    earlier = λ is. elim (cases_lt 0 (length (g.reads disk))) [
      | inr none ↦ inl (alone_none (g.reads disk) (omega (arith, none)))
      | inl some ↦ elim (cases_eq (get_or (g.reads disk) 0 0) 1) [
        | inl one ↦ inr (sym (gate_first (g.reads disk) one))
        | inr other ↦ absurd (let no : IsTrue false = shut.1 (record { there = some; shut = other }) in cc)
      ]
    ];
  }

  pub opened_earlier : (old new : D) (closed : Bool) → LooksOn g old new → LooksAtGate g new closed → g.may_leave new (g.reads new)
      → (image : List ℕ) → MightBeLeft g closed new image → IsNoCheckpoint image ⊎ g.may_leave old image
  opened_earlier old new closed looks gate now image might = elim might [
    | inl left ↦ inr (looks.images image left)
    | inr apart ↦ elim (gate.earlier apart.0) [
      | inl none ↦ inl (subst IsNoCheckpoint (sym apart.1) none)
      | inr same ↦ inr (looks.images image (subst (λ i. g.may_leave new i) (sym (apart.1 ∙ same)) now))
    ]
  ]
