-- What the writes of a store do to its disk.
use Rattle.checkpoint_store.proofs.Names.{◌≡◌, inl, ℕ, ◌≤◌, List, [], ◌∷◌, length, drop, ◌∙◌, ap, arith, Result, Ok, Err, OnOk, Syncs, Writes, Ghosts, IsSafe, Passes, goes_on, wider, AreShut, IsShut, GatesOn, HasOtherGate, StaysShut}
use Rattle.checkpoint_store.proofs.Behind.{shut_torn}

module _ {D : Type 0} (g : Ghosts D) where
  pub written_gate : {T E : Type 0} (old mid : D) (gate : ℕ) (w : Result T E) → Writes 0 (gate ∷ []) w (g.reads old) (g.reads mid) (g.may_leave old) (g.may_leave mid)
      → Passes g old mid (g.may_leave mid) → GatesOn g old mid
  written_gate old mid gate (Ok x) facts time =
      let images : (image : List ℕ) → g.may_leave mid image → HasOtherGate g old image = λ image left. let from = facts.images image left in (from.0, from.1, from.2.after) in
      let now : g.reads mid ≡ gate ∷ drop 1 (g.reads old) = facts.written in
      record { rest = ap (λ (l : List ℕ). drop 1 l) now; images = images; time = wider g old mid (g.may_leave mid) (HasOtherGate g old) time images }
  written_gate old mid gate (Err e) facts time =
      let images : (image : List ℕ) → g.may_leave mid image → HasOtherGate g old image = λ image left. let from = facts.images image left in (from.0, from.1, from.2.after) in
      record { rest = facts.failed.after; images = images; time = wider g old mid (g.may_leave mid) (HasOtherGate g old) time images }

  pub gate_done : {T E : Type 0} (old mid new : D) (gate : ℕ) (s : Result T E) → g.reads mid ≡ gate ∷ drop 1 (g.reads old)
      → Syncs s (g.reads mid) (g.reads new) (g.may_leave mid) (g.may_leave new) → OnOk s (IsSafe g new × (g.reads new ≡ gate ∷ drop 1 (g.reads old)))
  gate_done old mid new gate (Ok x) now syncs = (syncs.durable, syncs.reads ∙ now)
  gate_done old mid new gate (Err e) now syncs = tt

  pub gate_synced : {U F : Type 0} (old mid new : D) (s : Result U F) → GatesOn g old mid → Syncs s (g.reads mid) (g.reads new) (g.may_leave mid) (g.may_leave new)
      → Passes g mid new (g.may_leave new) → GatesOn g old new
  gate_synced old mid new s r syncs later =
      let images : (image : List ℕ) → g.may_leave new image → HasOtherGate g old image = λ image left. r.images image (syncs.images image left) in
      record {
        rest = ap (λ (l : List ℕ). drop 1 l) syncs.reads ∙ r.rest;
        images = images;
        time = goes_on g old mid new (HasOtherGate g old) r.time (wider g mid new (g.may_leave new) (HasOtherGate g old) later images);
      }

  -- a write behind closed gates
  pub shut_write : {T E : Type 0} (old new : D) (at : ℕ) (bytes : List ℕ) (w : Result T E) → 1 ≤ at → Writes at bytes w (g.reads old) (g.reads new) (g.may_leave old) (g.may_leave new)
      → Passes g old new (g.may_leave new) → AreShut g old → StaysShut g old new
  shut_write old new at bytes w behind facts time shut =
      let images : (image : List ℕ) → g.may_leave new image → IsShut image =
      λ image left. let from = facts.images image left in shut_torn at (length bytes) from.0 image behind (shut from.0 from.1) from.2 in
      record { shut = images; time = wider g old new (g.may_leave new) IsShut time images }

  pub shut_sync : {T E : Type 0} (old new : D) (s : Result T E) → Syncs s (g.reads old) (g.reads new) (g.may_leave old) (g.may_leave new)
      → Passes g old new (g.may_leave new) → AreShut g old → StaysShut g old new
  shut_sync old new s syncs time shut =
      let images : (image : List ℕ) → g.may_leave new image → IsShut image = λ image left. shut image (syncs.images image left) in
      record { shut = images; time = wider g old new (g.may_leave new) IsShut time images }

  pub shut_none_yet : (disk : D) → AreShut g disk → StaysShut g disk disk
  shut_none_yet disk shut = record { shut = shut; time = record { later = omega arith; nothing_else = λ moment image le left. inl left; keeps = λ moment image le left. left } }

  pub shut_on : (old mid new : D) → StaysShut g old mid → StaysShut g mid new → StaysShut g old new
  shut_on old mid new first second = record { shut = second.shut; time = goes_on g old mid new IsShut first.time second.time }
