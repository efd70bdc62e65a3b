-- What was counted or refused is what the file shows.
use Rattle.posting_journal.proofs.Names.{◌≡◌, ◌⊎◌, inl, inr, ⊎_elim, ℕ, zero, suc, ◌<◌, ◌≤◌, min, List, [], ◌∷◌, ◌++◌, length, take, drop, get_or, refl, sym, ◌∙◌, ap, subst, arith, Result, Ok, Err, IfOk, IfErr, get_or_append_left, get_or_push, length_push, length-take, take_min, take_at, cases_eq, Syncs, Ghosts, gate_place, body_place, IsMade, IsClosed, IsJournal, IsUnfinished, EndsAt, IsBadFrom, ShowsWhy, OpenedTo, LooksOn, IsSafe, Passes}
use Rattle.posting_journal.specs.Opening.{IsOpenedOn, OpensOn, HasSynced}
use Rattle.posting_journal.specs.declared.faults.Unopened.{Unopened}
use Rattle.posting_journal.specs.declared.faults.Unopened.TheVariants.{Unread, NotAJournal, BadRecord}
use Rattle.posting_journal.proofs.Moments.{leaves, wider, goes_on, looked, looks_on}

-- a fact of an answer from two others
pub ok_from : {T E : Type 0} (result : Result T E) (P Q R : T → Type 0) → IfOk result P → IfOk result Q → ((x : T) → P x → Q x → R x) → IfOk result R
ok_from (Ok x) P Q R p q both = both x p q
ok_from (Err e) P Q R p q both = tt

pub ok_always : {T E : Type 0} (result : Result T E) (P : Type 0) → P → IfOk result (λ x. P)
ok_always (Ok x) P p = p
ok_always (Err e) P p = tt

pub err_from : {T E : Type 0} (result : Result T E) (P Q : E → Type 0) → IfErr result P → ((e : E) → P e → Q e) → IfErr result Q
err_from (Ok x) P Q p more = tt
err_from (Err e) P Q p more = more e p

-- the first bytes that were read into a buffer
pub read_front : (bytes zeros front : List ℕ) (size many : ℕ) → length zeros ≡ 18 → many ≡ min size 18 → size ≡ length bytes → front ≡ take (length (take many zeros)) bytes → take 18 bytes ≡ take many (front ++ drop many zeros)
read_front bytes zeros front size many room is told read =
    let asked : length (take many zeros) ≡ many = omega (arith, length-take many zeros) in
    let filled : front ≡ take many bytes = subst (λ n. front ≡ take n bytes) asked read in
    let long : length front ≡ many = omega (arith, ap (λ (l : List ℕ). length l) filled, length-take many bytes) in
    let least : min 18 (length bytes) ≡ many = omega arith in
    sym (take_min 18 bytes) ∙ ap (λ n. take n bytes) least ∙ sym filled ∙ sym (take_at front (drop many zeros) many long)

-- the bodies of the first records
bodies_to : ℕ → List ℕ → List (List ℕ)
bodies_to zero bytes = []
bodies_to (suc n) bytes = bodies_to n bytes ++ take 64 (drop (body_place n) bytes) ∷ []

length-bodies_to : (n : ℕ) (bytes : List ℕ) → length (bodies_to n bytes) ≡ n
unfolding bodies_to
length-bodies_to zero bytes = refl
length-bodies_to (suc n) bytes = omega (arith, length_push (bodies_to n bytes) (take 64 (drop (body_place n) bytes)), length-bodies_to n bytes)

get_or-bodies_to : (n : ℕ) (bytes : List ℕ) (k : ℕ) → k < n → get_or (bodies_to n bytes) k [] ≡ take 64 (drop (body_place k) bytes)
unfolding bodies_to
get_or-bodies_to zero bytes k lt = absurd (omega arith)
get_or-bodies_to (suc n) bytes k lt = elim (cases_eq k n) [
  | inl last ↦ get_or_push (bodies_to n bytes) (take 64 (drop (body_place n) bytes)) [] k (length-bodies_to n bytes ∙ sym last) ∙ ap (λ m. take 64 (drop (body_place m) bytes)) (sym last)
  | inr other ↦ get_or_append_left (bodies_to n bytes) (take 64 (drop (body_place n) bytes) ∷ []) [] k (omega (arith, lt, other, length-bodies_to n bytes)) ∙ get_or-bodies_to n bytes k (omega (arith, lt, other))
]

pub record Counted (bytes : List ℕ) (n : ℕ) : Type 0 where
  pub bodies : List (List ℕ)
  pub size : length bodies ≡ n
  pub journal : IsJournal bytes bodies

pub counted : (bytes : List ℕ) (n : ℕ) → IsMade bytes → n ≤ 4000000 → EndsAt bytes n → Counted bytes n
counted bytes n made few ends =
    let size = length-bodies_to n bytes in
    record {
      bodies = bodies_to n bytes;
      size = size;
      journal = record {
        made = made;
        records = λ k lt. let within : k < n = omega (arith, lt, size) in (ends.gates k within, sym (get_or-bodies_to n bytes k within));
        end = subst (λ m. IsClosed bytes m) (sym size) ends.end;
        few = omega (arith, size, few);
      };
    }

pub bad_shown : (bytes : List ℕ) (cause : Unopened) → IsMade bytes → IsBadFrom bytes cause → ShowsWhy bytes cause
bad_shown bytes Unread made bad = tt
bad_shown bytes NotAJournal made bad = absurd bad
bad_shown bytes (BadRecord n) made bad = record {
  made = made;
  gates = λ k le. elim (cases_eq k n) [
    | inl last ↦ subst (λ m. get_or bytes (gate_place m) 0 ≡ 1) (sym last) bad.1
    | inr other ↦ (bad.0).gates k (omega (arith, le, other))
  ];
  long = (bad.0).long;
  few = (bad.0).few;
  here = bad.2;
}

module _ {D : Type 0} (g : Ghosts D) (old new : D) where
  pub safe_stays : LooksOn g old new → IsSafe g old → IsSafe g new
  safe_stays looks safe image left = safe image (looks.images image left) ∙ sym looks.reads

  -- a journal that was counted
  pub made_opened : (n : ℕ) → LooksOn g old new → IsSafe g old → IsMade (g.reads old) → n ≤ 4000000 → EndsAt (g.reads old) n → OpenedTo g old new n
  made_opened n looks safe made few ends =
      let c = counted (g.reads old) n made few ends in
      record {
        bodies = c.bodies;
        opened = inl c.journal;
        holds = subst (λ b. IsJournal b c.bodies) (sym looks.reads) c.journal;
        counted = sym c.size;
        safe = safe_stays looks safe;
      }

-- An opening is a sync, and then the opening of what is safe.
module _ {D T E : Type 0} (g : Ghosts D) (old mid new : D) (synced : Result T E) where
  module _ (facts : Syncs synced (g.reads old) (g.reads mid) (g.may_leave old) (g.may_leave mid)) (time : Passes g old mid (g.may_leave mid)) (then : Passes g mid new (IsOpenedOn (g.reads mid))) where
    same : (image : List ℕ) → IsOpenedOn (g.reads mid) image → IsOpenedOn (g.reads old) image
    same image = subst (λ b. IsOpenedOn b image) facts.reads

    pub opens_ever : ((image : List ℕ) → g.left_since old (g.clock old) image → g.may_leave old image) → (¬ IsUnfinished (g.reads mid) → LooksOn g mid new) → HasSynced g old new → OpensOn g old new
    opens_ever only_now looks at_sync = record {
      ever =
          let P = λ (image : List ℕ). g.may_leave old image ⊎ IsOpenedOn (g.reads old) image in
          leaves g old new P (λ image left. inl (only_now image left))
          (goes_on g old mid new P (wider g old mid (g.may_leave mid) P time (λ image left. inl (facts.images image left)))
          (wider g mid new (IsOpenedOn (g.reads mid)) P then (λ image opening. inr (same image opening))));
      synced = inr at_sync;
      unwritten = λ finished. looks_on g old mid new (looked g old mid (record { reads = facts.reads; images = facts.images }) time)
          (looks (λ unfinished. finished (subst (λ b. IsUnfinished b) facts.reads unfinished)));
    }

    pub opens_synced : g.honest mid → ((image : List ℕ) → g.left_since mid (g.clock mid) image → g.may_leave mid image) → IsSafe g mid → HasSynced g old new
    opens_synced honest only_now safe = record {
      synced = mid;
      at_sync = record { honest = honest; reads = facts.reads; safe = safe; later = time.later; passed = then.later };
      since = λ image left. same image (⊎_elim (λ past. inl (safe image (only_now image past))) (λ now. now) (then.nothing_else (g.clock mid) image (omega arith) left));
    }

-- An opening whose sync failed wrote nothing.
pub opens_unsynced : {D T E : Type 0} (g : Ghosts D) (old new : D) (result : Result T E)
    → Syncs result (g.reads old) (g.reads new) (g.may_leave old) (g.may_leave new) → Passes g old new (g.may_leave new)
    → ((image : List ℕ) → g.left_since old (g.clock old) image → g.may_leave old image) → OpensOn g old new
opens_unsynced g old new result facts time only_now =
    let looks = looked g old new (record { reads = facts.reads; images = facts.images }) time in
    let P = λ (image : List ℕ). g.may_leave old image ⊎ IsOpenedOn (g.reads old) image in
    record {
      ever = leaves g old new P (λ image left. inl (only_now image left))
          (wider g old new (g.may_leave new) P time (λ image left. inl (facts.images image left)));
      synced = inl looks;
      unwritten = λ finished. looks;
    }
