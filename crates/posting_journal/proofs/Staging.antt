-- What the two steps of adding a record do on an honest disk.
use Rattle.posting_journal.proofs.Names.{◌≡◌, ℕ, ◌<◌, ◌≤◌, List, [], ◌∷◌, ◌++◌, length, sym, ap, ◌∙◌, refl, subst, arith, length-append, Bool, true, false, IsTrue, Result, Ok, Err, OnOk, MatchResult, Torn, Ghosts, gate_place, body_place, IsJournal, IsStaged, IsSafe, Leaves, PutsOn, TornOf}
use Rattle.posting_journal.specs.States.{IsKept}
use Rattle.posting_journal.proofs.Bytes.{written_torn}
use Rattle.posting_journal.proofs.Moments.{leaves, wider}
use Rattle.posting_journal.proofs.Written.{torn_stage, torn_gate, written_stage}

-- what is read after a write, whole or failed
pub put_torn : {D T E : Type 0} (g : Ghosts D) (old new : D) (at : ℕ) (bytes : List ℕ) (result : Result T E) → at ≤ length (g.reads old) → PutsOn g old new at bytes result → Torn at (length bytes) (g.reads old) (g.reads new)
put_torn g old new at bytes (Ok x) within puts = written_torn (g.reads old) at bytes (g.reads new) within puts.facts.written
put_torn g old new at bytes (Err e) within puts = puts.facts.failed

pub record Staging {D T E : Type 0} (g : Ghosts D) (old new : D) (bodies : List (List ℕ)) (body : List ℕ) (result : Result T E) : Type 0 where
  pub reads : IsJournal (g.reads new) bodies
  pub images : (image : List ℕ) → g.may_leave new image → IsJournal image bodies
  pub staged : OnOk result (IsStaged (g.reads new) bodies body × IsSafe g new)
  pub moments : Leaves g old new (λ image. IsJournal image bodies)

staged_done : {D T E : Type 0} (g : Ghosts D) (old new : D) (bodies : List (List ℕ)) (body : List ℕ) (result : Result T E) → length bodies < 4000000 → length body ≡ 64 → IsJournal (g.reads old) bodies
    → PutsOn g old new (body_place (length bodies)) (body ++ 0 ∷ []) result → OnOk result (IsStaged (g.reads new) bodies body × IsSafe g new)
staged_done g old new bodies body (Ok x) fewer size journal puts = (written_stage bodies body (g.reads old) (g.reads new) fewer size journal puts.facts.written, puts.durable)
staged_done g old new bodies body (Err e) fewer size journal puts = tt

pub staging : {D T E : Type 0} (g : Ghosts D) (old new : D) (bodies : List (List ℕ)) (body : List ℕ) (result : Result T E) → length bodies < 4000000 → length body ≡ 64 → IsJournal (g.reads old) bodies
    → ((image : List ℕ) → g.may_leave old image → IsJournal image bodies) → ((image : List ℕ) → g.left_since old (g.clock old) image → g.may_leave old image)
    → PutsOn g old new (body_place (length bodies)) (body ++ 0 ∷ []) result → Staging g old new bodies body result
staging g old new bodies body result fewer size journal images only_now puts =
    let long : length (body ++ 0 ∷ []) ≡ 65 = omega (arith, length-append body (0 ∷ []), size) in
    let within : body_place (length bodies) ≤ length (g.reads old) = omega (arith, journal.end.0) in
    let keeps : (before after : List ℕ) → IsJournal before bodies → Torn (body_place (length bodies)) (length (body ++ 0 ∷ [])) before after → IsJournal after bodies =
    λ before after was torn. torn_stage bodies before after was (subst (λ many. Torn (body_place (length bodies)) many before after) long torn) in
    record {
      reads = keeps (g.reads old) (g.reads new) journal (put_torn g old new (body_place (length bodies)) (body ++ 0 ∷ []) result within puts);
      images = λ image left. let from = puts.facts.images image left in keeps from.0 image (images from.0 from.1) from.2;
      staged = staged_done g old new bodies body result fewer size journal puts;
      moments = leaves g old new (λ image. IsJournal image bodies) (λ image left. images image (only_now image left))
          (wider g old new (TornOf g old (body_place (length bodies)) (length (body ++ 0 ∷ []))) (λ image. IsJournal image bodies) puts.time
          (λ image from. keeps from.0 image (images from.0 from.1) from.2));
    }

-- A write of one byte over the gate before a staged body.
pub record Gating {D : Type 0} (g : Ghosts D) (old new : D) (bodies : List (List ℕ)) (body : List ℕ) : Type 0 where
  pub reads : IsStaged (g.reads new) bodies body
  pub images : (image : List ℕ) → g.may_leave new image → IsStaged image bodies body
  pub moments : Leaves g old new (λ image. IsStaged image bodies body)

pub gating : {D T E : Type 0} (g : Ghosts D) (old new : D) (bodies : List (List ℕ)) (body : List ℕ) (byte : ℕ) (result : Result T E) → IsStaged (g.reads old) bodies body
    → ((image : List ℕ) → g.may_leave old image → IsStaged image bodies body) → ((image : List ℕ) → g.left_since old (g.clock old) image → g.may_leave old image)
    → PutsOn g old new (gate_place (length bodies)) (byte ∷ []) result → Gating g old new bodies body
gating g old new bodies body byte result staged images only_now puts =
    let within : gate_place (length bodies) ≤ length (g.reads old) = omega (arith, staged.end.0) in
    record {
      reads = torn_gate bodies body (g.reads old) (g.reads new) staged (put_torn g old new (gate_place (length bodies)) (byte ∷ []) result within puts);
      images = λ image left. let from = puts.facts.images image left in torn_gate bodies body from.0 image (images from.0 from.1) from.2;
      moments = leaves g old new (λ image. IsStaged image bodies body) (λ image left. images image (only_now image left))
          (wider g old new (TornOf g old (gate_place (length bodies)) 1) (λ image. IsStaged image bodies body) puts.time
          (λ image from. torn_gate bodies body from.0 image (images from.0 from.1) from.2));
    }

-- the same write, told by other terms
pub puts_at : {D T E : Type 0} (g : Ghosts D) (old new : D) (at place : ℕ) (bytes same : List ℕ) (result : Result T E) → PutsOn g old new at bytes result → at ≡ place → bytes ≡ same → PutsOn g old new place same result
puts_at g old new at place bytes same result puts here is =
    subst (λ b. PutsOn g old new place b result) is (subst (λ a. PutsOn g old new a bytes result) here puts)

-- what holds of what is read holds of each image
pub each_safe : {D : Type 0} (g : Ghosts D) (disk : D) (P : List ℕ → Type 0) → IsSafe g disk → P (g.reads disk) → (image : List ℕ) → g.may_leave disk image → P image
each_safe g disk P safe reads image left = subst P (sym (safe image left)) reads

-- A journal that is clean, or isn't.
pub kept_clean : (clean : Bool) (bodies : List (List ℕ)) (faulted bytes : List ℕ) → IsTrue clean → IsKept clean bodies faulted bytes → IsJournal bytes bodies
kept_clean true bodies faulted bytes is kept = kept
kept_clean false bodies faulted bytes is kept = absurd (cc)

pub clean_kept : (clean : Bool) (bodies : List (List ℕ)) (faulted bytes : List ℕ) → IsTrue clean → IsJournal bytes bodies → IsKept clean bodies faulted bytes
clean_kept true bodies faulted bytes is journal = journal
clean_kept false bodies faulted bytes is journal = absurd (cc)

pub kept_unclean : (clean : Bool) (bodies : List (List ℕ)) (faulted bytes : List ℕ) → clean ≡ false → IsKept clean bodies faulted bytes → IsStaged bytes bodies faulted
kept_unclean true bodies faulted bytes is kept = absurd (cc)
kept_unclean false bodies faulted bytes is kept = kept

pub unclean_kept : (clean : Bool) (bodies : List (List ℕ)) (faulted bytes : List ℕ) → clean ≡ false → IsStaged bytes bodies faulted → IsKept clean bodies faulted bytes
unclean_kept true bodies faulted bytes is staged = absurd (cc)
unclean_kept false bodies faulted bytes is staged = staged

-- A record was written behind the gate that ends the records of a clean journal.
pub record_staged : {D T E : Type 0} (g : Ghosts D) (old new : D) (clean : Bool) (count at : ℕ) (bodies : List (List ℕ)) (faulted body record_bytes : List ℕ) (result : Result T E) → IsTrue clean → count < 4000000 → length body ≡ 64
    → count ≡ length bodies → IsKept clean bodies faulted (g.reads old) → ((image : List ℕ) → g.may_leave old image → IsKept clean bodies faulted image)
    → ((image : List ℕ) → g.left_since old (g.clock old) image → g.may_leave old image) → at ≡ body_place count → record_bytes ≡ body ++ 0 ∷ [] → PutsOn g old new at record_bytes result → Staging g old new bodies body result
record_staged g old new clean count at bodies faulted body record_bytes result is fewer size counted reads images only_now here same puts =
    staging g old new bodies body result (omega (arith, fewer, counted)) size (kept_clean clean bodies faulted (g.reads old) is reads)
    (λ image left. kept_clean clean bodies faulted image is (images image left)) only_now
    (puts_at g old new at (body_place (length bodies)) record_bytes (body ++ 0 ∷ []) result puts (here ∙ ap body_place counted) same)

-- The gate before a staged body, which was made safe, was written.
pub gate_written : {D T E : Type 0} (g : Ghosts D) (old new : D) (count at byte : ℕ) (bodies : List (List ℕ)) (body : List ℕ) (result : Result T E) → count ≡ length bodies → IsStaged (g.reads old) bodies body × IsSafe g old
    → ((image : List ℕ) → g.left_since old (g.clock old) image → g.may_leave old image) → at ≡ gate_place count → PutsOn g old new at (byte ∷ []) result → Gating g old new bodies body
gate_written g old new count at byte bodies body result counted staged only_now here puts =
    gating g old new bodies body byte result staged.0 (each_safe g old (λ image. IsStaged image bodies body) staged.1 staged.0) only_now
    (puts_at g old new at (gate_place (length bodies)) (byte ∷ []) (byte ∷ []) result puts (here ∙ ap gate_place counted) refl)

-- What was done was told.
pub told_ok : {T E F : Type 0} (done : Result T E) (result : Result T F) (value : T) (fault : F) (P : Type 0) → result ≡ Ok value → MatchResult done (λ u. result ≡ Ok u) (λ f. result ≡ Err fault) → OnOk done P → P
told_ok (Ok u) result value fault P is told holds = holds
told_ok (Err e) result value fault P is told holds = absurd (cc)
