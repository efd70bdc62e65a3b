-- What a worked run's calls leave.
use Rattle.life_app.proofs.Names.{◌≡◌, ◌≢◌, ◌⊎◌, ℕ, ◌<◌, ◌≤◌, Bool, true, false, List, [], ◌∷◌, ◌++◌, length, take, drop, get_or, refl, sym, ◌∙◌, ap, subst, inl, inr, lit≤, lit<, arith, length-append, cases_eq, le-leb, FileCall, WrittenTo, file_reads, writes_within, sync_failed, SafeUnless, AreAllowed, FileImage, FileLeft, left_only_now, Command, HasRecords, IsJournal, IsStaged, Leaves, spelling_of, JournalBytes, Opens, Unsynced, called, creation, called_disk, fails, looks, posts, stages, untorn}
use Rattle.std.specs.Prelude.{nat_le, slice_index, ◌&&◌}
use Rattle.outside_io.specs.Disks.{Torn}
use Rattle.posting_journal.specs.Creation.{IsUnfinished}
use Rattle.posting_journal.specs.Layout.{body_place, gate_place, header}
use Rattle.posting_journal.proofs.Bytes.{same_behind, same_byte, written_torn}
use Rattle.posting_journal.proofs.Written.{staged_either, torn_gate, torn_stage, within, written_opened, written_stage}

abbrev pub Image : List ℕ → List FileCall → List ℕ → Type 0
Image first calls image = FileImage first untorn Unsynced calls image

abbrev pub Left : List ℕ → List FileCall → ℕ → List ℕ → Type 0
Left first calls moment image = FileLeft first untorn Unsynced calls moment image

abbrev pub reads : List ℕ → List FileCall → List ℕ
reads first calls = file_reads first untorn calls

-- a crash leaves what is read
abbrev pub AreSafe : List ℕ → List FileCall → Type 0
AreSafe first calls = (image : List ℕ) → Image first calls image → image ≡ reads first calls

not_yet : (file image : List ℕ) → (image ≡ file) ⊎ Unsynced image → image ≡ file
not_yet file image (inl same) = same
not_yet file image (inr none) = absurd none

is_safe : (failed : Bool) (safe before : Type 0) → failed ≡ false → SafeUnless failed safe before → safe
is_safe true safe before none left = cc
is_safe false safe before none left = left

pub both_true : (a b : Bool) → a ≡ true → b ≡ true → (a && b) ≡ true
both_true true b one other = other
both_true false b one other = cc

-- A record is posted after those of these bodies.
module _ (first : List ℕ) (calls : List FileCall) (bodies : List (List ℕ)) (command : Command)
    (few : length bodies < 4000000) (size : length (spelling_of command) ≡ 64)
    (journal : IsJournal (reads first calls) bodies) (safe : AreSafe first calls) (unfailed : sync_failed calls ≡ false) where
  body : List ℕ
  body = spelling_of command

  record_size : length (spelling_of command ++ 0 ∷ []) ≡ 65
  record_size = omega (arith, length-append (spelling_of command) (0 ∷ []), size)

  pub is_staged : IsStaged (reads first (stages (length bodies) command calls)) bodies (spelling_of command)
  is_staged = written_stage bodies (spelling_of command) (reads first calls) (reads first (stages (length bodies) command calls)) few size journal refl

  pub is_posted : IsJournal (reads first (posts (length bodies) command calls)) (bodies ++ spelling_of command ∷ [])
  is_posted = written_opened bodies (spelling_of command) (reads first (stages (length bodies) command calls))
      (reads first (posts (length bodies) command calls)) is_staged refl

  staging : (image : List ℕ) → Image first (WrittenTo (body_place (length bodies)) (spelling_of command ++ 0 ∷ []) true ∷ calls) image → IsJournal image bodies
  staging image left =
      torn_stage bodies (reads first calls) image journal
      (subst (λ (e : List ℕ). Torn (body_place (length bodies)) 65 e image) (safe left.0 left.1)
      (subst (λ (m : ℕ). Torn (body_place (length bodies)) m left.0 image) record_size left.2))

  -- after the closed gate it is none yet
  pub is_still : IsJournal (reads first (stages (length bodies) command calls)) bodies
  is_still =
      torn_stage bodies (reads first calls) (reads first (stages (length bodies) command calls)) journal
      (subst (λ (m : ℕ). Torn (body_place (length bodies)) m (reads first calls) (reads first (stages (length bodies) command calls))) record_size
      (written_torn (reads first calls) (body_place (length bodies)) (spelling_of command ++ 0 ∷ []) (reads first (stages (length bodies) command calls))
      (omega (arith, journal.end.0)) refl))

  pub staged_safe : AreSafe first (stages (length bodies) command calls)
  staged_safe image left = is_safe _ _ _ unfailed left

  opening : (image : List ℕ) → Image first (WrittenTo (gate_place (length bodies)) (1 ∷ []) true ∷ stages (length bodies) command calls) image
      → IsStaged image bodies (spelling_of command)
  opening image left =
      torn_gate bodies (spelling_of command) (reads first (stages (length bodies) command calls)) image is_staged
      (subst (λ (e : List ℕ). Torn (gate_place (length bodies)) 1 e image) (staged_safe left.0 left.1) left.2)

  pub posted_safe : AreSafe first (posts (length bodies) command calls)
  posted_safe image left = is_safe _ _ _ unfailed left

  -- what a crash may leave since a moment
  pub posted_left : (moment : ℕ) (image : List ℕ) → Left first (posts (length bodies) command calls) moment image
      → Left first calls moment image ⊎ (IsJournal image bodies ⊎ IsJournal image (bodies ++ spelling_of command ∷ []))
  posted_left moment image (inl (inl (inl (inl before)))) = inl before
  posted_left moment image (inl (inl (inl (inr now)))) = inr (inl (staging image now.1))
  posted_left moment image (inl (inl (inr now))) =
      inr (staged_either bodies (spelling_of command) image (subst (λ (e : List ℕ). IsStaged e bodies (spelling_of command)) (sym (staged_safe image now.1)) is_staged))
  posted_left moment image (inl (inr now)) = inr (staged_either bodies (spelling_of command) image (opening image now.1))
  posted_left moment image (inr now) =
      inr (inr (subst (λ (e : List ℕ). IsJournal e (bodies ++ spelling_of command ∷ [])) (sym (posted_safe image now.1)) is_posted))

  -- if the last sync failed, the record is there or not
  pub failed_image : (image : List ℕ) → Image first (fails (length bodies) command calls) image → IsJournal image bodies ⊎ IsJournal image (bodies ++ spelling_of command ∷ [])
  failed_image image left = staged_either bodies (spelling_of command) image (opening image left)

  pub failed_left : (moment : ℕ) (image : List ℕ) → Left first (fails (length bodies) command calls) moment image
      → Left first calls moment image ⊎ (IsJournal image bodies ⊎ IsJournal image (bodies ++ spelling_of command ∷ []))
  failed_left moment image (inr now) = inr (failed_image image now.1)
  failed_left moment image (inl before) = posted_left moment image (inl before)

  -- the same as a step of a run
  step_leaves : (new : List FileCall) → length calls ≤ length new
      → ((moment : ℕ) (image : List ℕ) → Left first new moment image
      → Left first calls moment image ⊎ (IsJournal image bodies ⊎ IsJournal image (bodies ++ spelling_of command ∷ [])))
      → Leaves called (called_disk first calls) (called_disk first new)
      (λ (image : List ℕ). IsJournal image bodies ⊎ IsJournal image (bodies ++ spelling_of command ∷ []))
  step_leaves new later left_by = record {
    later = later;
    each = λ image left. elim (left_by (length calls) image left) [
      | inl before ↦ inl (subst (λ (e : List ℕ). IsJournal e bodies) (sym (safe image (left_only_now first untorn Unsynced calls image before))) journal)
      | inr now ↦ now
    ];
    before = λ moment image passed left. left_by moment image left;
  }

  pub posting_leaves : Leaves called (called_disk first calls) (called_disk first (posts (length bodies) command calls))
      (λ (image : List ℕ). IsJournal image bodies ⊎ IsJournal image (bodies ++ spelling_of command ∷ []))
  posting_leaves = step_leaves (posts (length bodies) command calls) (omega arith) posted_left

  pub failing_leaves : Leaves called (called_disk first calls) (called_disk first (fails (length bodies) command calls))
      (λ (image : List ℕ). IsJournal image bodies ⊎ IsJournal image (bodies ++ spelling_of command ∷ []))
  failing_leaves = step_leaves (fails (length bodies) command calls) (omega arith) failed_left

  pub posted_within : writes_within first untorn calls ≡ true → writes_within first untorn (posts (length bodies) command calls) ≡ true
  posted_within before =
      both_true (nat_le (gate_place (length bodies)) (length (reads first (stages (length bodies) command calls)))) (writes_within first untorn (stages (length bodies) command calls))
      (le-leb (gate_place (length bodies)) (length (reads first (stages (length bodies) command calls))) (omega (arith, is_staged.end.0)))
      (both_true (nat_le (body_place (length bodies)) (length (reads first calls))) (writes_within first untorn calls)
      (le-leb (body_place (length bodies)) (length (reads first calls)) (omega (arith, journal.end.0))) before)

-- ---- a file is looked at

pub looks_safe : (n : ℕ) (file : List ℕ) → AreSafe file (looks n file)
looks_safe n file image left = left

pub looks_allowed : (n : ℕ) (file : List ℕ) → AreAllowed file untorn (looks n file)
looks_allowed n file = ((((tt, tt), refl), refl), refl)

pub looks_left : (n : ℕ) (file : List ℕ) (moment : ℕ) (image : List ℕ) → Left file (looks n file) moment image → image ≡ file
looks_left n file moment image (inr now) = now.1
looks_left n file moment image (inl (inr now)) = now.1
looks_left n file moment image (inl (inl (inr now))) = now.1
looks_left n file moment image (inl (inl (inl (inr now)))) = now.1
looks_left n file moment image (inl (inl (inl (inl before)))) = not_yet file image before.1

-- ---- the creation

no_commands : (image : List ℕ) → IsUnfinished image → Opens image []
no_commands image unfinished = inr (refl, unfinished)

no_records : (image : List ℕ) → HasRecords image []
no_records image n within = absurd (omega arith)

-- byte 0 alone may be torn in a journal without records
last_step : (image : List ℕ) → Torn 0 1 (0 ∷ header ++ 0 ∷ []) image → Opens image []
last_step image torn =
    let long : length image ≡ 18 = omega (arith, torn.no_shorter, torn.no_longer) in
    let same : take 16 (drop 1 image) ≡ header = ap (take 16) torn.after in
    let gate : slice_index image 17 ≡ 0 = same_behind 1 16 (0 ∷ header ++ 0 ∷ []) image torn.after in
    let closed : slice_index image 17 ≢ 1 = λ one. let no : 0 ≡ 1 = sym gate ∙ one in omega (arith, no) in
    elim (cases_eq (get_or image 0 0) 0) [
      | inl begun ↦ no_commands image (inr (inl (omega (arith, long), begun)))
      | inr not_begun ↦ elim (cases_eq (get_or image 0 0) 1) [
        | inl made ↦ inl (record {
          records = record {
            made = record { finished = made; header = same };
            records = no_records image;
            end = (omega (arith, long), closed);
            few = lit≤ tt;
          };
          valid = tt;
          accepted = tt;
        })
        | inr not_made ↦ no_commands image (inr (inr (long, same, closed, not_made)))
      ]
    ]

-- the same for one byte that says that the creation goes on, and what comes after it
second_step : (image : List ℕ) → Torn 1 17 (0 ∷ []) image → Opens image []
second_step image torn = no_commands image (inr (inl (torn.no_longer, same_byte 1 0 (0 ∷ []) image torn.before (lit< tt))))

pub created : IsJournal (reads [] creation) []
created = record {
  made = record { finished = refl; header = refl };
  records = no_records (reads [] creation);
  end = (lit< tt, λ one. let no : 0 ≡ 1 = one in omega (arith, no));
  few = lit≤ tt;
}

pub first_bytes : JournalBytes (reads [] creation) []
first_bytes = record { records = created; valid = tt; accepted = tt }

pub creation_safe : AreSafe [] creation
creation_safe image left = left

as_read : (image bytes : List ℕ) → image ≡ bytes → Opens bytes [] → Opens image []
as_read image bytes same opens = subst (λ (e : List ℕ). Opens e []) (sym same) opens

nothing : (image : List ℕ) → image ≡ [] → Opens image []
nothing image same = as_read image [] same (no_commands [] (inl (lit≤ tt)))

pub creation_left : (moment : ℕ) (image : List ℕ) → Left [] creation moment image → Opens image []
creation_left moment image (inr now) = as_read image (reads [] creation) now.1 (inl first_bytes)
creation_left moment image (inl (inr now)) =
    last_step image (subst (λ (e : List ℕ). Torn 0 1 e image) now.1.1 now.1.2)
creation_left moment image (inl (inl (inr now))) =
    as_read image (0 ∷ header ++ 0 ∷ []) now.1 (no_commands (0 ∷ header ++ 0 ∷ []) (inr (inl (lit≤ tt, refl))))
creation_left moment image (inl (inl (inl (inr now)))) =
    second_step image (subst (λ (e : List ℕ). Torn 1 17 e image) now.1.1 now.1.2)
creation_left moment image (inl (inl (inl (inl (inr now))))) = as_read image (0 ∷ []) now.1 (no_commands (0 ∷ []) (inl (lit≤ tt)))
creation_left moment image (inl (inl (inl (inl (inl (inr now)))))) =
    no_commands image (inl (subst (λ (e : List ℕ). Torn 0 1 e image) now.1.1 now.1.2).no_longer)
creation_left moment image (inl (inl (inl (inl (inl (inl (inr now))))))) = nothing image now.1
creation_left moment image (inl (inl (inl (inl (inl (inl (inl (inr now)))))))) = nothing image now.1
creation_left moment image (inl (inl (inl (inl (inl (inl (inl (inl (inr now))))))))) = nothing image now.1
creation_left moment image (inl (inl (inl (inl (inl (inl (inl (inl (inl before))))))))) = nothing image (not_yet [] image before.1)
