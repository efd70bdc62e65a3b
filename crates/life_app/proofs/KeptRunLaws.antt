-- What runs over both disks leave: each checkpoint on the second disk is true of the journal
use Rattle.life_app.proofs.Names.{◌≡◌, ◌⊎◌, ℕ, List, [], ◌∷◌, ◌++◌, map, take, refl, ap, sym, ◌∙◌, subst, inl, inr, append-nil, append_assoc, None, Some, length-map, map-append, take_at, Ghosts, Command, IsSafe, spelling_of, Opens, opens_to_one, to_bodies, EndsCheckpoint, IsNoneOrEarlierOrHeld, AreTrue, IsOnlyRead, TellsTruth, TwoDisks, Auditor, Mode, Run, Value, Project, State, Checkpoint, Generate, Load, Input, Shelving, Stream, Ending, EndsMode, Obeys}
use Rattle.posting_journal.specs.Opening.{IsOpenedOn}
use Rattle.posting_journal.proofs.Unique.{opens_once}
use Rattle.checkpoint_store.specs.Checkpoints.{IsSnapshotOf}
use Rattle.checkpoint_store.specs.declared.snapshot.Snapshot.{Snapshot}
use Rattle.checkpoint_store.proofs.OneSnapshot.{one_snapshot}
use Rattle.journal_replay.specs.Replays.{bodies_of}
use Rattle.office_state.proofs.OpeningSteps.{opening_keeps}
use Rattle.posting_journal.proofs.Moments.{leaves, looks_none, looks_pass}
use Rattle.life_app.proofs.LeftLaws.{left_so}
use Rattle.life_app.specs.KeptRuns.{AreRunsOfTwo, IsLeftByCall, IsRunOfTwo, LeavesSaved, LeavesSecond, IsSnapshotOfFirst, KeepsSecond, OneRunOfTwo, SavedOfFirst, SavesBooks, run_disks}
use Rattle.life_app.proofs.RunLaws.{Facts, Grown, Starts, one_more_run}

-- what is saved of the first of some commands is so of those and more
saved_longer : (file : List ℕ) (commands more : List Command) → SavedOfFirst file commands → SavedOfFirst file (commands ++ more)
saved_longer file commands more saved s is =
    let of = saved s is in
    record {
      front = of.front;
      rest = of.rest ++ more;
      split = ap (λ (cs : List Command). cs ++ more) of.split ∙ append_assoc of.front of.rest more;
      valid = of.valid;
      accepted = of.accepted;
      snapshot = of.snapshot;
    }

-- so it is true of the journal that opens to them
tells_truth : (file bytes : List ℕ) (commands : List Command) → Opens bytes commands → SavedOfFirst file commands → TellsTruth file bytes
tells_truth file bytes commands opens saved bodies opened s is within =
    let of = saved s is in
    let same : bodies ≡ bodies_of commands = opens_once bytes bodies (bodies_of commands) opened (to_bodies bytes commands opens) in
    let all : bodies ≡ map spelling_of of.front ++ map spelling_of of.rest =
    same ∙ ap bodies_of of.split ∙ map-append spelling_of of.front of.rest in
    record {
      commands = of.front;
      spelled = ap (take s.position) all
          ∙ take_at (map spelling_of of.front) (map spelling_of of.rest) s.position (length-map of.front spelling_of ∙ sym of.snapshot.position);
      valid = of.valid;
      accepted = of.accepted;
      snapshot = of.snapshot;
    }

-- the whole of what a file opens to
saved_whole : (file bytes : List ℕ) (commands : List Command) (s : Snapshot) → Opens bytes commands → IsSnapshotOf commands s
    → IsSnapshotOfFirst commands s
saved_whole file bytes commands s (inl journal) of = record {
  front = commands;
  rest = [];
  split = sym (append-nil commands);
  valid = journal.valid;
  accepted = journal.accepted;
  snapshot = of;
}
saved_whole file bytes commands s (inr creation) of = record {
  front = [];
  rest = [];
  split = creation.0;
  valid = tt;
  accepted = tt;
  snapshot = subst (λ (cs : List Command). IsSnapshotOf cs s) creation.0 of;
}

-- each image of the second disk is true of these commands
abbrev AllSaved : {E : Type 0} → Ghosts E → E → List Command → Type 0
AllSaved e second commands = (image : List ℕ) → e.may_leave second image → SavedOfFirst image commands

-- what is known of the journal's disk, for other words on its commands
starts_more : {D : Type 0} (g : Ghosts D) (P Q : List Command → Type 0) (disk : D) → ((commands : List Command) → P commands → Q commands)
    → Starts g P disk → Starts g Q disk
starts_more g P Q disk more starts = record {
  base = starts.base;
  is = more starts.base starts.is;
  images = λ image left.
      let held = starts.images image left in
      (held.0, held.1, more held.0 held.2, held.3);
}

module _ {D E : Type 0} (g : Ghosts D) (e : Ghosts E) (first_facts : Facts g) (second_facts : Facts e) (old : D) (second : E)
    (run : OneRunOfTwo D E) (is : IsRunOfTwo g e old second run) (starts : Starts g (AllSaved e second) old) where
  abbrev P : List Command → Type 0
  P = AllSaved e second

  -- the second disk may leave nothing new
  nothing_new : ((image : List ℕ) → e.may_leave run.next_second image → e.may_leave second image)
      → Starts g (AllSaved e run.next_second) run.one.next
  nothing_new within =
      starts_more g (Grown P run.one) (AllSaved e run.next_second) run.one.next
      (λ commands grown image left.
      subst (SavedOfFirst image) (sym grown.5)
      (saved_longer image (grown.0 ++ grown.1) grown.2 (saved_longer image grown.0 grown.1 (grown.3 image (within image left)))))
      (one_more_run g first_facts P old run.one is.one.honest starts is.one.disk is.one.ended)

  read_only : KeepsSecond e second run → (image : List ℕ) → e.may_leave run.next_second image → e.may_leave second image
  read_only keeps image left = elim keeps.next [
    | inl same ↦ keeps.leaves.now image (subst (λ (d : E). e.may_leave d image) same left)
    | inr was ↦ subst (e.may_leave second) (sym (was.safe image left)) (keeps.leaves.since.each (e.reads run.next_second) was.left)
  ]

  -- the books were saved
  module _ (saves : SavesBooks g e old second run) where
    was_honest : g.honest old
    was_honest = saves.saved.alone.honesty is.one.honest

    file_held : (commands : List Command) × Opens (g.reads old) commands × P commands
    file_held =
        let held = starts.images (g.reads old) (first_facts.reads_as_image old was_honest) in (held.0, held.1, held.2)

    abbrev commands : List Command
    commands = file_held.0

    true_disks : AreTrue g e (run_disks old second run)
    true_disks = record {
      first_honest = is.one.honest;
      second_honest = is.honest;
      truth = tells_truth (e.reads second) (g.reads old) commands file_held.1
          (file_held.2 (e.reads second) (second_facts.reads_as_image second is.before));
    }

    one_of_three : (image : List ℕ) → IsNoneOrEarlierOrHeld g e (run_disks old second run) image → SavedOfFirst image commands
    one_of_three image (inl none) s bytes = absurd (none s bytes)
    one_of_three image (inr (inl earlier)) s bytes = file_held.2 image earlier s bytes
    one_of_three image (inr (inr held)) s bytes =
        let of = held.2 true_disks in
        let all : of.commands ≡ commands = opens_to_one (g.reads old) of.commands commands (of.disk.opened is.one.honest) file_held.1 in
        let same : held.0 ≡ s = one_snapshot image held.0 s held.1 bytes in
        saved_whole image (g.reads old) commands s file_held.1
        (subst (IsSnapshotOf commands) same (subst (λ (cs : List Command). IsSnapshotOf cs held.0) all of.so))

    opens_still : (image : List ℕ) → IsOpenedOn (g.reads old) image → Opens image commands
    opens_still image opened = opening_keeps (g.reads old) image commands file_held.1 opened

    at_end : ((image : List ℕ) → g.may_leave run.one.next image → Opens image commands)
        → ((image : List ℕ) → e.may_leave run.next_second image → IsNoneOrEarlierOrHeld g e (run_disks old second run) image)
        → Starts g (AllSaved e run.next_second) run.one.next
    at_end first three = record {
      base = commands;
      is = λ image left. one_of_three image (three image left);
      images = λ image left. (commands, first image left, (λ file may. one_of_three file (three file may)), inl refl);
    }

    saved_so : Starts g (AllSaved e run.next_second) run.one.next
    saved_so = elim saves.next [
      | inl cut ↦ nothing_new (λ image left. subst (e.may_leave second) (sym (cut.safe image left)) cut.left)
      | inr (inl cut) ↦ at_end
          (λ image left. opens_still image
          (subst (IsOpenedOn (g.reads old)) (sym (cut.first_safe image left)) (saves.saved.safe.2 (g.reads run.one.next) cut.first_left)))
          (λ image left.
          subst (IsNoneOrEarlierOrHeld g e (run_disks old second run)) (sym (cut.left.safe image left))
          (saves.saved.since.each (e.reads run.next_second) cut.left.left))
      | inr (inr returned) ↦ at_end
          (λ image left. opens_still image (saves.saved.safe.2 image
          (first_facts.counts_now run.one.new (g.clock saves.saved.safe.0) image is.one.honest saves.saved.safe.1.passed
          (subst (λ (d : D). g.may_leave d image) returned.0 left))))
          (λ image left. saves.saved.now image (subst (λ (d : E). e.may_leave d image) returned.1 left))
    ]

  one_more_of_two : Starts g (AllSaved e run.next_second) run.one.next
  one_more_of_two = elim is.two [
    | inl keeps ↦ nothing_new (read_only keeps)
    | inr saves ↦ saved_so saves
  ]

module _ {D E : Type 0} (g : Ghosts D) (e : Ghosts E) (first_facts : Facts g) (second_facts : Facts e) where
  all_of_two : (first : D) (second : E) (runs : List (OneRunOfTwo D E)) (last : D) (last_second : E)
      → AreRunsOfTwo g e first second runs last last_second → Starts g (AllSaved e second) first → Starts g (AllSaved e last_second) last
  all_of_two first second [] last last_second same starts =
      subst (λ (d : E). Starts g (AllSaved e d) last) (sym same.1) (subst (λ (d : D). Starts g (AllSaved e second) d) (sym same.0) starts)
  all_of_two first second (run ∷ runs) last last_second are starts =
      all_of_two run.one.next run.next_second runs last last_second are.1
      (one_more_of_two g e first_facts second_facts first second run are.0 starts)

  pub two_left : (first : D) (second : E) (commands : List Command) (runs : List (OneRunOfTwo D E)) (last : D) (last_second : E)
      → IsSafe g first → IsSafe e second → Opens (g.reads first) commands → SavedOfFirst (e.reads second) commands
      → AreRunsOfTwo g e first second runs last last_second
      → (image file : List ℕ) → g.may_leave last image → e.may_leave last_second file
      → (held : List Command) × Opens image held × SavedOfFirst file held × TellsTruth file image
  two_left first second commands runs last last_second safe second_safe opens saved are image file left may =
      let at_start : Starts g (AllSaved e second) first = record {
        base = commands;
        is = λ file may. subst (λ (f : List ℕ). SavedOfFirst f commands) (sym (second_safe file may)) saved;
        images = λ image left. (
          commands,
          subst (λ (bytes : List ℕ). Opens bytes commands) (sym (safe image left)) opens,
          (λ file may. subst (λ (f : List ℕ). SavedOfFirst f commands) (sym (second_safe file may)) saved),
          inl refl,
        );
      } in
      let held = (all_of_two first second runs last last_second are at_start).images image left in (
        held.0,
        held.1,
        held.2 file may,
        tells_truth file image held.0 held.1 (held.2 file may),
      )

-- how each call leaves the two disks
module _ {D E : Type 0} (g : Ghosts D) (e : Ghosts E) (second_facts : Facts e) (disks : TwoDisks D E) (honest : g.honest disks.new) (kept_honest : e.honest disks.kept) where
  read_leaves : IsOnlyRead e disks.second disks.kept → LeavesSecond e disks.second disks.kept
  read_leaves read = record {
    since = leaves e disks.second disks.kept (e.may_leave disks.second)
        (λ image left. second_facts.only_now disks.second image (read.honesty kept_honest) left)
        (looks_pass e disks.second disks.kept (read.looks kept_honest));
    now = (read.looks kept_honest).images;
  }

  untouched : disks.kept ≡ disks.second → LeavesSecond e disks.second disks.kept
  untouched same =
      read_leaves (subst (λ (d : E). IsOnlyRead e disks.second d) (sym same)
      (record { honesty = λ h. h; looks = λ h. looks_none e disks.second }))

  by_saving : (output : Stream) (ending : Ending) → EndsCheckpoint g e disks output ending
      → LeavesSecond e disks.second disks.kept ⊎ LeavesSaved g e disks
  by_saving output ending ends = elim (ends.order honest kept_honest) [
    | inl read ↦ inl (read_leaves read)
    | inr safe ↦ inr (record { alone = ends.first; safe = safe; since = ends.since kept_honest; now = ends.now kept_honest })
  ]

  module _ (words : List (List ℕ)) (auditors : List Auditor) (input : Input) (output : Stream) (shelf : Shelving)
      (InputStays ShelfStays : Type 0) where
    left_alone : Some disks.kept ≡ Some disks.second → LeavesSecond e disks.second disks.kept ⊎ LeavesSaved g e disks
    left_alone same = inl (untouched (cc))

    by_mode : (mode : Mode) (ending : Ending)
        → EndsMode g e disks.old disks.new (Some disks.second) (Some disks.kept) mode auditors input output shelf InputStays ShelfStays ending
        → LeavesSecond e disks.second disks.kept ⊎ LeavesSaved g e disks
    by_mode (State None) ending ends = (let stated = ends.2 in inl (read_leaves stated.second))
    by_mode Checkpoint ending ends = by_saving output ending ends.2
    by_mode (State (Some id)) ending ends = left_alone ends.0
    by_mode (Run basis) ending ends = left_alone ends.0
    by_mode (Value on at workers basis measure) ending ends = left_alone ends.0
    by_mode (Project on years workers basis) ending ends = left_alone ends.0
    by_mode (Generate seed count lanes) ending ends = left_alone ends.0
    by_mode (Load seed count lanes workers) ending ends = left_alone ends.0

    pub left_by_call : (status : ℕ)
        → Obeys g e disks.old disks.new (Some disks.second) (Some disks.kept) words auditors input output shelf InputStays ShelfStays status
        → IsLeftByCall g e disks
    left_by_call status obeys = (
      left_so g disks.old disks.new e (Some disks.second) (Some disks.kept) auditors input output shelf InputStays ShelfStays words obeys.ending obeys.does,
      elim obeys.does [
        | inl (mode, asked, ends) ↦ by_mode mode obeys.ending ends
        | inr none ↦ left_alone none.1
      ],
    )
