-- What is known of the two disks once the journal and the store were opened, and of the snapshot that was read from them
use Rattle.stating_modes.proofs.Names.{◌≡◌, inl, inr, ℕ, ◌≤◌, true, false, List, [], ◌∙◌, sym, subst, refl, append-nil, None, arith, Ghosts, Rose, Command, judge, Opening, opened_on, OpensToBodies, StandsFor, count_of, disk_of, is_clean, looks_none, looks_on, IsSoundSnapshot, store_disk, Snapshot, Store, StartCause, DiskFault, HoldsNow, HoldsOnce, IsLeftAlone, IsLeftBy, IsShown, Opens, HasNotOpened, CountsNow, IsStarted, OnlyNow, ReadsImage, holds_once, looked_alone, looked_ever, not_started, opening_keeps, opens_commands, started_later, synced_images, ReadsFew, AreBothQuiet, AreTrue, IsHeldWhereTrue, IsMadeSafe, IsOnlyRead, TwoDisks, HoldsStill, IsSnapshotOf}
use Rattle.posting_journal.specs.Starting.{HasStarted, ShowsCause, TellsCause}
use Rattle.posting_journal.specs.Opening.{IsOpenedOn, OpensOn}
use Rattle.posting_journal.specs.declared.faults.JournalCause.{JournalCause}
use Rattle.posting_journal.specs.declared.faults.JournalCause.TheVariants.{DiskFault as FaultyDisk, NotAJournal as IsNoJournal, BadRecord as IsBadRecord}
use Rattle.posting_journal.specs.declared.journal.Journal.{Journal}
use Rattle.journal_replay.specs.Replays.{HasReplayCause, IsStoppedAt, StaysAs, Stops, bodies_of}
use Rattle.journal_replay.specs.declared.replaying.ReplayFault.{ReplayFault}
use Rattle.journal_replay.specs.declared.replaying.ReplayFault.TheVariants as replay
use Rattle.checkpoint_store.specs.Reopening.{AreDecided, HasCauseOfTwo, IsFirstBadBody, IsReopened, IsSnapshotOfAll, IsSnapshotRead, IsTrueWhereUsed, KeepsAsBefore, Reopens, TakesSteps}
use Rattle.checkpoint_store.specs.Starts.{HasLookedAt}
use Rattle.checkpoint_store.specs.declared.faults.ReopenFault.{ReopenFault}
use Rattle.checkpoint_store.specs.declared.faults.ReopenFault.TheVariants as why
use Rattle.std.specs.Prelude.{Result, Ok, Err}
use Rattle.office_state.specs.inside.Holding.{JournalHolds}
use Rattle.office_state.specs.inside.Replays.{MakeJournal, as_cause, as_replay_cause}
use Rattle.office_state.proofs.ImageSteps.{holds_now}
use Rattle.office_state.proofs.KeptSteps.{keeps_first, kept_now}
use Rattle.office_state.proofs.OpenedSteps.{no_office, unfollowed}
use Rattle.stating_modes.specs.declared.reopened.Reopened.{Reopened}
use Rattle.stating_modes.specs.inside.Reopened.{AreBooksOn, HasJournalOn, HasNoSnapshot, HasReopened, HasStoreOn, TellsFaultOfOne, as_start_cause}

started : {D : Type 0} {g : Ghosts D} {disk : D} {journal : Journal D g} → HasJournalOn disk journal → IsStarted disk journal
started on = record { quiet = on.quiet; clean = on.clean; honesty = on.honesty; opened = on.opened; opens = on.opens }

-- a disk that wasn't touched
untouched : {E : Type 0} (e : Ghosts E) (second : E) → IsOnlyRead e second second
untouched e second = record { honesty = λ honest. honest; looks = λ honest. looks_none e second }

-- the body that can't follow those before it stops a replay
stopped_at : (bodies : List (List ℕ)) (n : ℕ) → IsFirstBadBody bodies n
    → IsStoppedAt MakeJournal (λ commands command. judge commands command ≡ None) n bodies
stopped_at bodies n bad = record {
  commands = bad.commands;
  kept = (bad.valid, bad.accepted);
  counted = bad.counted;
  within = bad.within;
  front = bad.spelled;
  none = bad.none;
}

-- a journal that wasn't started on its only disk
pub not_begun : {D : Type 0} (g : Ghosts D) → ReadsImage g → (old new : D) (cause : JournalCause) (why : StartCause) → why ≡ as_cause cause
    → TellsCause (g.faults old) (g.faults new) cause → (g.honest new → g.honest old) → (g.honest new → ShowsCause (g.reads old) cause)
    → (g.honest new → OpensOn g old new) → HasNotOpened g old new why
not_begun g reads_image old new cause why same told honesty shows opening =
    subst (HasNotOpened g old new) (sym same) (not_started g old reads_image new cause told honesty shows opening)

module _ {D E : Type 0} (g : Ghosts D) (e : Ghosts E) (reads_image : ReadsImage g) where
  -- a journal that wasn't started: the second disk wasn't touched
  pub journal_refused : (old new : D) (second : E) (cause : JournalCause) → TellsCause (g.faults old) (g.faults new) cause
      → (g.honest new → g.honest old) → (g.honest new → ShowsCause (g.reads old) cause) → (g.honest new → OpensOn g old new)
      → HasNoSnapshot g e (record { old = old; new = new; second = second; kept = second }) (as_cause cause)
  journal_refused old new second cause told honesty shows opening =
      let not = not_started g old reads_image new cause told honesty shows opening in
      record {
        told = by cause told;
        shown = λ are. not.shown are.first_honest;
        first = not.alone;
        second = untouched e second;
      }
    where
      by : (cause : JournalCause) → TellsCause (g.faults old) (g.faults new) cause
          → TellsFaultOfOne g e (record { old = old; new = new; second = second; kept = second }) (as_cause cause)
      by (FaultyDisk count) told = inl told.1
      by IsNoJournal told = record { first = told; second = refl }
      by (IsBadRecord n) told = record { first = told; second = refl }

  module _ (counts_now : CountsNow g) (disk : D) (journal : Journal D g) (on : HasJournalOn disk journal) where
    -- a store that wasn't started: the journal's disk was opened and not touched since
    pub store_failed : (second kept : E) (count : ℕ) → IsOnlyRead e second kept → Rose (e.faults second) (e.faults kept)
        → HasNoSnapshot g e (record { old = disk; new = disk_of journal; second = second; kept = kept }) (DiskFault count)
    store_failed second kept count read rose = record {
      told = inr rose;
      shown = λ are. tt;
      first = looked_alone g disk journal (started on) counts_now reads_image (disk_of journal)
          (record { honesty = λ honest. honest; looks = λ honest. looks_none g (disk_of journal) });
      second = read;
    }

-- the journal after the call that reads the snapshot
module _ {D : Type 0} (g : Ghosts D) (reads_image : ReadsImage g) (counts_now : CountsNow g) (disk : D) (journal now : Journal D g)
    (on : HasJournalOn disk journal) (stays : StaysAs journal now) where
  first_alone : IsLeftAlone g disk (disk_of now)
  first_alone = looked_alone g disk journal (started on) counts_now reads_image (disk_of now) stays.disk

  made_safe : g.honest (disk_of now) → IsMadeSafe g disk (disk_of now)
  made_safe honest = synced_images g disk journal (started on) counts_now (disk_of now) honest stays.disk

  opened_so : g.honest (disk_of now) → HasStarted disk journal
  opened_so honest = on.opened (stays.disk.honesty honest)

  -- commands that the bodies spell, if the disk comes back honest: the disk holds them still
  module _ (only_now : OnlyNow g) (quiet : g.faults (disk_of now) ≡ g.faults disk) (commands : List Command) (decided : AreDecided commands)
      (spelled : g.honest (disk_of now) → (opened : HasStarted disk journal) × (opened.bodies ≡ bodies_of commands)) where
    abbrev opening : Opening
    opening = opened_on commands (g.faults disk)

    opens : g.honest (disk_of now) → Opens (g.reads disk) commands
    opens honest =
        let all = spelled honest in
        opens_commands (g.reads disk) commands decided.0 decided.1 (subst (OpensToBodies (g.reads disk)) all.1 all.0.opened)

    clean : is_clean now ≡ false → ⊥
    clean unclean =
        let was : is_clean journal ≡ true = on.clean in
        let same : is_clean now ≡ is_clean journal = stays.clean in cc

    holds : g.honest (disk_of now) → JournalHolds now opening []
    holds honest =
        let all = spelled honest in
        let stands : StandsFor now all.0.bodies [] = stays.stands all.0.bodies [] honest all.0.stands in
        record {
          last = [];
          stands = simp append-nil (subst (λ (bodies : List (List ℕ)). StandsFor now bodies []) all.1 stands);
          pending = λ (unclean : is_clean now ≡ false). absurd (clean unclean);
        }

    images_now : g.honest (disk_of now) → (image : List ℕ) → g.may_leave (disk_of now) image → HoldsNow opening [] image
    images_now honest = holds_now now opening [] (simp append-nil decided.0) (simp append-nil decided.1) (holds honest)

    later : g.honest (disk_of now) → g.clock disk ≤ g.clock (disk_of now)
    later honest =
        let looks = stays.disk.looks honest in
        omega (arith, started_later g disk journal (started on) counts_now (stays.disk.honesty honest), looks.later)

    held : g.honest (disk_of now) → (image : List ℕ) → IsOpenedOn (g.reads disk) image → HoldsOnce opening [] image
    held honest image in_opening =
        holds_once image commands (g.faults disk) (opening_keeps (g.reads disk) image commands (opens honest) in_opening)

    left_by : IsLeftBy g disk (disk_of now) opening []
    left_by = record {
      honesty = λ honest. on.honesty (stays.disk.honesty honest);
      faults = quiet;
      opened = opens;
      now = images_now;
      since = λ (honest : g.honest (disk_of now)) (image : List ℕ) (left : g.left_since (disk_of now) (g.clock disk) image).
          elim (looked_ever g disk journal (started on) counts_now (disk_of now) honest stays.disk image left) [
            | inl before ↦ inl before
            | inr in_opening ↦ inr (held honest image in_opening)
          ];
      synced = λ (honest : g.honest (disk_of now)).
          let at = synced_images g disk journal (started on) counts_now (disk_of now) honest stays.disk in (
            at.0,
            at.1,
            λ (image : List ℕ) (left : g.left_since (disk_of now) (g.clock at.0) image). held honest image (at.2 image left),
          );
      kept = λ (honest : g.honest (disk_of now)).
          keeps_first g disk opening (disk_of now) (kept_now g disk opening (disk_of now) [] only_now honest (later honest) (images_now honest));
      alone = λ still. first_alone;
    }

  module _ (only_now : OnlyNow g) (quiet : g.faults (disk_of now) ≡ g.faults disk) (snapshot : Snapshot) where
    -- for an honest disk whose bodies are all decided
    snapshot_held : (here : g.honest (disk_of now)) → IsSnapshotOfAll (opened_so here).bodies snapshot
        → HoldsStill g disk (disk_of now) (λ commands. IsSnapshotOf commands snapshot)
    snapshot_held here all = record {
      commands = all.commands;
      so = all.snapshot;
      disk = left_by only_now quiet all.commands (all.valid, all.accepted) (λ honest. (opened_so here, all.spelled));
    }

    -- for any disk whose records were all read without a store, under the name of the disk that is given back
    pub books_on : IsSoundSnapshot snapshot → IsSnapshotRead journal (disk_of now) snapshot → (back : D) → back ≡ disk_of now
        → AreBooksOn g disk back snapshot
    books_on sound read back same = subst (λ (d : D). AreBooksOn g disk d snapshot) (sym same) (record {
      sound = sound;
      commands = read.commands;
      leave = read.snapshot;
      disk = left_by only_now quiet read.commands read.decided
          (λ honest. (opened_so honest, read.bodies (opened_so honest).bodies [] honest (opened_so honest).stands));
    })

  -- no books were read, for this fault
  pub no_books : (fault : ReplayFault) (cause : StartCause) → cause ≡ as_replay_cause fault → HasReplayCause {T = Snapshot} journal (disk_of now) (Err fault)
      → Stops AreDecided (λ commands command. judge commands command ≡ None) journal (disk_of now) [] fault → (back : D) → back ≡ disk_of now
      → HasNotOpened g disk back cause
  no_books fault cause same told stops back is = subst (λ (d : D). HasNotOpened g disk d cause) (sym is)
      (no_office g disk journal (started on) counts_now reads_image (disk_of now) cause
      (record { looked = stays.disk; fault = fault; same = same; told = by fault told; stops = stops }))
    where
      by : (fault : ReplayFault) → HasReplayCause {T = Snapshot} journal (disk_of now) (Err fault)
          → HasReplayCause {T = Unit {0}} journal (disk_of now) (Err fault)
      by (replay.DiskFault count) told = told
      by (replay.BadRecord n) told = told
      by (replay.NoMemory lack) told = told

-- the store after it
module _ {E : Type 0} (e : Ghosts E) (second : E) (store after : Store E e) (under : HasStoreOn second store) (keeps : KeepsAsBefore store after) where
  second_read : IsOnlyRead e second (store_disk after)
  second_read = record {
    honesty = λ honest. under.read.honesty (keeps.honesty honest);
    looks = λ honest. looks_on e second (store_disk store) (store_disk after) (under.read.looks (keeps.honesty honest)) (keeps.looks honest);
  }

  looked : e.honest (store_disk after) → HasLookedAt second after
  looked honest =
      let was = under.looked (keeps.honesty honest) in
      let looks = keeps.looks honest in
      record {
        safe = λ image left. was.safe image (looks.images image left) ∙ sym looks.reads;
        knows = keeps.knows honest was.knows;
        earlier = λ image left. was.earlier image (keeps.leaves image honest left);
      }

  same_file : e.honest (store_disk after) → e.reads (store_disk store) ≡ e.reads second
  same_file honest = (under.read.looks (keeps.honesty honest)).reads

module _ {D E : Type 0} (g : Ghosts D) (e : Ghosts E) (reads_image : ReadsImage g) (counts_now : CountsNow g)
    (disk : D) (journal now : Journal D g) (on : HasJournalOn disk journal) (stays : StaysAs journal now)
    (second : E) (store after : Store E e) (under : HasStoreOn second store) (keeps : KeepsAsBefore store after) where
  abbrev disks : TwoDisks D E
  disks = record { old = disk; new = disk_of now; second = second; kept = store_disk after }

  answered : (first last : ℕ) (result : Result Snapshot ReopenFault) → Reopens store after journal now first last result → (are : AreTrue g e disks)
      → IsReopened (e.reads (store_disk store)) (opened_so g reads_image counts_now disk journal now on stays are.first_honest).bodies result
  answered first last result reopens are =
      let opened = opened_so g reads_image counts_now disk journal now on stays are.first_honest in
      reopens.reopened opened.bodies [] are.second_honest are.first_honest opened.stands
      (subst (λ file. IsTrueWhereUsed file opened.bodies) (sym (same_file e second store after under keeps are.second_honest))
      (are.truth opened.bodies opened.opened))

  -- the steps of the reopening, one for each record from the start on
  pub reads_few : (first last : ℕ)
      → (e.honest (store_disk after) → TakesSteps (e.reads (store_disk store)) (count_of journal) first last)
      → ReadsFew g e disks first last
  reads_few first last takes honest second_honest =
      let opened = opened_so g reads_image counts_now disk journal now on stays honest in
      record {
        bodies = opened.bodies;
        opened = opened.opened;
        taken = subst (λ n. TakesSteps (e.reads second) n first last) opened.stands.count
            (subst (λ file. TakesSteps file (count_of journal) first last) (same_file e second store after under keeps second_honest) (takes second_honest));
      }

  both_quiet : e.faults (store_disk after) ≡ e.faults (store_disk store) → g.faults (disk_of now) ≡ g.faults (disk_of journal)
      → AreBothQuiet g e disks
  both_quiet second_quiet first_quiet = record { first = first_quiet ∙ on.quiet; second = second_quiet ∙ under.quiet }

  pub has_reopened : OnlyNow g → (opened : Reopened D E g e) → opened.journal ≡ now → opened.store ≡ after → (first last : ℕ)
      → Reopens store after journal now first last (Ok opened.books) → HasReopened disk second opened
  has_reopened only_now opened same_journal same_store first last reopens =
      let quiet = both_quiet reopens.cause.0 reopens.cause.1 in
      let alone : IsLeftAlone g disk (disk_of now) = first_alone g reads_image counts_now disk journal now on stays in
      let held : IsHeldWhereTrue g e disks opened.books =
      λ are. snapshot_held g reads_image counts_now disk journal now on stays only_now quiet.first opened.books are.first_honest
      (answered first last (Ok opened.books) reopens are) in
      by opened.journal opened.store same_journal same_store
      (record { sound = reopens.sound; quiet = quiet; alone = alone; safe = made_safe g reads_image counts_now disk journal now on stays; only_read = second_read e second store after under keeps; looked = looked e second store after under keeps; held = held })
    where
      by : (j : Journal D g) (s : Store E e) → j ≡ now → s ≡ after
          → HasReopened disk second (record { books = opened.books; journal = now; store = after })
          → HasReopened disk second (record { books = opened.books; journal = j; store = s })
      by j s same other h =
          subst (λ j. HasReopened disk second (record { books = opened.books; journal = j; store = s })) (sym same)
          (subst (λ s. HasReopened disk second (record { books = opened.books; journal = now; store = s })) (sym other) h)

  pub has_no_snapshot : (fault : ReopenFault) (first last : ℕ) → Reopens store after journal now first last (Err fault)
      → HasNoSnapshot g e disks (as_start_cause fault)
  has_no_snapshot fault first last reopens = record {
    told = told fault reopens.cause;
    shown = λ are. shown fault (answered first last (Err fault) reopens are) (opened_so g reads_image counts_now disk journal now on stays are.first_honest).opened;
    first = first_alone g reads_image counts_now disk journal now on stays;
    second = second_read e second store after under keeps;
  }
    where
      told : (fault : ReopenFault)
          → HasCauseOfTwo (e.faults (store_disk store)) (e.faults (store_disk after)) (g.faults (disk_of journal)) (g.faults (disk_of now)) (Err fault)
          → TellsFaultOfOne g e disks (as_start_cause fault)
      told (why.DiskFault count) (inl one) = inr (subst (λ n. Rose n (e.faults (store_disk after))) under.quiet one.1)
      told (why.DiskFault count) (inr one) = inl (subst (λ n. Rose n (g.faults (disk_of now))) on.quiet one.1)
      told (why.BadRecord n) cause = both_quiet cause.0 cause.1
      told (why.NoMemory lack) cause = both_quiet cause.0 cause.1

      shown : (fault : ReopenFault) → {bodies : List (List ℕ)} → IsReopened (e.reads (store_disk store)) bodies (Err fault)
          → OpensToBodies (g.reads disk) bodies → IsShown (g.reads disk) (as_start_cause fault)
      shown (why.DiskFault count) answer opened = tt
      shown (why.BadRecord n) {bodies} answer opened = unfollowed (g.reads disk) n bodies opened (stopped_at bodies n answer.bad)
      shown (why.NoMemory lack) answer opened = tt

-- the same disks and the same cause under other names
pub renamed : {D E : Type 0} (g : Ghosts D) (e : Ghosts E) (old new first : D) (second kept other : E) (cause why : StartCause)
    → first ≡ new → other ≡ kept → why ≡ cause
    → HasNoSnapshot g e (record { old = old; new = new; second = second; kept = kept }) cause
    → HasNoSnapshot g e (record { old = old; new = first; second = second; kept = other }) why
renamed {D = D} {E = E} g e old new first second kept other cause why one two three none =
    subst (λ (d : D). HasNoSnapshot g e (record { old = old; new = d; second = second; kept = other }) why) (sym one)
    (subst (λ (d : E). HasNoSnapshot g e (record { old = old; new = new; second = second; kept = d }) why) (sym two)
    (subst (HasNoSnapshot g e (record { old = old; new = new; second = second; kept = kept })) (sym three) none))
