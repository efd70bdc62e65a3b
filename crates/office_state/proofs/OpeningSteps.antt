-- What is known of the disk and its images once a journal was started, or couldn't be
use Rattle.office_state.proofs.Names.{◌≡◌, ◌⊎◌, inl, inr, ⊎_elim, ℕ, ◌≤◌, List, [], ◌∷◌, refl, sym, subst, append-nil, arith, IsTrue, AllByRecursion, Ghosts, Command, IsValid, IsAccepted, IsUnfinished, OpensToBodies, LooksOn, disk_of, is_clean, Journal, IsLookedAt, bodies_of, Opens, OpensToNone, IsShown, HoldsOnce, IsLeftAlone, OpensAlike, opened_on, as_cause}
use Rattle.posting_journal.specs.Opening.{IsSynced, IsOpenedOn, OpensOn}
use Rattle.posting_journal.specs.Starting.{TellsCause, HasStarted, ShowsCause}
use Rattle.posting_journal.specs.declared.faults.JournalCause.{JournalCause}
use Rattle.posting_journal.specs.declared.faults.JournalCause.TheVariants.{DiskFault as FaultyDisk, NotAJournal as IsNoJournal, BadRecord as IsBadRecord}
use Rattle.posting_journal.proofs.Moments.{looks_on}
use Rattle.office_state.specs.Opening.{HasNotOpened, TellsFault}
use Rattle.office_state.proofs.JournalLaws.{opens_to_one}

no_bodies : (commands : List Command) → bodies_of commands ≡ [] → commands ≡ []
no_bodies [] none = refl
no_bodies (command ∷ commands) none = cc

-- the file opens to the commands of which it has the bodies
pub opens_commands : (bytes : List ℕ) (commands : List Command) → AllByRecursion IsValid commands
    → IsAccepted commands → OpensToBodies bytes (bodies_of commands) → Opens bytes commands
opens_commands bytes commands valid accepted (inl journal) =
    inl (record { records = journal; valid = valid; accepted = accepted })
opens_commands bytes commands valid accepted (inr creation) =
    inr (no_bodies commands creation.0, creation.1)

-- while a file is opened it opens to the same commands
pub opening_keeps : (before image : List ℕ) (commands : List Command) → Opens before commands
    → IsOpenedOn before image → Opens image commands
opening_keeps before image commands opens (inl same) = subst (λ b. Opens b commands) (sym same) opens
opening_keeps before image commands opens (inr creation) =
    let none : commands ≡ [] = opens_to_one before commands [] opens (inr (refl, creation.0)) in
    subst (Opens image) (sym none) (opens_commands image [] tt tt creation.1)

pub holds_once : (image : List ℕ) (commands : List Command) (faults : ℕ) → Opens image commands
    → HoldsOnce (opened_on commands faults) [] image
holds_once image commands faults opens = ([], [], refl, inl (simp append-nil opens))

-- a file that opens to no commands is no unfinished creation
pub finished : (bytes : List ℕ) → OpensToNone bytes → ¬ IsUnfinished bytes
finished bytes none unfinished = none [] (inr (refl, unfinished))

-- what a disk's law says: this moment is one of those since an earlier one
abbrev pub CountsNow : {D : Type 0} → Ghosts D → Type 0
CountsNow {D = D} g = (disk : D) (moment : ℕ) (image : List ℕ) → g.honest disk → moment ≤ g.clock disk
    → g.may_leave disk image → g.left_since disk moment image

-- since this moment there is no other
abbrev pub OnlyNow : {D : Type 0} → Ghosts D → Type 0
OnlyNow {D = D} g = (disk : D) (image : List ℕ) → g.honest disk → g.left_since disk (g.clock disk) image
    → g.may_leave disk image

-- a journal that was started on a disk
pub record IsStarted {D : Type 0} {g : Ghosts D} (old : D) (journal : Journal D g) : Type 0 where
  pub quiet : g.faults (disk_of journal) ≡ g.faults old
  pub clean : IsTrue (is_clean journal)
  pub honesty : g.honest (disk_of journal) → g.honest old
  pub opened : g.honest (disk_of journal) → HasStarted old journal
  pub opens : g.honest (disk_of journal) → OpensOn g old (disk_of journal)

-- what a disk's law says: what is read is an image
abbrev pub ReadsImage : {D : Type 0} → Ghosts D → Type 0
ReadsImage {D = D} g = (disk : D) → g.honest disk → g.may_leave disk (g.reads disk)

-- an image of an opening is the file as it was, or opens alike
was_or_alike : (before image : List ℕ) → IsOpenedOn before image → (image ≡ before) ⊎ OpensAlike before image
was_or_alike before image (inl same) = inl same
was_or_alike before image (inr creation) = inr ([], inr (refl, creation.0), opens_commands image [] tt tt creation.1)

-- or is one of the disk before it
opens_alike : {D : Type 0} (g : Ghosts D) → ReadsImage g → (old : D) → g.honest old → (image : List ℕ)
    → g.may_leave old image ⊎ IsOpenedOn (g.reads old) image → g.may_leave old image ⊎ OpensAlike (g.reads old) image
opens_alike g reads_image old honest image (inl before) = inl before
opens_alike g reads_image old honest image (inr (inl same)) =
    inl (subst (g.may_leave old) (sym same) (reads_image old honest))
opens_alike g reads_image old honest image (inr (inr creation)) =
    inr ([], inr (refl, creation.0), opens_commands image [] tt tt creation.1)

module _ {D : Type 0} (g : Ghosts D) (old : D) where
  faulted : (new : D) (cause : JournalCause) → TellsCause (g.faults old) (g.faults new) cause
      → TellsFault (g.faults old) (g.faults new) (as_cause cause)
  faulted new (FaultyDisk count) told = told
  faulted new IsNoJournal told = told
  faulted new (IsBadRecord n) told = told

  shown : (cause : JournalCause) → ShowsCause (g.reads old) cause → IsShown (g.reads old) (as_cause cause)
  shown (FaultyDisk count) shows = tt
  shown IsNoJournal shows = shows
  shown (IsBadRecord n) shows = inl shows

  -- a disk on which no journal was started
  pub not_started : ReadsImage g → (new : D) (cause : JournalCause) → TellsCause (g.faults old) (g.faults new) cause
      → (g.honest new → g.honest old)
      → (g.honest new → ShowsCause (g.reads old) cause) → (g.honest new → OpensOn g old new)
      → HasNotOpened g old new (as_cause cause)
  not_started reads_image new cause told honesty shows opening = record {
    told = faulted new cause told;
    shown = λ (honest : g.honest new). shown cause (shows honest);
    alone = record {
      honesty = honesty;
      unwritten = λ (honest : g.honest new). (opening honest).unwritten;
      since = λ (honest : g.honest new) (image : List ℕ) (left : g.left_since new (g.clock old) image).
          opens_alike g reads_image old (honesty honest) image ((opening honest).ever.each image left);
      synced = λ (honest : g.honest new). elim (opening honest).synced [
        | inl looks ↦ inl looks
        | inr at ↦ inr (
          at.synced,
          at.at_sync,
          λ (image : List ℕ) (left : g.left_since new (g.clock at.synced) image).
              was_or_alike (g.reads old) image (at.since image left),
        )
      ];
    };
  }

-- what might have been left since a moment, on a disk that was only looked at since
pub looked_since : {D : Type 0} (g : Ghosts D) → CountsNow g → (mid new : D) → g.honest mid → LooksOn g mid new
    → (moment : ℕ) → moment ≤ g.clock mid
    → (image : List ℕ) → g.left_since new moment image → g.left_since mid moment image
looked_since g counts_now mid new honest looks moment passed image left =
    ⊎_elim (λ before. before) (λ now. counts_now mid moment image honest passed now)
    (looks.nothing_else moment image passed left)

-- the end of a sync stays in the past
pub synced_before : {D : Type 0} (g : Ghosts D) (old synced mid new : D) → IsSynced g old synced mid → g.clock mid ≤ g.clock new
    → IsSynced g old synced new
synced_before g old synced mid new at_sync later = record {
  honest = at_sync.honest;
  reads = at_sync.reads;
  safe = at_sync.safe;
  later = at_sync.later;
  passed = omega (arith, at_sync.passed, later);
}

module _ {D : Type 0} (g : Ghosts D) (old : D) (journal : Journal D g) (started : IsStarted old journal)
    (counts_now : CountsNow g) where
  pub started_later : g.honest (disk_of journal) → g.clock old ≤ g.clock (disk_of journal)
  started_later honest = let m = (started.opened honest).moments in omega (arith, m.at_sync.later, m.at_sync.passed)

  -- no file but an unfinished creation is written to
  pub looked_on : (new : D) → g.honest new → IsLookedAt g (disk_of journal) new → ¬ IsUnfinished (g.reads old) → LooksOn g old new
  looked_on new honest looked finished =
      looks_on g old (disk_of journal) new ((started.opens (looked.honesty honest)).unwritten finished) (looked.looks honest)

  -- each image since the opening began
  pub looked_ever : (new : D) → g.honest new → IsLookedAt g (disk_of journal) new
      → (image : List ℕ) → g.left_since new (g.clock old) image → g.may_leave old image ⊎ IsOpenedOn (g.reads old) image
  looked_ever new honest looked image left =
      let here = looked.honesty honest in
      (started.opens here).ever.each image
      (looked_since g counts_now (disk_of journal) new here (looked.looks honest) (g.clock old) (started_later here) image left)

  -- and each since the end of its first sync
  pub synced_images : (new : D) → g.honest new → IsLookedAt g (disk_of journal) new → (mid : D) × IsSynced g old mid new
      × ((image : List ℕ) → g.left_since new (g.clock mid) image → IsOpenedOn (g.reads old) image)
  synced_images new honest looked =
      let here = looked.honesty honest in
      let looks = looked.looks honest in
      let m = (started.opened here).moments in (
        m.synced,
        synced_before g old m.synced (disk_of journal) new m.at_sync looks.later,
        λ (image : List ℕ) (left : g.left_since new (g.clock m.synced) image). m.since image
            (looked_since g counts_now (disk_of journal) new here looks (g.clock m.synced) m.at_sync.passed image left),
      )

  pub looked_alone : ReadsImage g → (new : D) → IsLookedAt g (disk_of journal) new → IsLeftAlone g old new
  looked_alone reads_image new looked = record {
    honesty = λ honest. started.honesty (looked.honesty honest);
    unwritten = λ (honest : g.honest new). looked_on new honest looked;
    since = λ (honest : g.honest new) (image : List ℕ) (left : g.left_since new (g.clock old) image).
        opens_alike g reads_image old (started.honesty (looked.honesty honest)) image (looked_ever new honest looked image left);
    synced = λ (honest : g.honest new).
        let at = synced_images new honest looked in
        inr (
          at.0,
          at.1,
          λ (image : List ℕ) (left : g.left_since new (g.clock at.0) image).
              was_or_alike (g.reads old) image (at.2 image left),
        );
  }
