-- The office of a journal that was started on a disk, and what is known if there is none
use Rattle.office_state.proofs.Names.{◌≡◌, inl, inr, ℕ, ◌-◌, ◌<◌, ◌≤◌, true, false, List, Option, [], ◌++◌, length, ◌∙◌, sym, subst, refl, append-nil, arith, None, Err, Ghosts, Rose, judge, Opening, opened_on, OpensToBodies, JournalStands, disk_under, is_clean, Journal, WatcherGhosts, HasReplayCause, IsStoppedAt, Stops, bodies_of, told, HasRoomFor, most_commands, StartCause, BadRecord, OfficeState, HoldsNow, Opens, IsShown, LeavesSince, StandsFor, JournalHolds, IsOfficeOf, HasNoOffice, MakeJournal, as_replay_cause}
use Rattle.posting_journal.specs.Starting.{HasStarted}
use Rattle.journal_replay.specs.declared.replaying.ReplayFault.{ReplayFault}
use Rattle.journal_replay.specs.declared.replaying.ReplayFault.TheVariants as replay
use Rattle.office_state.specs.Opening.{HasOpened, HasNotOpened, TellsFault}
use Rattle.office_state.specs.States.{MomentRing, commands_of, disk_of}
use Rattle.office_state.proofs.ReplaySteps.{stopped_shown}
use Rattle.office_state.proofs.OpeningSteps.{CountsNow, IsStarted, OnlyNow, ReadsImage, opening_keeps, looked_on, holds_once, looked_alone, looked_ever, synced_images, opens_commands, started_later}
use Rattle.office_state.proofs.KeepingSteps.{promised}
use Rattle.office_state.proofs.ImageSteps.{holds_now}
use Rattle.office_state.proofs.KeptSteps.{keeps_first, kept_now}
use Rattle.office_state.proofs.SafeSteps.{room_fewer, untold_safe}

-- the bodies that stop a replay are those of a journal, since there are some
pub unfollowed : (bytes : List ℕ) (n : ℕ) (bodies : List (List ℕ)) → OpensToBodies bytes bodies
    → IsStoppedAt MakeJournal (λ commands command. judge commands command ≡ None) n bodies → IsShown bytes (BadRecord n)
unfollowed bytes n bodies (inl file) at = inr (stopped_shown bytes bodies n file at)
unfollowed bytes n bodies (inr creation) at =
    let within : n < 0 = subst (λ (bs : List (List ℕ)). n < length bs) creation.0 at.within in absurd (omega arith)

module _ {D : Type 0} (g : Ghosts D) (old : D) (journal : Journal D g) (started : IsStarted old journal) where
  pub replay_told : (new : D) (fault : ReplayFault) → HasReplayCause {T = Unit {0}} journal new (Err fault)
      → TellsFault (g.faults old) (g.faults new) (as_replay_cause fault)
  replay_told new (replay.DiskFault count) told = (told.0, subst (λ n. Rose n (g.faults new)) started.quiet told.1)
  replay_told new (replay.BadRecord n) told = told ∙ started.quiet
  replay_told new (replay.NoMemory lack) told = told ∙ started.quiet

  shown : (new : D) (fault : ReplayFault) → (g.honest new → g.honest (disk_under journal))
      → Stops MakeJournal (λ commands command. judge commands command ≡ None) journal new [] fault
      → g.honest new → IsShown (g.reads old) (as_replay_cause fault)
  shown new (replay.DiskFault count) honesty stops honest = tt
  shown new (replay.NoMemory lack) honesty stops honest = tt
  shown new (replay.BadRecord n) honesty stops honest =
      let opened = started.opened (honesty honest) in
      unfollowed (g.reads old) n opened.bodies opened.opened (stops.1 opened.bodies [] honest opened.stands refl)

  -- a journal for which no office was made
  pub no_office : CountsNow g → ReadsImage g → (new : D) (cause : StartCause) → HasNoOffice journal new cause → HasNotOpened g old new cause
  no_office counts_now reads_image new cause none = record {
    told = subst (TellsFault (g.faults old) (g.faults new)) (sym none.same) (replay_told new none.fault none.told);
    shown = λ honest.
        subst (IsShown (g.reads old)) (sym none.same) (shown new none.fault none.looked.honesty none.stops honest);
    alone = looked_alone g old journal started counts_now reads_image new none.looked;
  }

  module _ {W : Type 0} {w : WatcherGhosts W} (watchers : W) (fresh : (before : ℕ) → w.told watchers before []) (outlet : Option MomentRing) (untold : told outlet ≡ []) (room : HasRoomFor most_commands outlet)
      (state : OfficeState D W g w) (made : IsOfficeOf journal old watchers outlet state) where
    -- the state with what it was opened on in plain sight
    abbrev known : OfficeState D W g w
    known = record state { begun = record state.begun { value = old }; recovered = record state.recovered { value = state.books } }

    abbrev opening : Opening
    opening = opened_on (commands_of state) (g.faults old)

    -- what the file opened to is what was replayed
    started_so : g.honest (disk_of state) → HasStarted old journal
    started_so honest = started.opened (made.stays.disk.honesty honest)

    same_bodies : (honest : g.honest (disk_of state)) → (started_so honest).bodies ≡ bodies_of (commands_of state)
    same_bodies honest =
        let opened = started_so honest in
        made.bodies opened.bodies [] honest opened.stands

    opens_replayed : g.honest (disk_of state) → Opens (g.reads old) (commands_of state)
    opens_replayed honest =
        opens_commands (g.reads old) (commands_of state) state.books.kept.valid state.books.kept.accepted
        (subst (OpensToBodies (g.reads old)) (same_bodies honest) (started_so honest).opened)

    clean : is_clean state.journal ≡ false → ⊥
    clean unclean =
        let was : is_clean journal ≡ true = started.clean in
        let same : is_clean state.journal ≡ is_clean journal = made.stays.clean in cc

    holds : g.honest (disk_of state) → JournalHolds state.journal opening []
    holds honest =
        let opened = started_so honest in
        let stands : JournalStands state.journal opened.bodies [] = made.stays.stands opened.bodies [] honest opened.stands in
        record {
          last = [];
          stands = simp append-nil (subst (λ (bodies : List (List ℕ)). JournalStands state.journal bodies []) (same_bodies honest) stands);
          pending = λ (unclean : is_clean state.journal ≡ false). absurd (clean unclean);
        }

    honesty : g.honest (disk_of state) → g.honest old
    honesty honest = started.honesty (made.stays.disk.honesty honest)

    module _ (counts_now : CountsNow g) (reads_image : ReadsImage g) (only_now : OnlyNow g) where
      leaves_since : g.honest (disk_of state) → LeavesSince g old (disk_of state) opening []
      leaves_since honest =
          let held = λ (image : List ℕ) (opening_image : _). holds_once image (commands_of state) (g.faults old)
          (opening_keeps (g.reads old) image (commands_of state) (opens_replayed honest) opening_image) in
          record {
            since = λ (image : List ℕ) (left : g.left_since (disk_of state) (g.clock old) image).
                elim (looked_ever g old journal started counts_now (disk_of state) honest made.stays.disk image left) [
                  | inl before ↦ inl before
                  | inr in_opening ↦ inr (held image in_opening)
                ];
            synced =
                let at = synced_images g old journal started counts_now (disk_of state) honest made.stays.disk in (
                  at.0,
                  at.1,
                  λ (image : List ℕ) (left : g.left_since (disk_of state) (g.clock at.0) image). held image (at.2 image left),
                );
          }

      later : g.honest (disk_of state) → g.clock old ≤ g.clock (disk_of state)
      later honest =
          let looks = made.stays.disk.looks honest in
          omega (arith, started_later g old journal started counts_now (made.stays.disk.honesty honest), looks.later)

      now : g.honest (disk_of state) → (image : List ℕ) → g.may_leave (disk_of state) image → HoldsNow opening [] image
      now honest = holds_now state.journal opening []
          (simp append-nil state.books.kept.valid) (simp append-nil state.books.kept.accepted) (holds honest)

      known_stands : StandsFor known []
      known_stands =
          let keeps = state.books.kept in
          let quiet : g.faults (disk_of state) ≡ g.faults old = made.quiet ∙ started.quiet in
          let all : commands_of state ≡ commands_of state ++ [] = sym (append-nil (commands_of state)) in
          let held = promised state.books (commands_of state ++ []) 0 all made.floor in
          record {
            history = record {
              legal = record { opens = record { accepted = keeps.accepted; valid = keeps.valid; few = keeps.few }; due = tt };
              counted = held.count;
            };
            versions = held.versions;
            kept = held.few;
            policies = held.policies;
            ledger = held.ledger;
            listed = all;
            turned = made.turns;
            pins = made.pins;
            floor = made.floor;
            honesty = honesty;
            opened = opens_replayed;
            images_now = now;
            images_since = leaves_since;
            images_kept = λ (honest : g.honest (disk_of state)).
                keeps_first g old opening (disk_of state)
                (kept_now g old opening (disk_of state) [] only_now honest (later honest) (now honest));
            safe = λ (honest : g.honest (disk_of state)).
                untold_safe g (disk_of state) opening.commands state.outlet.ring (subst (λ ring. told ring ≡ []) (sym made.outlet) untold);
            room = room_fewer state.outlet.ring most_commands (most_commands - length (commands_of state)) (omega arith)
                (subst (HasRoomFor most_commands) (sym made.outlet) room);
            fault_count = quiet;
            alone = λ still. looked_alone g old journal started counts_now reads_image (disk_of state) made.stays.disk;
            told = subst (λ these. w.told these (length opening.commands) []) (sym made.watched) (fresh (length opening.commands));
            inside = record {
              later = later;
              opened = omega (arith, quiet);
              met = tt;
              journal = holds;
            };
          }

      known_opened : HasOpened old known
      known_opened = record {
        begun = refl;
        stands = known_stands;
        quiet = made.quiet ∙ started.quiet;
        opened = opens_replayed;
        honesty = honesty;
        unwritten = λ (honest : g.honest (disk_of state)). looked_on g old journal started counts_now (disk_of state) honest made.stays.disk;
      }

      -- a journal for which an office was made
      pub made_office : HasOpened old state
      made_office =
          subst (λ recovered. HasOpened old (record state { recovered = record state.recovered { value = recovered } })) (sym made.recovered)
          (subst (λ begun. HasOpened old (record state { begun = record state.begun { value = begun }; recovered = record state.recovered { value = state.books } }))
          (sym made.begun) known_opened)
