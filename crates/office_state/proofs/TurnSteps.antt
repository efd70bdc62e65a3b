-- What one more turn does to an office
use Rattle.office_state.proofs.Names.{◌≡◌, ◌⊎◌, ℕ, ◌+◌, ◌-◌, ◌≤◌, Bool, true, false, List, [], ◌∷◌, ◌++◌, length, refl, ap, sym, ◌∙◌, subst, None, Option, Ok, Err, Result, length-append, arith, inl, inr, map-append, AllByRecursion, Ghosts, Rose, Command, Policy, Accepted, Faulted, Entry, IsValid, IsAccepted, judged_after, refusal_in, Opening, IsDue, IsLegal, accepted_of, commands_after, floor_of, refusal_due, IsAccepted-push, spelling_of, IsJournal, Leaves, JournalStands, IsKept, records_in, disk_under, is_clean, Journal, WatcherGhosts, sent, TellsOne, HasRoomFor, most_commands, bodies_of, Books, Held, OfficeState, AreSafeSince, HasKept, HoldsAtLeast, HoldsNow, HoldsOnce, IsQuietReply, KeepsAccepted, JournalBytes, pins_held, LeavesSince, StandsFor, commands_in, floor_in, IsLeftBehind, JournalHolds, none-some}
use Rattle.std.specs.Prelude.{IfSome, OnOk, OnErr}
use Rattle.policy_machine.proofs.HistoryLemmas.{IsLegalAfter-push, accepted_of-push}
use Rattle.arrayvec.specs.ArrayVec.{ArrayVec}
use Rattle.moment_ring.specs.declared.outlet.MomentOutlet.{MomentOutlet}
use Rattle.office_state.specs.declared.answer.Answer.TheVariants.{Accepted as AcceptedAt, DiskFault}
use Rattle.office_state.specs.declared.answer.Answer.{Answer}
use Rattle.office_state.specs.Posting.{CrashesIn, IsAcceptance}
use Rattle.office_state.specs.States.{begun_of, commands_of, disk_of, opening_of}
use Rattle.office_state.specs.inside.Records.{Records}
use Rattle.office_state.proofs.HistorySteps.{accepted-same, all_before, all_in, all_up_to, commands-more, commands-same, faults-same, faults_after-more, faults_after-same, faults_met, faults-more, holds_all, holds_more, is_due, is_fresh, pending-now, posting, there_more}
use Rattle.office_state.proofs.KeptSteps.{keeps_more, keeps_still, keeps_unaccepted, kept_now, least_now}
use Rattle.office_state.proofs.SafeSteps.{one_fewer, room_told, told_more, told_on, safe_more, safe_on}
use Rattle.office_state.proofs.ImageSteps.{holds_now, journal_of, journal_of_more, left_still, now_later, since_on, since_still}
use Rattle.office_state.proofs.KeepingSteps.{all-more, promised}
use Rattle.office_state.proofs.OpeningSteps.{OnlyNow}
use Rattle.office_state.proofs.PostedPins.{posted_floor, posted_pins}

legal-push : (opening : Opening) (turns : List Entry) (entry : Entry) → IsLegal opening turns
    → IsDue opening turns entry.caller entry.call entry.reply → IsLegal opening (turns ++ entry ∷ [])
legal-push opening turns entry legal due =
    record { opens = legal.opens; due = IsLegalAfter-push opening [] turns entry legal.due due }

-- a turn more is counted
turned_more : (count : ℕ) (turns : List Entry) (entry : Entry) → count ≡ length turns → count + 1 ≡ length (turns ++ entry ∷ [])
turned_more count turns entry same = ap (λ n. n + 1) same ∙ sym (length-append turns (entry ∷ []))

-- a crash in a posting that was refused before anything was written
pub crash_refused : {D W : Type 0} {g : Ghosts D} {w : WatcherGhosts W} (old : OfficeState D W g w) (turns : List Entry) (command : Command) (answer : Answer)
    → OnlyNow g → StandsFor old turns → g.honest (disk_of old) → (IsAcceptance answer → ⊥)
    → CrashesIn g (disk_of old) (disk_of old) (opening_of old) turns command answer
crash_refused {g = g} old turns command answer only_now stands honest refused = record {
  during = record {
    later = omega arith;
    each = λ image left. inl (stands.images_now honest image (only_now (disk_of old) image honest left));
    before = λ moment image passed left. inl left;
  };
  accepted = λ yes. absurd (refused yes);
}

module _ {D W : Type 0} {g : Ghosts D} {w : WatcherGhosts W} where
  -- the commands after the turns are those that the books keep
  valid_after : (state : OfficeState D W g w) (turns : List Entry) → commands_of state ≡ commands_after (opening_of state) turns
      → AllByRecursion IsValid (commands_after (opening_of state) turns)
  valid_after state turns kept = subst (AllByRecursion IsValid) kept state.books.kept.valid

  accepted_after : (state : OfficeState D W g w) (turns : List Entry) → commands_of state ≡ commands_after (opening_of state) turns
      → IsAccepted (commands_after (opening_of state) turns)
  accepted_after state turns kept = subst IsAccepted kept state.books.kept.accepted

  module _ (old : OfficeState D W g w) (turns : List Entry) (stands : StandsFor old turns) where
    abbrev opening : Opening
    opening = opening_of old

    abbrev commands : List Command
    commands = commands_after opening turns

    -- so many commands come before those of which the watchers were notified
    abbrev behind : ℕ
    behind = length opening.commands

    -- books of the same commands leave capacity for as many moments
    room_with : (books : Books) → commands_in books ≡ commands_of old → HasRoomFor (most_commands - length (commands_in books)) old.outlet.ring
    room_with books as_was = subst (λ (cs : List Command). HasRoomFor (most_commands - length cs) old.outlet.ring) (sym as_was) stands.room

    -- a turn that leaves the journal and the commands
    pub stands_still : (books : Books) (counted : records_in old.journal ≡ length (commands_in books)) (entry : Entry)
        → commands_in books ≡ commands_of old → accepted_of (entry ∷ []) ≡ [] → faults_met (entry ∷ []) ≡ []
        → IsDue opening turns entry.caller entry.call entry.reply
        → (pins : ArrayVec Held) → pins.items ≡ pins_held (turns ++ entry ∷ [])
        → floor_in books ≡ floor_of (turns ++ entry ∷ [])
        → (watchers : W) → ((before : ℕ) (heard : List Command) → w.told old.watchers before heard → w.told watchers before heard)
        → StandsFor {w = w} (record { journal = old.journal; books = books; watchers = watchers; turns = old.turns + 1; pins = pins; outlet = old.outlet; begun = old.begun; recovered = old.recovered; counted = counted })
        (turns ++ entry ∷ [])
    stands_still books counted entry as_was none quiet due pins pinned floored watchers told =
        let same : commands_after opening (turns ++ entry ∷ []) ≡ commands = commands-same opening turns entry none in
        let kept : commands_in books ≡ commands_after opening (turns ++ entry ∷ []) = as_was ∙ stands.listed ∙ sym same in
        let held = promised books (commands_after opening (turns ++ entry ∷ [])) (floor_of (turns ++ entry ∷ [])) kept floored in
        let holds : g.honest (disk_of old) → JournalHolds old.journal opening (turns ++ entry ∷ []) = λ honest.
        let before = stands.inside.journal honest in record {
          last = before.last;
          stands = rw same before.stands;
          pending = λ unclean. left_still opening turns entry before.last none (before.pending unclean);
        } in
        record {
          history = record { legal = legal-push opening turns entry stands.history.legal due; counted = held.count };
          versions = held.versions;
          kept = held.few;
          policies = held.policies;
          ledger = held.ledger;
          listed = kept;
          turned = turned_more old.turns turns entry stands.turned;
          pins = pinned;
          floor = floored;
          honesty = stands.honesty;
          opened = stands.opened;
          images_now = λ (honest : g.honest (disk_of old)). holds_now old.journal opening (turns ++ entry ∷ [])
              (subst (AllByRecursion IsValid) kept books.kept.valid) (subst IsAccepted kept books.kept.accepted)
              (holds honest);
          images_since = λ (honest : g.honest (disk_of old)).
              since_still (begun_of old) (disk_of old) opening turns entry (stands.images_since honest);
          images_kept = λ (honest : g.honest (disk_of old)).
              keeps_still g (begun_of old) opening (disk_of old) turns entry none (stands.images_kept honest);
          safe = λ (honest : g.honest (disk_of old)).
              subst (λ cs. IfSome old.outlet.ring (λ ring. AreSafeSince g (disk_of old) opening.commands cs (sent ring)))
              (sym (accepted-same turns entry none)) (stands.safe honest);
          room = room_with books as_was;
          fault_count = stands.fault_count ∙ sym (faults_after-same opening turns entry quiet);
          alone = λ still. stands.alone (all_before (λ (e : Entry). IsQuietReply e.reply) turns (entry ∷ []) still);
          told = subst (w.told watchers behind) (sym (accepted-same turns entry none)) (told behind (accepted_of turns) stands.told);
          inside = record {
            later = stands.inside.later;
            opened = stands.inside.opened;
            met = rw (faults-same turns entry quiet) stands.inside.met;
            journal = holds;
          };
        }

    -- the state stands for the same turns with other books of the same commands, and with watchers that were notified
    -- of the same commands
    pub stands_with : (books : Books) (counted : records_in old.journal ≡ length (commands_in books)) → commands_in books ≡ commands_of old
        → floor_in books ≡ floor_in old.books → (watchers : W) → ((before : ℕ) (heard : List Command) → w.told old.watchers before heard → w.told watchers before heard)
        → StandsFor {w = w} (record { journal = old.journal; books = books; watchers = watchers; turns = old.turns; pins = old.pins; outlet = old.outlet; begun = old.begun; recovered = old.recovered; counted = counted }) turns
    stands_with books counted as_was still watchers told =
        let kept : commands_in books ≡ commands = as_was ∙ stands.listed in
        let floored : floor_in books ≡ floor_of turns = still ∙ stands.floor in
        let held = promised books commands (floor_of turns) kept floored in
        record {
          history = record { legal = stands.history.legal; counted = held.count };
          versions = held.versions;
          kept = held.few;
          policies = held.policies;
          ledger = held.ledger;
          listed = kept;
          turned = stands.turned;
          pins = stands.pins;
          floor = floored;
          honesty = stands.honesty;
          opened = stands.opened;
          images_now = stands.images_now;
          images_since = stands.images_since;
          images_kept = stands.images_kept;
          safe = stands.safe;
          room = room_with books as_was;
          fault_count = stands.fault_count;
          alone = stands.alone;
          told = told behind (accepted_of turns) stands.told;
          inside = stands.inside;
        }

    -- an image while a record of the command is made: without it, with it, or with that of an earlier fault
    during : (honest : g.honest (disk_of old)) (command : Command) (image : List ℕ) → IsValid command → IsAccepted (commands ++ command ∷ [])
        → IsJournal image (bodies_of commands) ⊎ IsJournal image (bodies_of commands ++ spelling_of command ∷ [])
        ⊎ ((is_clean old.journal ≡ false) × IsJournal image (bodies_of commands ++ (stands.inside.journal honest).last ∷ []))
        → HoldsNow opening turns image ⊎ JournalBytes image (commands ++ command ∷ [])
    during honest command image valid accepted held =
        let all = valid_after old turns stands.listed in
        elim held [
          | inl without ↦ inl (inl (journal_of image commands all (accepted_after old turns stands.listed) without))
          | inr other ↦ elim other [
            | inl more ↦ inr (journal_of_more image commands command all valid accepted more)
            | inr earlier ↦
                let behind = (stands.inside.journal honest).pending earlier.0 in
                inl (there_more opening turns behind.command image behind.pending
                (journal_of_more image commands behind.command all behind.valid behind.accepted
                (subst (λ body. IsJournal image (bodies_of commands ++ body ∷ [])) behind.spelled earlier.1)))
          ]
        ]

    module _ {T E : Type 0} (command : Command) (after : Option Policy) (journal : Journal D g) (result : Result T E) (valid : IsValid command)
        (decided : judged_after (commands_of old) command ≡ Ok after)
        (honesty : g.honest (disk_under journal) → g.honest (disk_of old))
        (records : (bodies : List (List ℕ)) (last : List ℕ) → g.honest (disk_under journal) → JournalStands old.journal bodies last
        → Records old.journal journal bodies last (spelling_of command) result) where
      decided' : judged_after commands command ≡ Ok after
      decided' = subst (λ cs. judged_after cs command ≡ Ok after) stands.listed decided

      accepted : IsAccepted (commands ++ command ∷ [])
      accepted = IsAccepted-push commands command (accepted_after old turns stands.listed) (ap refusal_in decided')

      recorded : (honest : g.honest (disk_under journal))
          → Records old.journal journal (bodies_of commands) (stands.inside.journal (honesty honest)).last (spelling_of command) result
      recorded honest = let before = stands.inside.journal (honesty honest) in records (bodies_of commands) before.last honest before.stands

      moments : g.honest (disk_under journal) → Leaves g (disk_of old) (disk_under journal)
          (λ image. HoldsNow opening turns image ⊎ JournalBytes image (commands ++ command ∷ []))
      moments honest =
          let m = (recorded honest).moments in record {
            later = m.later;
            each = λ image left. during (honesty honest) command image valid accepted (m.each image left);
            before = λ moment image passed left. elim (m.before moment image passed left) [
              | inl earlier ↦ inl earlier
              | inr now ↦ inr (during (honesty honest) command image valid accepted now)
            ];
          }

      since_more : (entry : Entry) → g.honest (disk_under journal)
          → ((image : List ℕ) → JournalBytes image (commands ++ command ∷ []) → HoldsOnce opening (turns ++ entry ∷ []) image)
          → LeavesSince g (begun_of old) (disk_under journal) opening (turns ++ entry ∷ [])
      since_more entry honest holds =
          since_on (begun_of old) (disk_of old) (disk_under journal) opening turns entry
          (λ image. HoldsNow opening turns image ⊎ JournalBytes image (commands ++ command ∷ [])) (stands.inside.later (honesty honest))
          (stands.images_since (honesty honest)) (moments honest)
          (λ image held. elim held [ inl now ↦ now_later opening turns entry image now | inr more ↦ holds image more ])

      later_on : g.honest (disk_under journal) → g.clock (begun_of old) ≤ g.clock (disk_under journal)
      later_on honest = omega (arith, stands.inside.later (honesty honest), (moments honest).later)

      -- an image of the posting holds at least the commands from before
      least : (image : List ℕ) → HoldsNow opening turns image ⊎ JournalBytes image (commands ++ command ∷ [])
          → HoldsAtLeast commands image
      least image (inl now) = least_now opening turns image now
      least image (inr more) = (command ∷ [], inl more)

      kept_more : (entry : Entry) → g.honest (disk_under journal) → HasKept g (begun_of old) (disk_under journal) opening (turns ++ entry ∷ [])
          → KeepsAccepted g (begun_of old) (disk_under journal) opening (turns ++ entry ∷ [])
      kept_more entry honest whole =
          keeps_more g (begun_of old) opening (disk_of old) (disk_under journal) turns entry
          (λ image. HoldsNow opening turns image ⊎ JournalBytes image (commands ++ command ∷ [])) (moments honest) least
          (stands.images_kept (honesty honest)) whole

      -- what was safe stays so
      safe_still : g.honest (disk_under journal) → (told : List ℕ) → AreSafeSince g (disk_of old) opening.commands (accepted_of turns) told
          → AreSafeSince g (disk_under journal) opening.commands (accepted_of turns) told
      safe_still honest told safe =
          safe_on g (disk_of old) (disk_under journal) (λ image. HoldsNow opening turns image ⊎ JournalBytes image (commands ++ command ∷ []))
          (moments honest) opening.commands (accepted_of turns) told least safe

      -- and the command that was accepted is safe since the moment that is reported
      safe_accepted : (outlet : MomentOutlet D) → TellsOne old.outlet.ring outlet.ring (g.clock (disk_under journal)) → (entry : Entry)
          → accepted_of (entry ∷ []) ≡ command ∷ [] → g.honest (disk_under journal)
          → ((image : List ℕ) → g.left_since (disk_under journal) (g.clock (disk_under journal)) image → HoldsAtLeast (commands ++ command ∷ []) image)
          → IfSome outlet.ring (λ ring. AreSafeSince g (disk_under journal) opening.commands (accepted_of (turns ++ entry ∷ [])) (sent ring))
      safe_accepted outlet tells entry one honest since =
          let now = g.clock (disk_under journal) in
          told_more old.outlet.ring outlet.ring now (AreSafeSince g (disk_of old) opening.commands (accepted_of turns))
          (AreSafeSince g (disk_under journal) opening.commands (accepted_of (turns ++ entry ∷ []))) tells
          (λ told safe. subst (λ cs. AreSafeSince g (disk_under journal) opening.commands cs (told ++ now ∷ []))
          (sym (accepted_of-push turns entry ∙ ap (λ cs. accepted_of turns ++ cs) one))
          (safe_more g (disk_under journal) opening.commands (accepted_of turns) told command now (safe_still honest told safe) (omega arith) since))
          (stands.safe (honesty honest))

      -- and there is capacity for the moments of all commands that may follow
      room_accepted : (books : Books) → commands_in books ≡ commands_of old ++ command ∷ [] → (length (commands_of old) ≡ 4000000 → ⊥)
          → (outlet : MomentOutlet D) → TellsOne old.outlet.ring outlet.ring (g.clock (disk_under journal))
          → HasRoomFor (most_commands - length (commands_in books)) outlet.ring
      room_accepted books more few outlet tells =
          room_told old.outlet.ring outlet.ring (g.clock (disk_under journal)) (most_commands - length (commands_of old)) (most_commands - length (commands_in books))
          tells (one_fewer (length (commands_of old)) (length (commands_in books)) old.books.kept.few few
          (ap length more ∙ length-append (commands_of old) (command ∷ []))) stands.room

      -- a crash in a posting in which the disk failed
      pub crash_faulted : (count : ℕ) → g.honest (disk_under journal)
          → CrashesIn g (disk_of old) (disk_under journal) opening turns command (DiskFault count)
      crash_faulted count honest = record { during = moments honest; accepted = λ no. absurd no }

      module _ (value : T) (ok : result ≡ Ok value) where
        done : g.honest (disk_under journal) → JournalStands journal (bodies_of commands ++ spelling_of command ∷ []) []
            × (is_clean journal ≡ false → ⊥)
        done honest =
            subst (λ r. OnOk r (JournalStands journal (bodies_of commands ++ spelling_of command ∷ []) [] × (is_clean journal ≡ false → ⊥)))
            ok (recorded honest).done

        -- a crash in one that was accepted, and after it
        pub crash_accepted : (count : ℕ) → g.honest (disk_under journal)
            → CrashesIn g (disk_of old) (disk_under journal) opening turns command (AcceptedAt count)
        crash_accepted count honest = record {
          during = moments honest;
          accepted = λ yes image left. with_record (done honest) image left;
        }
          where
            with_record : JournalStands journal (bodies_of commands ++ spelling_of command ∷ []) [] × (is_clean journal ≡ false → ⊥)
                → (image : List ℕ) → g.may_leave (disk_under journal) image → JournalBytes image (commands ++ command ∷ [])
            with_record held image left = by (is_clean journal) refl (held.0.images image left)
              where
                by : (clean : Bool) → is_clean journal ≡ clean → IsKept clean (bodies_of commands ++ spelling_of command ∷ []) [] image
                    → JournalBytes image (commands ++ command ∷ [])
                by true is file = journal_of_more image commands command (valid_after old turns stands.listed) valid accepted file
                by false is file = absurd (held.1 is)

      -- a posting that was accepted
      module _ (books : Books) (counted : records_in journal ≡ length (commands_in books)) (count : ℕ) (value : T)
          (still : floor_in books ≡ floor_in old.books)
          (quiet : g.faults (disk_under journal) ≡ g.faults (disk_of old)) (more : commands_in books ≡ commands_of old ++ command ∷ [])
          (few : length (commands_of old) ≡ 4000000 → ⊥) (ok : result ≡ Ok value) (position : count ≡ length (commands_in books))
          (watchers : W) (told : (before : ℕ) (heard : List Command) → w.told old.watchers before heard → count ≡ before + length heard + 1 → w.told watchers before (heard ++ command ∷ []))
          (outlet : MomentOutlet D) (tells : TellsOne old.outlet.ring outlet.ring (g.clock (disk_under journal)))
          (only_now : OnlyNow g) where
        pub stands_accepted : (caller : ℕ)
            → StandsFor {w = w} (record { journal = journal; books = books; watchers = watchers; turns = old.turns + 1; pins = old.pins; outlet = outlet; begun = old.begun; recovered = old.recovered; counted = counted })
            (turns ++ posting caller command (Accepted count) ∷ [])
        stands_accepted caller =
            let entry = posting caller command (Accepted count) in
            let grown : commands_after opening (turns ++ entry ∷ []) ≡ commands ++ command ∷ [] = commands-more opening turns caller command count in
            let all = commands_after opening (turns ++ entry ∷ []) in
            let floor = floor_of (turns ++ entry ∷ []) in
            let kept : commands_in books ≡ all = more ∙ ap (λ cs. cs ++ command ∷ []) stands.listed ∙ sym grown in
            let floored : floor_in books ≡ floor = still ∙ stands.floor ∙ posted_floor turns caller command (Accepted count) refl in
            let held = promised books all floor kept floored in
            let due : refusal_due commands command ≡ None = is_due commands command after decided' (λ full. few (ap length stands.listed ∙ full)) in
            let at : count ≡ length commands + 1 = position ∙ ap length (kept ∙ grown) ∙ length-append commands (command ∷ []) in
            let holds : g.honest (disk_under journal) → JournalHolds journal opening (turns ++ entry ∷ []) = λ honest. record {
              last = [];
              stands = rw (grown, map-append spelling_of commands (command ∷ [])) (done value ok honest).0;
              pending = λ unclean. absurd ((done value ok honest).1 unclean);
            } in
            let now : g.honest (disk_under journal) → (image : List ℕ) → g.may_leave (disk_under journal) image
            → HoldsNow opening (turns ++ entry ∷ []) image =
            λ honest. holds_now journal opening (turns ++ entry ∷ []) (subst (AllByRecursion IsValid) kept books.kept.valid)
            (subst IsAccepted kept books.kept.accepted) (holds honest) in
            record {
              history = record { legal = legal-push opening turns entry stands.history.legal (due, at); counted = held.count };
              versions = held.versions;
              kept = held.few;
              policies = held.policies;
              ledger = held.ledger;
              listed = kept;
              turned = turned_more old.turns turns entry stands.turned;
              pins = stands.pins ∙ posted_pins turns caller command (Accepted count) refl;
              floor = floored;
              honesty = λ honest. stands.honesty (honesty honest);
              opened = λ honest. stands.opened (honesty honest);
              images_now = now;
              images_since = λ (honest : g.honest (disk_under journal)). since_more entry honest
                  (λ image file. holds_all opening (turns ++ entry ∷ []) image (rw grown file));
              images_kept = λ (honest : g.honest (disk_under journal)). kept_more entry honest
                  (kept_now g (begun_of old) opening (disk_under journal) (turns ++ entry ∷ []) only_now honest
                  (later_on honest) (now honest));
              safe = λ (honest : g.honest (disk_under journal)). safe_accepted outlet tells entry refl honest
                  (λ (image : List ℕ) (left : g.left_since (disk_under journal) (g.clock (disk_under journal)) image).
                  subst (λ cs. HoldsAtLeast cs image) grown
                  (least_now opening (turns ++ entry ∷ []) image (now honest image (only_now (disk_under journal) image honest left))));
              room = room_accepted books more few outlet tells;
              fault_count = quiet ∙ stands.fault_count ∙ sym (faults_after-same opening turns entry refl);
              alone = λ still. absurd ((all_in (λ (e : Entry). IsQuietReply e.reply) turns [] entry still).1 count refl);
              told = subst (w.told watchers behind) (sym (accepted_of-push turns entry)) (told behind (accepted_of turns) stands.told
                  (at ∙ ap (λ n. n + 1) (length-append opening.commands (accepted_of turns))));
              inside = record {
                later = later_on;
                opened = rw quiet stands.inside.opened;
                met = rw (faults-same turns entry refl, quiet) stands.inside.met;
                journal = holds;
              };
            }

      -- a posting in which the disk failed
      module _ (counted : records_in journal ≡ length (commands_of old)) (count : ℕ) (error : E)
          (few : length (commands_of old) ≡ 4000000 → ⊥) (told : count ≡ g.faults (disk_under journal))
          (later : g.faults (disk_of old) ≤ g.faults (disk_under journal)) (rose : Rose (g.faults (disk_of old)) (g.faults (disk_under journal)))
          (err : result ≡ Err error) where
        pub stands_faulted : (caller : ℕ)
            → StandsFor {w = w} (record { journal = journal; books = old.books; watchers = old.watchers; turns = old.turns + 1; pins = old.pins; outlet = old.outlet; begun = old.begun; recovered = old.recovered; counted = counted })
            (turns ++ posting caller command (Faulted count) ∷ [])
        stands_faulted caller =
            let entry = posting caller command (Faulted count) in
            let same : commands_after opening (turns ++ entry ∷ []) ≡ commands = commands-same opening turns entry refl in
            let all = commands_after opening (turns ++ entry ∷ []) in
            let floor = floor_of (turns ++ entry ∷ []) in
            let kept : commands_of old ≡ all = stands.listed ∙ sym same in
            let floored : floor_in old.books ≡ floor = stands.floor ∙ posted_floor turns caller command (Faulted count) refl in
            let held = promised old.books all floor kept floored in
            let due : refusal_due commands command ≡ None = is_due commands command after decided' (λ full. few (ap length stands.listed ∙ full)) in
            let fresh = is_fresh opening turns (g.faults (disk_of old)) count stands.inside.opened stands.inside.met (rw told rose) in
            let failed = λ (honest : g.honest (disk_under journal)).
            subst (λ r. OnErr r ((left : List ℕ) × JournalStands journal (bodies_of commands) left
            × (is_clean journal ≡ false → (left ≡ spelling_of command) ⊎ ((is_clean old.journal ≡ false)
            × (left ≡ (stands.inside.journal (honesty honest)).last)))))
            err (recorded honest).failed in
            let holds : g.honest (disk_under journal) → JournalHolds journal opening (turns ++ entry ∷ []) = λ honest.
            record {
              last = (failed honest).0;
              stands = rw same (failed honest).1;
              pending = λ unclean. elim ((failed honest).2 unclean) [
                | inl this ↦ record {
                  command = command;
                  pending = pending-now turns caller command count;
                  spelled = this;
                  valid = valid;
                  accepted = rw same accepted;
                }
                | inr earlier ↦ subst (IsLeftBehind opening (turns ++ entry ∷ [])) (sym earlier.1)
                    (left_still opening turns entry (stands.inside.journal (honesty honest)).last refl
                    ((stands.inside.journal (honesty honest)).pending earlier.0))
              ];
            } in
            record {
              history = record { legal = legal-push opening turns entry stands.history.legal (due, fresh); counted = held.count };
              versions = held.versions;
              kept = held.few;
              policies = held.policies;
              ledger = held.ledger;
              listed = kept;
              turned = turned_more old.turns turns entry stands.turned;
              pins = stands.pins ∙ posted_pins turns caller command (Faulted count) refl;
              floor = floored;
              honesty = λ honest. stands.honesty (honesty honest);
              opened = λ honest. stands.opened (honesty honest);
              images_now = λ (honest : g.honest (disk_under journal)). holds_now journal opening (turns ++ entry ∷ [])
                  (valid_after old (turns ++ entry ∷ []) kept) (accepted_after old (turns ++ entry ∷ []) kept)
                  (holds honest);
              images_since = λ (honest : g.honest (disk_under journal)). since_more entry honest
                  (λ image file. holds_more opening (turns ++ entry ∷ []) command image (pending-now turns caller command count) (rw same file));
              images_kept = λ (honest : g.honest (disk_under journal)).
                  keeps_unaccepted g (begun_of old) opening (disk_of old) (disk_under journal) turns entry
                  (λ image. HoldsNow opening turns image ⊎ JournalBytes image (commands ++ command ∷ []))
                  (moments honest) least (stands.images_kept (honesty honest)) refl;
              safe = λ (honest : g.honest (disk_under journal)).
                  subst (λ cs. IfSome old.outlet.ring (λ ring. AreSafeSince g (disk_under journal) opening.commands cs (sent ring)))
                  (sym (accepted-same turns entry refl))
                  (told_on old.outlet.ring (AreSafeSince g (disk_of old) opening.commands (accepted_of turns))
                  (AreSafeSince g (disk_under journal) opening.commands (accepted_of turns)) (safe_still honest) (stands.safe (honesty honest)));
              room = stands.room;
              fault_count = sym told ∙ sym (faults_after-more opening turns caller command count);
              alone = λ still. absurd (none-some count (sym (all_in (λ (e : Entry). IsQuietReply e.reply) turns [] entry still).0));
              told = subst (w.told old.watchers behind) (sym (accepted-same turns entry refl)) stands.told;
              inside = record {
                later = later_on;
                opened = omega (arith, later, stands.inside.opened);
                met = rw (faults-more turns caller command count)
                    (all-more (λ n. n ≤ g.faults (disk_under journal)) (faults_met turns) count
                    (all_up_to (g.faults (disk_of old)) (g.faults (disk_under journal)) (faults_met turns) later stands.inside.met) (omega (arith, told)));
                journal = holds;
              };
            }
