-- How the two modes end, by what their parts did
use Rattle.stating_modes.proofs.Names.{◌≡◌, inl, inr, ℕ, List, subst, sym, refl, ap, ap₂, ◌∙◌, Result, Ok, Err, Vec, Global, IfOk, Rose, AppendsPart, Ghosts, disk_of, store_disk, Snapshot, Store, StartCause, FaultyDisk, NotAJournal, BadRecord, NoRoom, OnlyNow, Ending, EndsText, Stream, WroteAll, EndsStateKept, IsStateTold, ReadsFew, snapshot_text, AreBothQuiet, IsHeldWhereTrue, TwoDisks, disks_of, EndsSaving, HasSaved, HasTried, Saves, Writes}
use Rattle.stating_modes.specs.inside.Saving.{checkpoint_text}
use Rattle.watcher_set.specs.Evidence.{a_lack}
use Rattle.memory_requests.specs.declared.evidence.NoMemory.{NoMemory as Refusal}
use Rattle.program_endings.specs.declared.ending.Ending.TheVariants.{Done, BadJournal, WriteFault, DiskFault, NoMemory}
use Rattle.program_endings.specs.Refusals.{SaysUnopened}
use Rattle.stating_modes.specs.Saved.{EndsCheckpoint}
use Rattle.stating_modes.specs.inside.Saving.{checkpoint_text}
use Rattle.stating_modes.specs.Telling.{EndsTelling, TellsSnapshot}
use Rattle.stating_modes.specs.declared.finished.FinishedKept.{FinishedKept}
use Rattle.stating_modes.specs.declared.reopened.Reopened.{Reopened}
use Rattle.stating_modes.specs.inside.Reopened.{HasNoSnapshot, HasReopened, disks_under}
use Rattle.stating_modes.proofs.SavingSteps.{now_read, now_tried, since_read, since_tried}

module _ {D E : Type 0} (g : Ghosts D) (e : Ghosts E) (disks : TwoDisks D E) (output : Stream) where
  -- no snapshot was read
  pub ends_unopened : (Tells : (List ℕ → Type 0) → Snapshot → Type 0) (cause : StartCause) (ending : Ending) → HasNoSnapshot g e disks cause → SaysUnopened cause output ending
      → EndsTelling g e disks Tells output ending
  ends_unopened Tells (FaultyDisk count) DiskFault none said = (none.told, said)
  ends_unopened Tells NotAJournal BadJournal none said = (NotAJournal, said, none.shown, none.told)
  ends_unopened Tells (BadRecord n) BadJournal none said = (BadRecord n, said, none.shown, none.told)
  ends_unopened Tells (BadRecord n) (NoMemory lack) none said = (said, none.told)
  ends_unopened Tells (NoRoom lack) (NoMemory other_lack) none said = (said, none.told)
  ends_unopened Tells _ _ none said = absurd said

  -- the text of a snapshot was made and written
  pub ends_told : (snapshot : Snapshot) (text_of : Snapshot → List ℕ) (text : Result (Vec ℕ Global) Refusal) (ending : Ending)
      → IsHeldWhereTrue g e disks snapshot → AreBothQuiet g e disks → IfOk text (λ t. t.items ≡ text_of snapshot)
      → EndsText text output ending → EndsTelling g e disks (Writes text_of) output ending
  ends_told snapshot text_of (Ok text) Done held quiet same ends =
      record { snapshot = snapshot; so = subst (WroteAll output) same ends; held = held; quiet = quiet }
  ends_told snapshot text_of (Ok text) WriteFault held quiet same ends = (
    ends.0,
    record { snapshot = snapshot; so = subst (AppendsPart output.before output.after) same ends.1; held = held; quiet = quiet },
  )
  ends_told snapshot text_of (Err lack) (NoMemory other_lack) held quiet same ends = (ends, quiet)
  ends_told snapshot text_of (Ok text) _ held quiet same ends = absurd ends
  ends_told snapshot text_of (Err lack) _ held quiet same ends = absurd ends

-- the disks that are given back are those under the journal and the store
same_disks : {D E : Type 0} {g : Ghosts D} {e : Ghosts E} (disk : D) (second : E) (opened : Reopened D E g e) (finished : FinishedKept D E)
    → finished.disk ≡ disk_of opened.journal → finished.second ≡ store_disk opened.store → disks_under disk second opened ≡ disks_of disk second finished
same_disks disk second opened finished first kept =
    ap₂ (λ new kept. record { old = disk; new = new; second = second; kept = kept }) (sym first) (sym kept)

-- what was counted, by the disks that are given back
pub few_read : {D E : Type 0} (g : Ghosts D) (e : Ghosts E) (disk : D) (second : E) (opened : Reopened D E g e) (finished : FinishedKept D E)
    (before now : ℕ) → finished.disk ≡ disk_of opened.journal → finished.second ≡ store_disk opened.store
    → ReadsFew g e (disks_under disk second opened) before now → ReadsFew g e (disks_of disk second finished) before now
few_read g e disk second opened finished before now first kept few =
    subst (λ disks. ReadsFew g e disks before now) (same_disks disk second opened finished first kept) few

module _ {D E : Type 0} (g : Ghosts D) (e : Ghosts E) (disk : D) (second : E) (opened : Reopened D E g e) (reopened : HasReopened disk second opened)
    (output : Stream) where
  pub ends_state : (finished : FinishedKept D E) (text : Result (Vec ℕ Global) Refusal) (ending : Ending)
      → finished.disk ≡ disk_of opened.journal → finished.second ≡ store_disk opened.store → finished.ending ≡ ending
      → IfOk text (λ t. t.items ≡ snapshot_text opened.books) → EndsText text output ending
      → EndsStateKept g e (disks_of disk second finished) output finished.ending
  ends_state finished text ending first kept same_ending same ends =
      subst (λ (disks : TwoDisks D E). EndsStateKept g e disks output finished.ending) (same_disks disk second opened finished first kept)
      (subst (EndsStateKept g e (disks_under disk second opened) output) (sym same_ending) (record {
        telling = ends_told g e (disks_under disk second opened) output opened.books snapshot_text text ending reopened.held reopened.quiet same ends;
        first = reopened.alone;
        second = reopened.only_read;
      }))

  module _ (only_now : OnlyNow e) (after : Store E e) where
    abbrev saved_disks : TwoDisks D E
    saved_disks = record { old = disk; new = disk_of opened.journal; second = second; kept = store_disk after }

    -- what is said of the saving, with the disks as they are after it
    module _ (tried : HasTried opened.store after opened.books) where
      still_held : IsHeldWhereTrue g e saved_disks opened.books
      still_held are =
          reopened.held (record { first_honest = are.first_honest; second_honest = tried.honesty are.second_honest; truth = are.truth })

      checkpoint_ends : (ending : Ending) → EndsTelling g e saved_disks (Saves e saved_disks) output ending
          → EndsCheckpoint g e saved_disks output ending
      checkpoint_ends ending telling = record {
        telling = telling;
        first = reopened.alone;
        honesty = λ honest. reopened.only_read.honesty (tried.honesty honest);
        order = λ honest second_honest. inr (reopened.safe honest);
        since = since_tried g e only_now saved_disks opened.books still_held opened.store after reopened.only_read reopened.looked tried refl;
        now = now_tried g e only_now saved_disks opened.books still_held opened.store after reopened.only_read reopened.looked tried refl;
      }

    saved_so : (saved : HasSaved opened.store after opened.books) (Wrote : List ℕ → Type 0) → Wrote (checkpoint_text opened.books)
        → TellsSnapshot g e saved_disks (Saves e saved_disks Wrote)
    saved_so saved Wrote wrote = record {
      snapshot = opened.books;
      so = (wrote, λ honest image left. saved.saved honest (reopened.looked (saved.tried.honesty honest)).knows image left);
      held = still_held saved.tried;
      quiet = record { first = reopened.quiet.first; second = saved.quiet ∙ reopened.quiet.second };
    }

    saving_ends : (ending : Ending) → EndsSaving opened.store after opened.books output ending → EndsCheckpoint g e saved_disks output ending
    saving_ends Done ends = checkpoint_ends ends.0.tried Done (saved_so ends.0 (WroteAll output) ends.1)
    saving_ends WriteFault ends =
        checkpoint_ends ends.0.tried WriteFault (ends.1, saved_so ends.0 (AppendsPart output.before output.after) ends.2)
    saving_ends DiskFault ends =
        checkpoint_ends ends.0 DiskFault (inr (subst (λ n. Rose n (e.faults (store_disk after))) reopened.quiet.second ends.1), ends.2)
    saving_ends (NoMemory lack) ends = by after ends.0
      where
        by : (s : Store E e) → s ≡ opened.store → EndsCheckpoint g e (record { old = disk; new = disk_of opened.journal; second = second; kept = store_disk s }) output (NoMemory a_lack)
        by s same =
            subst (λ s. EndsCheckpoint g e (record { old = disk; new = disk_of opened.journal; second = second; kept = store_disk s }) output (NoMemory a_lack)) (sym same)
            (record {
              telling = (ends.1, reopened.quiet);
              first = reopened.alone;
              honesty = reopened.only_read.honesty;
              order = λ honest second_honest. inl reopened.only_read;
              since = since_read g e only_now (disks_under disk second opened) reopened.only_read;
              now = now_read g e only_now (disks_under disk second opened) reopened.only_read;
            })
    saving_ends _ ends = absurd ends

  pub ends_checkpoint : OnlyNow e → (now : Reopened D E g e) (finished : FinishedKept D E) (ending : Ending) → now.journal ≡ opened.journal
      → finished.disk ≡ disk_of now.journal → finished.second ≡ store_disk now.store → finished.ending ≡ ending
      → EndsSaving opened.store now.store opened.books output ending → EndsCheckpoint g e (disks_of disk second finished) output finished.ending
  ends_checkpoint only_now now finished ending same first kept same_ending ends =
      let disks : saved_disks only_now now.store ≡ disks_of disk second finished =
      ap₂ (λ new kept. record { old = disk; new = new; second = second; kept = kept }) (ap disk_of (sym same) ∙ sym first) (sym kept) in
      subst (λ (disks : TwoDisks D E). EndsCheckpoint g e disks output finished.ending) disks
      (subst (EndsCheckpoint g e (saved_disks only_now now.store) output) (sym same_ending) (saving_ends only_now now.store ending ends))

-- a refusal writes no text
pub untold : (cause : StartCause) (output : Stream) (ending : Ending) → SaysUnopened cause output ending → IsStateTold ending → ⊥
untold (FaultyDisk count) output DiskFault said told = told
untold NotAJournal output BadJournal said told = told
untold (BadRecord n) output BadJournal said told = told
untold (BadRecord n) output (NoMemory lack) said told = told
untold (NoRoom lack) output (NoMemory other_lack) said told = told
untold _ output _ said told = said

-- no snapshot was read, so both disks are as they were opened
module _ {D E : Type 0} (g : Ghosts D) (e : Ghosts E) (only_now : OnlyNow e) (disks : TwoDisks D E) (output : Stream) (cause : StartCause)
    (none : HasNoSnapshot g e disks cause) where
  pub state_unopened : (ending : Ending) → SaysUnopened cause output ending → EndsStateKept g e disks output ending
  state_unopened ending said = record {
    telling = ends_unopened g e disks output (Writes snapshot_text) cause ending none said;
    first = none.first;
    second = none.second;
  }

  pub checkpoint_unopened : (ending : Ending) → SaysUnopened cause output ending → EndsCheckpoint g e disks output ending
  checkpoint_unopened ending said = record {
    telling = ends_unopened g e disks output (Saves e disks) cause ending none said;
    first = none.first;
    honesty = none.second.honesty;
    order = λ honest second_honest. inl none.second;
    since = since_read g e only_now disks none.second;
    now = now_read g e only_now disks none.second;
  }

-- a snapshot that was saved, and its line, which was written after it
pub saving_written : {E : Type 0} {e : Ghosts E} (old new : Store E e) (snapshot : Snapshot) (output : Stream) (line : Vec ℕ Global) (ending : Ending)
    → HasSaved old new snapshot → line.items ≡ checkpoint_text snapshot → EndsText (Ok line) output ending → EndsSaving old new snapshot output ending
saving_written old new snapshot output line Done saved same ends = (saved, subst (WroteAll output) same ends)
saving_written old new snapshot output line WriteFault saved same ends =
    (saved, ends.0, subst (AppendsPart output.before output.after) same ends.1)
saving_written old new snapshot output line _ saved same ends = absurd ends
