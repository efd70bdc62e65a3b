-- What one more turn does to what is known of images
use Rattle.office_state.proofs.Names.{◌≡◌, ℕ, ◌≤◌, Bool, true, false, List, [], ◌∷◌, ◌++◌, refl, subst, inl, inr, map-append, AllByRecursion, Ghosts, Command, Entry, IsValid, IsAccepted, Opening, accepted_of, commands_after, spelling_of, IsJournal, Leaves, IsKept, disk_under, is_clean, Journal, bodies_of, HoldsNow, HoldsOnce, JournalBytes, LeavesSince, IsLeftBehind, JournalHolds}
use Rattle.posting_journal.proofs.Written.{staged_either}
use Rattle.office_state.proofs.HistorySteps.{commands-same, holds_once-push, now_once, pending-push, there_more}
use Rattle.office_state.proofs.KeepingSteps.{all-more}
use Rattle.office_state.proofs.OpeningSteps.{synced_before}

-- the file of commands' bodies is their journal
pub journal_of : (image : List ℕ) (commands : List Command) → AllByRecursion IsValid commands → IsAccepted commands
    → IsJournal image (bodies_of commands) → JournalBytes image commands
journal_of image commands valid accepted records = record { records = records; valid = valid; accepted = accepted }

pub journal_of_more : (image : List ℕ) (commands : List Command) (command : Command) → AllByRecursion IsValid commands → IsValid command
    → IsAccepted (commands ++ command ∷ []) → IsJournal image (bodies_of commands ++ spelling_of command ∷ [])
    → JournalBytes image (commands ++ command ∷ [])
journal_of_more image commands command all valid accepted records = record {
  records = rw (map-append spelling_of commands (command ∷ [])) records;
  valid = all-more IsValid commands command all valid;
  accepted = accepted;
}

-- a pending command stays pending while nothing is accepted
pub left_still : (opening : Opening) (turns : List Entry) (entry : Entry) (body : List ℕ) → accepted_of (entry ∷ []) ≡ []
    → IsLeftBehind opening turns body → IsLeftBehind opening (turns ++ entry ∷ []) body
left_still opening turns entry body none left = record {
  command = left.command;
  pending = pending-push turns left.command entry none left.pending;
  spelled = left.spelled;
  valid = left.valid;
  accepted = rw (commands-same opening turns entry none) left.accepted;
}

-- an image of a history is one of a longer history
pub now_later : (opening : Opening) (turns : List Entry) (entry : Entry) (image : List ℕ) → HoldsNow opening turns image
    → HoldsOnce opening (turns ++ entry ∷ []) image
now_later opening turns entry image now = holds_once-push opening turns entry image (now_once opening turns image now)

module _ {D : Type 0} {g : Ghosts D} where
  -- what a crash now leaves, of a journal that holds the commands of a history
  pub holds_now : (journal : Journal D g) (opening : Opening) (turns : List Entry) → AllByRecursion IsValid (commands_after opening turns)
      → IsAccepted (commands_after opening turns) → JournalHolds journal opening turns
      → (image : List ℕ) → g.may_leave (disk_under journal) image → HoldsNow opening turns image
  holds_now journal opening turns valid accepted holds image left = by (is_clean journal) refl (holds.stands.images image left)
    where
      by : (clean : Bool) → is_clean journal ≡ clean → IsKept clean (bodies_of (commands_after opening turns)) holds.last image
          → HoldsNow opening turns image
      by true is kept = inl (journal_of image (commands_after opening turns) valid accepted kept)
      by false is kept =
          let commands = commands_after opening turns in
          let behind = holds.pending is in
          elim (staged_either (bodies_of commands) holds.last image kept) [
            | inl old ↦ inl (journal_of image commands valid accepted old)
            | inr more ↦ there_more opening turns behind.command image behind.pending
                (journal_of_more image commands behind.command valid behind.valid behind.accepted
                (subst (λ body. IsJournal image (bodies_of commands ++ body ∷ [])) behind.spelled more))
          ]

  -- what is known of the images since the opening goes on with a turn
  pub since_on : (begun old new : D) (opening : Opening) (turns : List Entry) (entry : Entry) (P : List ℕ → Type 0)
      → g.clock begun ≤ g.clock old → LeavesSince g begun old opening turns → Leaves g old new P
      → ((image : List ℕ) → P image → HoldsOnce opening (turns ++ entry ∷ []) image)
      → LeavesSince g begun new opening (turns ++ entry ∷ [])
  since_on begun old new opening turns entry P later so_far moments holds = record {
    since = λ (image : List ℕ) (left : g.left_since new (g.clock begun) image).
        elim (moments.before (g.clock begun) image later left) [
          | inl earlier ↦ elim (so_far.since image earlier) [
            | inl before ↦ inl before
            | inr held ↦ inr (holds_once-push opening turns entry image held)
          ]
          | inr now ↦ inr (holds image now)
        ];
    synced =
        let mid = so_far.synced in (
          mid.0,
          synced_before g begun mid.0 old new mid.1 moments.later,
          λ (image : List ℕ) (left : g.left_since new (g.clock mid.0) image).
              elim (moments.before (g.clock mid.0) image mid.1.passed left) [
                | inl earlier ↦ holds_once-push opening turns entry image (mid.2 image earlier)
                | inr now ↦ holds image now
              ],
        );
  }

  pub since_still : (begun disk : D) (opening : Opening) (turns : List Entry) (entry : Entry) → LeavesSince g begun disk opening turns
      → LeavesSince g begun disk opening (turns ++ entry ∷ [])
  since_still begun disk opening turns entry so_far = record {
    since = λ (image : List ℕ) (left : g.left_since disk (g.clock begun) image). elim (so_far.since image left) [
      | inl before ↦ inl before
      | inr held ↦ inr (holds_once-push opening turns entry image held)
    ];
    synced = (
      so_far.synced.0,
      so_far.synced.1,
      λ (image : List ℕ) (left : g.left_since disk (g.clock so_far.synced.0) image).
          holds_once-push opening turns entry image (so_far.synced.2 image left),
    );
  }
