-- The worked run holds what its cases say.
use Rattle.life_app.proofs.Names.{◌≡◌, ◌⊎◌, ℕ, List, [], ◌∷◌, ◌++◌, ◌∙◌, ap, append-nil, refl, sym, subst, inl, inr, lit≤, lit<, left_by_now, reads_as_left, Command, Entry, Accepted, IsLegal, accepted_of, IsJournal, LooksOn, spelling_of, HoldsNow, HoldsOnce, IsLeftAlone, IsLeftBy, KeepsAccepted, JournalBytes, Opens, hand_issue, hand_premium, premium_turn, opens_to_one, valid_issue, HasRun, AreLeft, AreRuns, Unsynced, called, cut_disk, cut_file, called_disk, empty_disk, last_disk, paid_disk, second_calls, looks, opened_on, reopening, untorn, CrashesByHand, ImagesByHand, FoundByHand, LeftByHand, OpenedByHand, RanByHand, RowByHand, both_commands, cut_run, first_opening, first_turns, looked_disk, second_opening, second_turns, whole_run}
use Rattle.life_dates.specs.Anniversary as dates
use Rattle.office_state.specs.Images.{faults_after}
use Rattle.office_state.proofs.KeptSteps.{keeps_first, keeps_more, kept_now}
use Rattle.life_app.proofs.CrashLaws.{afterwards, as_before, during, next_commands, opened_again}
use Rattle.life_app.proofs.RunLaws.{Facts, runs_left}
use Rattle.life_app.proofs.WorkedRun.Calls.{Left, looks_allowed, looks_left, looks_safe, posted_left, posting_leaves}
use Rattle.life_app.proofs.WorkedRun.First.{answered_some, cut, first_left, first_ran, found_safe, honest_last, honest_paid, journal_of_both, journal_of_issue, least_issue, left_by, only_now, paid_again, paid_again_safe, premium_size, was_cut}

-- ---- one that opens the office on a file, and adds nothing

looked : (n : ℕ) (file : List ℕ) → LooksOn called (called_disk file []) (called_disk file (looks n file))
looked n file = record {
  reads = refl;
  images = λ image left. inl left;
  later = lit≤ tt;
  nothing_else = λ moment image passed left. inr (inl (looks_left n file moment image left));
  keeps = λ moment image passed left. inl (inl (inl (inl left)));
}

alone : (n : ℕ) (file : List ℕ) → IsLeftAlone called (called_disk file []) (called_disk file (looks n file))
alone n file = record {
  honesty = λ honest. (tt, refl);
  unwritten = λ honest finished. looked n file;
  since = λ honest image left. inl (inl (looks_left n file 0 image left));
  synced = λ honest. inl (looked n file);
}

module _ (n : ℕ) (file : List ℕ) (commands : List Command) (bytes : JournalBytes file commands) where
  still : (image : List ℕ) → image ≡ file → JournalBytes image commands
  still image same = subst (λ (e : List ℕ). JournalBytes e commands) (sym same) bytes

  now_as_found : (turns : List Entry) → accepted_of turns ≡ [] → (image : List ℕ) → image ≡ file → HoldsNow (opened_on commands 0) turns image
  now_as_found turns none image same =
      inl (subst (JournalBytes image) (sym (ap (λ (cs : List Command). commands ++ cs) none ∙ append-nil commands)) (still image same))

  pub kept_looked : KeepsAccepted called (called_disk file []) (called_disk file (looks n file)) (opened_on commands 0) []
  kept_looked = keeps_first called (called_disk file []) (opened_on commands 0) (called_disk file (looks n file))
      (kept_now called (called_disk file []) (opened_on commands 0) (called_disk file (looks n file)) [] only_now (looks_allowed n file, refl) (lit≤ tt) (now_as_found [] refl))

  pub quiet_left : (turns : List Entry) → accepted_of turns ≡ [] → 0 ≡ faults_after (opened_on commands 0) turns
      → KeepsAccepted called (called_disk file []) (called_disk file (looks n file)) (opened_on commands 0) turns
      → IsLeftBy called (called_disk file []) (called_disk file (looks n file)) (opened_on commands 0) turns
  quiet_left turns none faultless kept = left_by file (looks n file) (opened_on commands 0) turns (lit≤ tt) faultless (inl bytes) (now_as_found turns none)
      (λ moment image left. as_before (opened_on commands 0) turns image (inl (still image (looks_left n file moment image left)))) kept (λ quiet. alone n file)

cut_kept : KeepsAccepted called cut_disk looked_disk second_opening []
cut_kept = kept_looked 2 cut_file (hand_issue ∷ []) (journal_of_issue cut_file cut)

pub honest_looked : called.honest looked_disk
honest_looked = (looks_allowed 2 cut_file, refl)

pub left_alone : IsLeftAlone called cut_disk looked_disk
left_alone = alone 2 cut_file

pub opened_left : IsLeftBy called cut_disk looked_disk second_opening []
opened_left = quiet_left 2 cut_file (hand_issue ∷ []) (journal_of_issue cut_file cut) [] refl refl cut_kept

-- ---- the second run

as_cut : (image : List ℕ) → image ≡ cut_file → IsJournal image (spelling_of hand_issue ∷ [])
as_cut image same = subst (λ (e : List ℕ). IsJournal e (spelling_of hand_issue ∷ [])) (sym same) cut

issue_alone : (image : List ℕ) → IsJournal image (spelling_of hand_issue ∷ []) → HoldsOnce second_opening second_turns image
issue_alone image journal = ([], hand_premium ∷ [], refl, inl (inl (journal_of_issue image journal)))

premium_too : (image : List ℕ) → IsJournal image (spelling_of hand_issue ∷ spelling_of hand_premium ∷ []) → HoldsOnce second_opening second_turns image
premium_too image journal = (hand_premium ∷ [], [], refl, inl (inl (journal_of_both image journal)))

since_cut : (moment : ℕ) (image : List ℕ) → Left cut_file second_calls moment image
    → Left cut_file reopening moment image ⊎ (IsJournal image (spelling_of hand_issue ∷ []) ⊎ IsJournal image (spelling_of hand_issue ∷ spelling_of hand_premium ∷ []))
since_cut = posted_left cut_file reopening (spelling_of hand_issue ∷ []) hand_premium (lit< tt) premium_size cut (looks_safe 2 cut_file) refl

again_held : (moment : ℕ) (image : List ℕ) → Left cut_file second_calls moment image → HoldsOnce second_opening second_turns image
again_held moment image left = elim (since_cut moment image left) [
  | inl before ↦ issue_alone image (as_cut image (looks_left 2 cut_file moment image before))
  | inr (inl one) ↦ issue_alone image one
  | inr (inr two) ↦ premium_too image two
]

pub both_now : (image : List ℕ) → called.may_leave last_disk image → JournalBytes image both_commands
both_now image left = journal_of_both image
    (subst (λ (e : List ℕ). IsJournal e (spelling_of hand_issue ∷ spelling_of hand_premium ∷ [])) (sym (paid_again_safe image left)) paid_again)

now_again : (image : List ℕ) → called.may_leave last_disk image → HoldsNow second_opening second_turns image
now_again image left = inl (both_now image left)

kept_again : KeepsAccepted called cut_disk last_disk second_opening second_turns
kept_again = keeps_more called cut_disk second_opening looked_disk last_disk [] (premium_turn (Accepted 2))
    (λ (image : List ℕ). IsJournal image (spelling_of hand_issue ∷ []) ⊎ IsJournal image (spelling_of hand_issue ∷ spelling_of hand_premium ∷ []))
    (posting_leaves cut_file reopening (spelling_of hand_issue ∷ []) hand_premium (lit< tt) premium_size cut (looks_safe 2 cut_file) refl) least_issue cut_kept
    (kept_now called cut_disk second_opening last_disk second_turns only_now honest_last (lit≤ tt) now_again)

pub second_left : IsLeftBy called cut_disk last_disk second_opening second_turns
second_left = left_by cut_file second_calls second_opening second_turns (lit≤ tt) refl (inl (journal_of_issue cut_file cut)) now_again again_held kept_again (λ quiet. absurd (quiet.0.1 2 refl))

pub second_ran : HasRun called cut_disk last_disk second_opening second_turns
second_ran = record { honest = honest_last; safe = found_safe cut_file; left = second_left }

-- ---- the runs in a row

pub facts : Facts called
facts = record {
  reads_as_image = λ disk honest. reads_as_left disk.first untorn Unsynced disk.calls honest.0 honest.1;
  counts_now = λ disk moment image honest passed left. left_by_now disk.first untorn Unsynced disk.calls moment image passed left;
  only_now = only_now;
}

pub in_a_row : AreRuns called empty_disk (cut_run ∷ whole_run ∷ []) last_disk
in_a_row = (
  record { honest = honest_paid; disk = inl first_left; ended = inr was_cut },
  (
    record { honest = honest_last; disk = inl second_left; ended = inl (record { handed = refl; all = refl }) },
    refl,
  ),
)

pub what_is_left : (image : List ℕ) → called.may_leave last_disk image → (held : List Command) × Opens image held × AreLeft [] (cut_run ∷ whole_run ∷ []) held
what_is_left image left =
    runs_left called facts empty_disk last_disk [] (cut_run ∷ whole_run ∷ []) image (found_safe []) (inr (refl, inl (lit≤ tt))) in_a_row left

last_opens : (image : List ℕ) → called.may_leave last_disk image → Opens image both_commands
last_opens image left = inl (journal_of_both image
    (subst (λ (e : List ℕ). IsJournal e (spelling_of hand_issue ∷ spelling_of hand_premium ∷ [])) (sym (paid_again_safe image left)) paid_again))

pub left_by_hand : LeftByHand
left_by_hand = (
  what_is_left,
  λ image left.
      let held = what_is_left image left in
      (last_opens image left, subst (λ (commands : List Command). AreLeft [] (cut_run ∷ whole_run ∷ []) commands) (opens_to_one image held.0 both_commands held.1 (last_opens image left)) held.2),
)

pub found_by_hand : FoundByHand
found_by_hand = (refl, refl, refl, refl, refl, refl)

pub legal_first : IsLegal first_opening first_turns
unfolding dates.anniversary_of
legal_first = record {
  opens = record { accepted = tt; valid = tt; few = lit≤ tt };
  due = ((refl, refl), ((refl, refl), tt));
}

pub legal_second : IsLegal second_opening second_turns
unfolding dates.anniversary_of
legal_second = record {
  opens = record { accepted = (refl, tt); valid = (valid_issue, tt); few = lit≤ tt };
  due = ((refl, refl), tt);
}

pub ran_by_hand : RanByHand
ran_by_hand = (first_ran, second_ran, legal_first, legal_second)

pub row_by_hand : RowByHand
row_by_hand = (was_cut, answered_some, record { handed = refl; all = refl }, in_a_row)

cut_held : HoldsOnce first_opening first_turns cut_file
cut_held = during called empty_disk paid_disk first_opening first_turns first_ran cut_file (inl (inl (inr (lit≤ tt, refl))))

pub images_by_hand : ImagesByHand
images_by_hand = (was_cut.left, inr (lit≤ tt, refl), refl)

pub crashes_by_hand : CrashesByHand
crashes_by_hand = (
  during called empty_disk paid_disk first_opening first_turns first_ran,
  cut_held,
  next_commands first_opening first_turns cut_file (hand_issue ∷ []) cut_held (second_ran.left.opened second_ran.honest),
  λ image left. (last_opens image left, afterwards called cut_disk last_disk second_opening second_turns second_ran image both_commands left (last_opens image left)),
)

opened_ran : HasRun called cut_disk looked_disk second_opening []
opened_ran = record { honest = honest_looked; safe = found_safe cut_file; left = opened_left }

pub opened_by_hand : OpenedByHand
opened_by_hand = (
  opened_ran,
  left_alone,
  λ image left. opened_again called cut_disk looked_disk first_opening first_turns cut_held second_opening opened_ran image left,
)
