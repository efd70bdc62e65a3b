-- The worked run's first half: the journals that are read, the answers, what a crash leaves, and the cut.
use Rattle.life_app.proofs.Names.{◌≡◌, ◌⊎◌, ◌≤◌, ℕ, true, List, [], ◌∷◌, length, refl, sym, subst, inl, inr, lit≤, lit<, AreAllowed, FileCall, Synced, Entry, Opening, IsLeftAlone, writes_within, left_only_now, Accepted, IsJournal, IsSafe, spelling_of, HasKept, HoldsAtLeast, HoldsNow, HoldsOnce, IsLeftBy, KeepsAccepted, JournalBytes, Opens, hand_issue, hand_premium, premium_turn, both, valid_issue, HasRun, HasAnsweredSome, WasCut, CalledDisk, HonestCalls, Unsynced, called, creation, cut_file, called_disk, empty_disk, issuing, last_disk, paid_disk, first_calls, second_calls, reopening, untorn, both_commands, cut_run, first_opening, first_turns, issue_turn}
use Rattle.office_state.specs.Images.{AreQuiet, faults_after}
use Rattle.office_state.proofs.KeptSteps.{keeps_first, keeps_more, kept_now}
use Rattle.life_app.proofs.WorkedRun.Calls.{AreSafe, Left, created, creation_left, creation_safe, first_bytes, is_posted, is_still, looks_allowed, looks_safe, posted_left, posted_safe, posted_within, posting_leaves, reads}

-- ---- the commands

pub issue_size : length (spelling_of hand_issue) ≡ 64
unfolding spelling_of
issue_size = refl

pub premium_size : length (spelling_of hand_premium) ≡ 64
unfolding spelling_of
premium_size = refl

-- the journals of none of them, of the issue, and of both
pub of_none : (image : List ℕ) → IsJournal image [] → Opens image []
of_none image journal = inl (record { records = journal; valid = tt; accepted = tt })

pub journal_of_issue : (image : List ℕ) → IsJournal image (spelling_of hand_issue ∷ []) → JournalBytes image (hand_issue ∷ [])
journal_of_issue image journal = record { records = journal; valid = (valid_issue, tt); accepted = (both.accepted.0, tt) }

pub journal_of_both : (image : List ℕ) → IsJournal image (spelling_of hand_issue ∷ spelling_of hand_premium ∷ []) → JournalBytes image both_commands
journal_of_both image journal = record { records = journal; valid = both.valid; accepted = both.accepted }

-- ---- the journals that are read

pub issued : IsJournal (reads [] issuing) (spelling_of hand_issue ∷ [])
issued = is_posted [] creation [] hand_issue (lit< tt) issue_size created creation_safe refl

pub issued_safe : AreSafe [] issuing
issued_safe = posted_safe [] creation [] hand_issue (lit< tt) issue_size created creation_safe refl

pub paid : IsJournal (reads [] first_calls) (spelling_of hand_issue ∷ spelling_of hand_premium ∷ [])
paid = is_posted [] issuing (spelling_of hand_issue ∷ []) hand_premium (lit< tt) premium_size issued issued_safe refl

pub paid_safe : AreSafe [] first_calls
paid_safe = posted_safe [] issuing (spelling_of hand_issue ∷ []) hand_premium (lit< tt) premium_size issued issued_safe refl

pub cut : IsJournal cut_file (spelling_of hand_issue ∷ [])
cut = is_still [] issuing (spelling_of hand_issue ∷ []) hand_premium (lit< tt) premium_size issued issued_safe refl

pub paid_again : IsJournal (reads cut_file second_calls) (spelling_of hand_issue ∷ spelling_of hand_premium ∷ [])
paid_again = is_posted cut_file reopening (spelling_of hand_issue ∷ []) hand_premium (lit< tt) premium_size cut (looks_safe 2 cut_file) refl

pub paid_again_safe : AreSafe cut_file second_calls
paid_again_safe = posted_safe cut_file reopening (spelling_of hand_issue ∷ []) hand_premium (lit< tt) premium_size cut (looks_safe 2 cut_file) refl

-- ---- the answers

created_within : writes_within [] untorn creation ≡ true
created_within = refl

issued_within : writes_within [] untorn issuing ≡ true
issued_within = posted_within [] creation [] hand_issue (lit< tt) issue_size created creation_safe refl created_within

paid_within : writes_within [] untorn first_calls ≡ true
paid_within = posted_within [] issuing (spelling_of hand_issue ∷ []) hand_premium (lit< tt) premium_size issued issued_safe refl issued_within

paid_again_within : writes_within cut_file untorn second_calls ≡ true
paid_again_within = posted_within cut_file reopening (spelling_of hand_issue ∷ []) hand_premium (lit< tt) premium_size cut (looks_safe 2 cut_file) refl refl

created_allowed : AreAllowed [] untorn creation
created_allowed = (((((((((tt, tt), refl), refl), tt), tt), tt), tt), tt), tt)

issued_allowed : AreAllowed [] untorn issuing
issued_allowed = ((((created_allowed, tt), tt), tt), tt)

paid_allowed : AreAllowed [] untorn first_calls
paid_allowed = ((((issued_allowed, tt), tt), tt), tt)

paid_again_allowed : AreAllowed cut_file untorn second_calls
paid_again_allowed = ((((looks_allowed 2 cut_file, tt), tt), tt), tt)

pub honest_issued : called.honest (called_disk [] issuing)
honest_issued = (issued_allowed, issued_within)

pub honest_paid : called.honest paid_disk
honest_paid = (paid_allowed, paid_within)

pub honest_last : called.honest last_disk
honest_last = (paid_again_allowed, paid_again_within)

pub honest_calls : HonestCalls
honest_calls = ((tt, refl), honest_paid, (tt, refl), honest_last)

-- ---- what a crash leaves of the first run

-- so many of the two commands are held
none_held : (image : List ℕ) → Opens image [] → HoldsOnce first_opening first_turns image
none_held image opens = ([], both_commands, refl, inl opens)

issue_held : (image : List ℕ) → IsJournal image (spelling_of hand_issue ∷ []) → HoldsOnce first_opening first_turns image
issue_held image journal = (hand_issue ∷ [], hand_premium ∷ [], refl, inl (inl (journal_of_issue image journal)))

both_held : (image : List ℕ) → IsJournal image (spelling_of hand_issue ∷ spelling_of hand_premium ∷ []) → HoldsOnce first_opening first_turns image
both_held image journal = (both_commands, [], refl, inl (inl (journal_of_both image journal)))

pub issuing_held : (moment : ℕ) (image : List ℕ) → Left [] issuing moment image → HoldsOnce first_opening first_turns image
issuing_held moment image left = elim (posted_left [] creation [] hand_issue (lit< tt) issue_size created creation_safe refl moment image left) [
  | inl before ↦ none_held image (creation_left moment image before)
  | inr (inl none) ↦ none_held image (of_none image none)
  | inr (inr one) ↦ issue_held image one
]

since_issue : (moment : ℕ) (image : List ℕ) → Left [] first_calls moment image
    → Left [] issuing moment image ⊎ (IsJournal image (spelling_of hand_issue ∷ []) ⊎ IsJournal image (spelling_of hand_issue ∷ spelling_of hand_premium ∷ []))
since_issue = posted_left [] issuing (spelling_of hand_issue ∷ []) hand_premium (lit< tt) premium_size issued issued_safe refl

pub paying_held : (moment : ℕ) (image : List ℕ) → Left [] first_calls moment image → HoldsOnce first_opening first_turns image
paying_held moment image left = elim (since_issue moment image left) [
  | inl before ↦ issuing_held moment image before
  | inr (inl one) ↦ issue_held image one
  | inr (inr two) ↦ both_held image two
]

-- ---- what stays of it

pub only_now : (disk : CalledDisk) (image : List ℕ) → called.honest disk → called.left_since disk (called.clock disk) image → called.may_leave disk image
only_now disk image honest left = left_only_now disk.first untorn Unsynced disk.calls image left

now_none : (image : List ℕ) → called.may_leave (called_disk [] creation) image → HoldsNow first_opening [] image
now_none image left = inl (subst (λ (e : List ℕ). JournalBytes e []) (sym (creation_safe image left)) first_bytes)

now_issue : (image : List ℕ) → called.may_leave (called_disk [] issuing) image → HoldsNow first_opening (issue_turn ∷ []) image
now_issue image left = inl (journal_of_issue image (subst (λ (e : List ℕ). IsJournal e (spelling_of hand_issue ∷ [])) (sym (issued_safe image left)) issued))

now_both : (image : List ℕ) → called.may_leave paid_disk image → HoldsNow first_opening first_turns image
now_both image left =
    inl (journal_of_both image (subst (λ (e : List ℕ). IsJournal e (spelling_of hand_issue ∷ spelling_of hand_premium ∷ [])) (sym (paid_safe image left)) paid))

least_none : (image : List ℕ) → IsJournal image [] ⊎ IsJournal image (spelling_of hand_issue ∷ []) → HoldsAtLeast [] image
least_none image (inl none) = ([], of_none image none)
least_none image (inr one) = (hand_issue ∷ [], inl (journal_of_issue image one))

pub least_issue : (image : List ℕ) → IsJournal image (spelling_of hand_issue ∷ []) ⊎ IsJournal image (spelling_of hand_issue ∷ spelling_of hand_premium ∷ [])
    → HoldsAtLeast (hand_issue ∷ []) image
least_issue image (inl one) = ([], inl (journal_of_issue image one))
least_issue image (inr two) = (hand_premium ∷ [], inl (journal_of_both image two))

kept_none : KeepsAccepted called empty_disk (called_disk [] creation) first_opening []
kept_none = keeps_first called empty_disk first_opening (called_disk [] creation)
    (kept_now called empty_disk first_opening (called_disk [] creation) [] only_now (created_allowed, created_within) (lit≤ tt) now_none)

kept_issue : KeepsAccepted called empty_disk (called_disk [] issuing) first_opening (issue_turn ∷ [])
kept_issue = keeps_more called empty_disk first_opening (called_disk [] creation) (called_disk [] issuing) [] issue_turn
    (λ (image : List ℕ). IsJournal image [] ⊎ IsJournal image (spelling_of hand_issue ∷ []))
    (posting_leaves [] creation [] hand_issue (lit< tt) issue_size created creation_safe refl) least_none kept_none
    (kept_now called empty_disk first_opening (called_disk [] issuing) (issue_turn ∷ []) only_now honest_issued (lit≤ tt) now_issue)

kept_both : KeepsAccepted called empty_disk paid_disk first_opening first_turns
kept_both = keeps_more called empty_disk first_opening (called_disk [] issuing) paid_disk (issue_turn ∷ []) (premium_turn (Accepted 2))
    (λ (image : List ℕ). IsJournal image (spelling_of hand_issue ∷ []) ⊎ IsJournal image (spelling_of hand_issue ∷ spelling_of hand_premium ∷ []))
    (posting_leaves [] issuing (spelling_of hand_issue ∷ []) hand_premium (lit< tt) premium_size issued issued_safe refl) least_issue kept_issue
    (kept_now called empty_disk first_opening paid_disk first_turns only_now honest_paid (lit≤ tt) now_both)

pub found_safe : (first : List ℕ) → IsSafe called (called_disk first [])
found_safe first image (inl same) = same
found_safe first image (inr none) = absurd none

-- a disk that was found so is left by these turns
pub left_by : (file : List ℕ) (calls : List FileCall) (opening : Opening) (turns : List Entry) → 1 ≤ length calls
    → called.faults (called_disk file calls) ≡ faults_after opening turns → Opens file opening.commands
    → ((image : List ℕ) → called.may_leave (called_disk file calls) image → HoldsNow opening turns image)
    → ((moment : ℕ) (image : List ℕ) → Left file calls moment image → HoldsOnce opening turns image)
    → KeepsAccepted called (called_disk file []) (called_disk file calls) opening turns
    → (AreQuiet turns → IsLeftAlone called (called_disk file []) (called_disk file calls))
    → IsLeftBy called (called_disk file []) (called_disk file calls) opening turns
left_by file calls opening turns some faults opens now held kept alone = record {
  honesty = λ honest. (tt, refl);
  faults = faults;
  opened = λ honest. opens;
  now = λ honest. now;
  since = λ honest image left. inr (held 0 image left);
  synced = λ honest. (
    called_disk file (Synced true ∷ []),
    record { honest = ((tt, tt), refl); reads = refl; safe = λ image left. left; later = lit≤ tt; passed = some },
    held 1,
  );
  kept = λ honest. kept;
  alone = alone;
}

pub first_left : IsLeftBy called empty_disk paid_disk first_opening first_turns
first_left = left_by [] first_calls first_opening first_turns (lit≤ tt) refl (inr (refl, inl (lit≤ tt))) now_both paying_held kept_both (λ quiet. absurd (quiet.0.1 1 refl))

pub first_ran : HasRun called empty_disk paid_disk first_opening first_turns
first_ran = record { honest = honest_paid; safe = found_safe []; left = first_left }

-- ---- the cut

issue_kept : HasKept called empty_disk paid_disk first_opening (issue_turn ∷ [])
issue_kept = record {
  stood = called_disk [] issuing;
  honest = honest_issued;
  later = lit≤ tt;
  passed = lit≤ tt;
  images = now_issue;
  since = λ image left. elim (since_issue (length issuing) image left) [
    | inl before ↦
        least_issue image (inl (subst (λ (e : List ℕ). IsJournal e (spelling_of hand_issue ∷ []))
        (sym (issued_safe image (left_only_now [] untorn Unsynced issuing image before))) issued))
    | inr now ↦ least_issue image now
  ];
}

pub answered_some : HasAnsweredSome called empty_disk cut_run
unfolding issue_kept
answered_some = record {
  front = issue_turn ∷ [];
  rest = premium_turn (Accepted 2) ∷ [];
  split = refl;
  answered = refl;
  kept = issue_kept;
  late = inl (inl (inr (lit≤ tt, refl)));
}

pub was_cut : WasCut called empty_disk cut_run
was_cut = record { left = inl (inl (inr (lit≤ tt, refl))); safe = found_safe cut_file; when = inr answered_some }
