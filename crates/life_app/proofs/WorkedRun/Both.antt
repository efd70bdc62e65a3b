-- The worked run over both disks holds what its cases say.
use Rattle.life_app.proofs.Names.{◌≡◌, ◌⊎◌, ℕ, ◌≤◌, true, List, [], ◌∷◌, ◌++◌, length, take, drop, get_or, refl, sym, ◌∙◌, ap, subst, inl, inr, lit≤, lit<, arith, codes, None, Some, append-nil, digits, cases_eq, take_at, EndsState, anniversary_of, day_number, date_of, month_of, days_before_year, days_of_months, day_text, balance_text, policy_text, EndsCheckpoint, IsNoneOrEarlierOrHeld, AreTrue, IsHeldWhereTrue, IsMadeSafe, TellsTruth, Checkpoint, State, AreWords, NotAJournal, IsShown, hand_issue, hand_premium, shown_opens_to_none, both, valid_issue, Synced, Leaves, LooksOn, Done, Usage, spelling_of, SaysUnasked, HasJournal, HasNoJournal, AskForCheckpoint, letters, letters_filing, no_input, CalledDisk, called, cut_disk, cut_file, called_disk, empty_disk, last_disk, puts, reopening, output_of, shelf_that_told, two_auditors, both_commands, looked_disk, second_opening, books_of, snapshot_text, HasItsNeeds, Command, Opens}
use Rattle.checkpoint_store.specs.Checkpoints.{CheckpointBytes, IsNoCheckpoint, IsSnapshotOf}
use Rattle.checkpoint_store.specs.Reopening.{IsSnapshotOfFront}
use Rattle.checkpoint_store.specs.Spelling.{balance_bytes, policy_bytes, position_bytes, snapshot_bytes}
use Rattle.checkpoint_store.specs.Worked.{issued_file, issued_snapshot}
use Rattle.checkpoint_store.proofs.ClaimedFile.{issued_checkpoint, issued_sound}
use Rattle.checkpoint_store.proofs.OneSnapshot.{one_snapshot}
use Rattle.policy_machine.proofs.LedgerLemmas.{sum_of-ledger}
use Rattle.stating_modes.specs.Stated.{EndsStateKept}
use Rattle.life_app.specs.Needs.{JournalIs}
use Rattle.outside_io.specs.Disks.{Torn}
use Rattle.posting_journal.proofs.Bytes.{same_byte}
use Rattle.posting_journal.proofs.Unique.{opens_once}
use Rattle.life_app.specs.KeptRuns.{AreRunsOfTwo, IsRunOfTwo, IsSnapshotOfFirst, KeepsSecond, LeavesSaved, LeavesSecond, SavedOfFirst, SavesBooks, WasCutAfter, WasLeftOf}
use Rattle.life_app.proofs.ProgramSteps.{due}
use Rattle.life_app.proofs.KeptRunLaws.{two_left}
use Rattle.life_app.specs.WorkedRun.Both.{DueOfBothByHand, DueOfTheSaving, LeftOfTwoByHand, OtherwiseByHand, PartsOfTwoByHand, RowOfTwoByHand, SavedByHand, StatedByHand, TrustedByHand, cut_of_two, empty_filing, issue_books, letters_disks, looked_filing, read_disk, runs_of_two, saved_disk, saved_file, saved_filing, saved_of_two, saving, saving_disks, second_disk, stating_disks, whole_of_two}
use Rattle.life_app.proofs.WorkedRun.Calls.{Left, reads}
use Rattle.life_app.proofs.WorkedRun.Due.{none_failed}
use Rattle.life_app.proofs.WorkedRun.First.{cut, found_safe, honest_last, honest_paid, journal_of_issue, was_cut, first_left}
use Rattle.life_app.proofs.WorkedRun.Row.{facts, honest_looked, left_alone, opened_left, second_left}

saved_reads : saved_file ≡ issued_file
unfolding balance_bytes policy_bytes position_bytes
saved_reads = refl

pub saved_checkpoint : CheckpointBytes saved_file issued_snapshot
saved_checkpoint = subst (λ (file : List ℕ). CheckpointBytes file issued_snapshot) (sym saved_reads) issued_checkpoint

staged_file : List ℕ
staged_file = reads [] (puts 1 (snapshot_bytes issued_snapshot) (puts 0 (0 ∷ []) []))

staged_behind : drop 1 staged_file ≡ snapshot_bytes issued_snapshot
unfolding balance_bytes policy_bytes position_bytes staged_file
staged_behind = refl

-- ---- what a crash leaves of the second file

too_short : (image : List ℕ) → length image ≤ 1 → IsNoCheckpoint image
too_short [] short s is = let no : 0 ≡ 76 = ap (λ (xs : List ℕ). get_or xs 0 0) is.spelled in omega (arith, no)
too_short (x ∷ []) short s is = let no : 0 ≡ 76 = ap (λ (xs : List ℕ). get_or xs 0 0) is.spelled in omega (arith, no)
too_short (x ∷ y ∷ rest) short s is = absurd (omega (arith, short))

shut : (image : List ℕ) → get_or image 0 0 ≡ 0 → IsNoCheckpoint image
shut image closed s is = let no : 0 ≡ 1 = sym closed ∙ is.opened in omega (arith, no)

-- the checkpoint is that of what the journal holds
issue_left : IsSnapshotOf (hand_issue ∷ []) issued_snapshot
issue_left = record { position = refl; upgrade = refl; ledger = refl; policies = refl }

held_where_true : IsHeldWhereTrue called called saving_disks issued_snapshot
held_where_true are = record { commands = hand_issue ∷ []; so = issue_left; disk = opened_left }

of_the_journal : (image : List ℕ) → CheckpointBytes image issued_snapshot → IsNoneOrEarlierOrHeld called called saving_disks image
of_the_journal image is = inr (inr (issued_snapshot, is, held_where_true))

gate_step : (image : List ℕ) → Torn 0 1 staged_file image → IsNoneOrEarlierOrHeld called called saving_disks image
gate_step image torn = elim (cases_eq (get_or image 0 0) 1) [
  | inl opened ↦ of_the_journal image (record {
    opened = opened;
    spelled = ap (take (length (snapshot_bytes issued_snapshot))) (torn.after ∙ staged_behind)
        ∙ (ap (take (length (snapshot_bytes issued_snapshot))) (sym (append-nil (snapshot_bytes issued_snapshot)))
        ∙ take_at (snapshot_bytes issued_snapshot) [] (length (snapshot_bytes issued_snapshot)) refl);
    sound = issued_sound;
  })
  | inr closed ↦ inl (λ s is. closed is.opened)
]

earlier : (image : List ℕ) → (image ≡ []) → IsNoneOrEarlierOrHeld called called saving_disks image
earlier image same = inr (inl (inl same))

pub saving_left : (moment : ℕ) (image : List ℕ) → Left [] saving moment image → IsNoneOrEarlierOrHeld called called saving_disks image
unfolding staged_file
saving_left moment image (inr now) = of_the_journal image (subst (λ (file : List ℕ). CheckpointBytes file issued_snapshot) (sym now.1) saved_checkpoint)
saving_left moment image (inl (inr now)) = gate_step image (subst (λ (e : List ℕ). Torn 0 1 e image) now.1.1 now.1.2)
saving_left moment image (inl (inl (inr now))) = inl (shut image (ap (λ (xs : List ℕ). get_or xs 0 0) now.1))
saving_left moment image (inl (inl (inl (inr now)))) =
    inl (shut image (same_byte 1 0 (0 ∷ []) image (subst (λ (e : List ℕ). Torn 1 (length (snapshot_bytes issued_snapshot)) e image) now.1.1 now.1.2).before (lit< tt)))
saving_left moment image (inl (inl (inl (inl (inr now))))) = inl (shut image (ap (λ (xs : List ℕ). get_or xs 0 0) now.1))
saving_left moment image (inl (inl (inl (inl (inl (inr now)))))) =
    inl (too_short image (subst (λ (e : List ℕ). Torn 0 1 e image) now.1.1 now.1.2).no_longer)
saving_left moment image (inl (inl (inl (inl (inl (inl (inr now))))))) = earlier image now.1
saving_left moment image (inl (inl (inl (inl (inl (inl (inl (inr now)))))))) = earlier image now.1
saving_left moment image (inl (inl (inl (inl (inl (inl (inl (inl before)))))))) = earlier image (found_safe [] image before.1)

saved_leaves : Leaves called empty_disk saved_disk (IsNoneOrEarlierOrHeld called called saving_disks)
saved_leaves = record {
  later = lit≤ tt;
  each = λ image left. saving_left 0 image left;
  before = λ moment image passed left. inr (saving_left moment image left);
}

saved_now : (image : List ℕ) → called.may_leave saved_disk image → IsNoneOrEarlierOrHeld called called saving_disks image
saved_now image left = of_the_journal image (subst (λ (file : List ℕ). CheckpointBytes file issued_snapshot) (sym left) saved_checkpoint)

honest_saved : called.honest saved_disk
unfolding balance_bytes policy_bytes position_bytes
honest_saved = (((((((((tt, tt), refl), tt), tt), tt), tt), tt), tt), refl)

-- ---- the journal's disk

looked_only : (moment : ℕ) (image : List ℕ) → Left cut_file reopening moment image → image ≡ cut_file
looked_only moment image (inr now) = now.1
looked_only moment image (inl (inr now)) = now.1
looked_only moment image (inl (inl (inr now))) = now.1
looked_only moment image (inl (inl (inl (inr now)))) = now.1
looked_only moment image (inl (inl (inl (inl before)))) = found_safe cut_file image before.1

made_safe : IsMadeSafe called cut_disk looked_disk
made_safe = (
  called_disk cut_file (Synced true ∷ []),
  record { honest = ((tt, tt), refl); reads = refl; safe = λ image left. left; later = lit≤ tt; passed = lit≤ tt },
  λ image left. inl (looked_only 1 image left),
)

saved_so : LeavesSaved called called saving_disks
saved_so = record { alone = left_alone; safe = made_safe; since = saved_leaves; now = saved_now }

-- ---- the truth

truth_of_none : (bytes : List ℕ) → TellsTruth [] bytes
truth_of_none bytes bodies opens s is within = let no : 0 ≡ 1 = is.opened in absurd (omega (arith, no))

front : IsSnapshotOfFront (spelling_of hand_issue ∷ []) issued_snapshot
front = record { commands = hand_issue ∷ []; spelled = refl; valid = (valid_issue, tt); accepted = (both.accepted.0, tt); snapshot = issue_left }

truth_of_saved : TellsTruth saved_file cut_file
truth_of_saved bodies opens s is within =
    let same : spelling_of hand_issue ∷ [] ≡ bodies = opens_once cut_file (spelling_of hand_issue ∷ []) bodies (inl cut) opens in
    subst (λ (list : List (List ℕ)). IsSnapshotOfFront list s) same
    (subst (IsSnapshotOfFront (spelling_of hand_issue ∷ [])) (one_snapshot saved_file issued_snapshot s saved_checkpoint is) front)

true_saving : AreTrue called called saving_disks
true_saving = record { first_honest = honest_looked; second_honest = honest_saved; truth = truth_of_none cut_file }

true_stating : AreTrue called called stating_disks
true_stating = record { first_honest = honest_looked; second_honest = (((tt, tt), refl), refl); truth = truth_of_saved }

true_letters : AreTrue called called letters_disks
true_letters = record { first_honest = ((((tt, tt), refl), refl), refl); second_honest = (tt, refl); truth = truth_of_none letters }

pub trusted_by_hand : TrustedByHand
trusted_by_hand = (true_saving, true_stating, true_letters)

neither : (Rise : Type 0) → (Rise → ⊥) → Rise ⊎ Rise → ⊥
neither Rise none (inl rose) = none rose
neither Rise none (inr rose) = none rose

saving_journal : HasJournal looked_filing saved_filing (hand_issue ∷ [])
saving_journal = record { trusted = (honest_looked, honest_saved, truth_of_none cut_file); so = inl (journal_of_issue cut_file cut); held = neither _ none_failed }

asks_save : AskForCheckpoint (codes "checkpoint" ∷ [])
asks_save = (refl, refl)

asks_books : AreWords (codes "state" ∷ []) (State None)
asks_books = (refl, record { pieces = []; spells = refl; only = tt; id_is = refl })

some_commands : JournalIs looked_filing saved_filing (λ file. (commands : List Command) × Opens file commands)
some_commands = record { trusted = saving_journal.trusted; so = (hand_issue ∷ [], saving_journal.so); held = saving_journal.held }

save_needs : HasItsNeeds Checkpoint no_input (shelf_that_told []) saved_filing
save_needs = record { lanes = []; script = λ name same. absurd cc; basis = λ name need. absurd need; disks = λ same. tt }

books_needs : HasItsNeeds (State None) no_input (shelf_that_told []) empty_filing
books_needs = record { lanes = []; script = λ name same. absurd cc; basis = λ name need. absurd need; disks = λ same. tt }

module _ (shown : IsShown letters NotAJournal) where
  no_journal : HasNoJournal letters_filing empty_filing
  no_journal = record {
    trusted = (((((tt, tt), refl), refl), refl), (tt, refl), truth_of_none letters);
    so = shown_opens_to_none letters NotAJournal tt shown;
    held = neither _ none_failed;
  }

  pub due_of_both : DueOfBothByHand
  due_of_both = (
    saving_journal,
    record { trusted = (honest_looked, (((tt, tt), refl), refl), truth_of_saved); so = inl (journal_of_issue cut_file cut); held = neither _ none_failed },
    no_journal,
    (Checkpoint, asks_save, save_needs, some_commands, none_failed),
    (State None, asks_books, books_needs, no_journal),
  )

-- ---- the call

pub saved : EndsCheckpoint called called saving_disks (output_of (codes "checkpoint,1" ++ 10 ∷ [])) Done
unfolding digits
saved = record {
  telling = record {
    snapshot = issued_snapshot;
    so = (refl, λ honest image left. subst (λ (file : List ℕ). CheckpointBytes file issued_snapshot) (sym left) saved_checkpoint);
    held = held_where_true;
    quiet = record { first = refl; second = refl };
  };
  first = left_alone;
  honesty = λ honest. (tt, refl);
  order = λ honest second_honest. inr made_safe;
  since = λ honest. saved_leaves;
  now = λ honest. saved_now;
}

pub saved_by_hand : SavedByHand
saved_by_hand = (
  saved,
  record { ending = Done; exits = refl; does = inl (Checkpoint, asks_save, (tt, tt, saved)) },
)

-- ---- the runs

same_second : (disk : CalledDisk) → ((image : List ℕ) → called.left_since disk (called.clock disk) image → called.may_leave disk image) → LeavesSecond called disk disk
same_second disk only = record {
  since = record { later = omega arith; each = only; before = λ moment image passed left. inl left };
  now = λ image left. left;
}

left_of_empty : WasLeftOf called empty_disk empty_disk empty_disk
left_of_empty = record { left = (lit≤ tt, inl refl); safe = found_safe [] }

keeps_second : KeepsSecond called empty_disk cut_of_two
keeps_second = record { leaves = same_second empty_disk (λ image left. left.1); next = inr left_of_empty }

cut_both : IsRunOfTwo called called empty_disk empty_disk cut_of_two
cut_both = record {
  one = record { honest = honest_paid; disk = inl first_left; ended = inr was_cut };
  before = (tt, refl);
  honest = (tt, refl);
  two = inl keeps_second;
}

saves_books : SavesBooks called called cut_disk empty_disk saved_of_two
unfolding made_safe
saves_books = record {
  none = refl;
  saved = record { alone = left_alone; safe = made_safe; since = saved_leaves; now = saved_now };
  next = inr (inl (record {
    first_left = inr (lit≤ tt, refl);
    first_safe = found_safe cut_file;
    left = record { left = inr (lit≤ tt, refl); safe = found_safe saved_file };
  }));
}

saved_both : IsRunOfTwo called called cut_disk empty_disk saved_of_two
saved_both = record {
  one = record {
    honest = honest_looked;
    disk = inr (inl (refl, left_alone));
    ended = inr (record { left = inr (lit≤ tt, refl); safe = found_safe cut_file; when = inl refl });
  };
  before = (tt, refl);
  honest = honest_saved;
  two = inr saves_books;
}

whole_both : IsRunOfTwo called called cut_disk second_disk whole_of_two
whole_both = record {
  one = record { honest = honest_last; disk = inl second_left; ended = inl (record { handed = refl; all = refl }) };
  before = (tt, refl);
  honest = (tt, refl);
  two = inl (record { leaves = same_second second_disk (λ image left. left.1); next = inl refl });
}

rows : AreRunsOfTwo called called empty_disk empty_disk runs_of_two last_disk second_disk
rows = (cut_both, (saved_both, (whole_both, (refl, refl))))

no_saved : SavedOfFirst [] []
no_saved s is = let no : 0 ≡ 1 = is.opened in absurd (omega (arith, no))

pub rows_by_hand : RowOfTwoByHand
rows_by_hand = (cut_both, saved_both, whole_both, rows, record { left = inl refl; safe = found_safe [] }, no_saved)

first_of_both : IsSnapshotOfFirst both_commands issued_snapshot
first_of_both = record {
  front = hand_issue ∷ [];
  rest = hand_premium ∷ [];
  split = refl;
  valid = (valid_issue, tt);
  accepted = (both.accepted.0, tt);
  snapshot = issue_left;
}

pub left_by_hand : LeftOfTwoByHand
left_by_hand = (
  inl refl,
  λ image file left may.
      two_left called called facts facts empty_disk empty_disk [] runs_of_two last_disk second_disk (found_safe []) (found_safe [])
      (inr (refl, inl (lit≤ tt))) no_saved rows image file left may,
  saved_checkpoint,
  first_of_both,
  ((second_opening, ([], inr (inl (refl, left_alone)))), inr saved_so),
)

cut_after : WasCutAfter called called cut_disk empty_disk saved_of_two made_safe
unfolding made_safe
cut_after = record {
  first_left = inr (lit≤ tt, refl);
  first_safe = found_safe cut_file;
  left = record { left = inr (lit≤ tt, refl); safe = found_safe saved_file };
}

pub parts_by_hand : PartsOfTwoByHand
parts_by_hand = (
  keeps_second,
  same_second empty_disk (λ image left. left.1),
  left_of_empty,
  saves_books,
  saved_so,
  (made_safe, cut_after),
  record { left = inr (lit≤ tt, refl); safe = found_safe saved_file },
)

-- ---- `state`

issue_text : snapshot_text issued_snapshot ≡ issue_books
unfolding digits anniversary_of day_number date_of month_of days_before_year days_of_months day_text balance_text policy_text
issue_text = refl

books_of_issue : books_of (hand_issue ∷ []) ≡ issue_books
unfolding digits anniversary_of day_number date_of month_of days_before_year days_of_months day_text balance_text policy_text
books_of_issue = refl

pub stated_alone : EndsState called cut_disk looked_disk books_of (output_of issue_books) Done
stated_alone = record {
  commands = hand_issue ∷ [];
  so = (sym books_of_issue, sum_of-ledger (hand_issue ∷ []));
  disk = opened_left;
}

read_looks : LooksOn called second_disk read_disk
read_looks = record {
  reads = refl;
  images = λ image left. inl left;
  later = lit≤ tt;
  nothing_else = nothing_else;
  keeps = λ moment image passed left. inl (inl left);
}
  where
    nothing_else : (moment : ℕ) (image : List ℕ) → moment ≤ 0 → called.left_since read_disk moment image
        → called.left_since second_disk moment image ⊎ called.may_leave second_disk image
    nothing_else moment image passed (inr now) = inr (inl now.1)
    nothing_else moment image passed (inl (inr now)) = inr (inl now.1)
    nothing_else moment image passed (inl (inl before)) = inl before

held_where_stated : IsHeldWhereTrue called called stating_disks issued_snapshot
held_where_stated are = record { commands = hand_issue ∷ []; so = issue_left; disk = opened_left }

stated : EndsStateKept called called stating_disks (output_of issue_books) Done
stated = record {
  telling = record { snapshot = issued_snapshot; so = sym issue_text; held = held_where_stated; quiet = record { first = refl; second = refl } };
  first = left_alone;
  second = record { honesty = λ honest. (tt, refl); looks = λ honest. read_looks };
}

pub stated_by_hand : StatedByHand
stated_by_hand = (
  stated_alone,
  stated,
  record { ending = Done; exits = refl; does = inl (State None, asks_books, (tt, tt, stated)) },
)

-- ---- other words

says_usage : SaysUnasked [] (output_of (codes "usage" ++ 10 ∷ [])) Usage
says_usage = ((λ mode are. are), inl refl)

pub otherwise_by_hand : OtherwiseByHand
otherwise_by_hand = (
  asks_save,
  (λ mode are. are),
  (refl, refl, tt, tt, says_usage),
  λ words. (refl, refl, tt, tt, inl refl),
)

pub due_of_the_saving : DueOfTheSaving
due_of_the_saving ending is =
    due called called cut_disk looked_disk (Some empty_disk) (Some saved_disk) two_auditors (codes "checkpoint" ∷ []) no_input (output_of (codes "checkpoint,1" ++ 10 ∷ []))
    (shelf_that_told []) (Unit {0}) (Unit {0}) Done (inl (Checkpoint, asks_save, (tt, tt, saved)))
    (λ rose. absurd (omega (arith, rose))) (λ rose. absurd (omega (arith, rose))) ending is
