-- What the two lanes leave of their disk.
use Rattle.life_app.proofs.Names.{◌≡◌, ◌⊎◌, ℕ, List, [], ◌∷◌, ◌++◌, ◌∙◌, length, take, drop, refl, ap, sym, subst, inl, inr, lit≤, lit<, arith, ints, anniversary_of, day_number, date_of, month_of, days_before_year, days_of_months, append_assoc, filter_map-append, AreAllowed, Command, Entry, Opening, opened_on, IsLegal, accepted_of, accepted_by, IsJournal, spelling_of, HoldsAtLeast, HoldsNow, HoldsOnce, IsLeftBy, KeepsAccepted, JournalBytes, Opens, hand_issue, hand_premium, valid_issue, valid_premium, called, called_disk, issuing, looks, untorn, WasFaulted}
use Rattle.std.proofs.lemmas.List.{take-append-drop}
use Rattle.office_state.proofs.KeptSteps.{keeps_more, keeps_still, keeps_unaccepted, kept_now}
use Rattle.journal_replay.specs.Replays.{bodies_of}
use Rattle.policy_machine.proofs.Turns.{◌then◌}
use Rattle.policy_types.specs.Valid.{IsValid}
use Rattle.life_app.specs.WorkedRun.Lanes.{again_turn, both_issues, fault_disk, fault_turn, given_up_turn, held_commands, lanes_disk, lanes_opening, lanes_pin, lanes_turns, late_turn, left_commands, looked_again, open_disk, other_issue, other_premium, paid_calls, paid_turn, refused_turn, rows_turn, short_premium, shut_file}
use Rattle.life_app.proofs.WorkedRun.Calls.{AreSafe, Left, failed_image, failed_left, failing_leaves, is_posted, is_still, looks_allowed, looks_left, looks_safe, posted_left, posted_safe, posted_within, posting_leaves, reads}
use Rattle.life_app.proofs.WorkedRun.First.{issued, issued_safe, left_by, only_now, premium_size}
use Rattle.life_app.proofs.WorkedRun.Row.{facts, kept_looked, quiet_left}

-- ---- the turns are legal

valid_other : IsValid other_issue
valid_other = record { id_in = (lit≤ tt, lit≤ tt); day_in = (omega (arith, ints), omega (arith, ints)); age_in = lit≤ tt; years_in = (lit≤ tt, lit≤ tt); amount_in = (lit≤ tt, lit≤ tt); premium_in = (lit≤ tt, lit≤ tt) }

pub valid_short : IsValid short_premium
valid_short = ((lit≤ tt, lit≤ tt), (omega (arith, ints), omega (arith, ints)), (lit≤ tt, lit≤ tt))

pub valid_other_premium : IsValid other_premium
valid_other_premium = ((lit≤ tt, lit≤ tt), (omega (arith, ints), omega (arith, ints)), (lit≤ tt, lit≤ tt))

pub legal : IsLegal lanes_opening lanes_turns
unfolding anniversary_of day_number date_of month_of days_before_year days_of_months
legal = record {
  opens = record { accepted = (refl, (refl, tt)); valid = (valid_issue, (valid_other, tt)); few = lit≤ tt };
  due = refl then (omega arith, refl, refl) then (refl, refl) then ((2, 2), refl, (lanes_pin, refl, refl), omega arith, refl)
      then (refl, (lit≤ tt, tt)) then ((2, 2), refl, (lanes_pin, refl, refl)) then tt;
}

pub goes_on : IsLegal (opened_on held_commands 0) (again_turn ∷ [])
unfolding anniversary_of day_number date_of month_of days_before_year days_of_months
goes_on = record {
  opens = record { accepted = (refl, (refl, (refl, tt))); valid = (valid_issue, (valid_other, (valid_premium, tt))); few = lit≤ tt };
  due = ((refl, refl), tt);
}

pub too_late : IsLegal (opened_on left_commands 0) (late_turn ∷ [])
unfolding anniversary_of day_number date_of month_of days_before_year days_of_months
too_late = record {
  opens = record { accepted = (refl, (refl, (refl, (refl, tt)))); valid = (valid_issue, (valid_other, (valid_premium, (valid_other_premium, tt)))); few = lit≤ tt };
  due = (refl, tt);
}

-- ---- the journals

other_size : length (spelling_of other_issue) ≡ 64
unfolding spelling_of
other_size = refl

next_size : length (spelling_of other_premium) ≡ 64
unfolding spelling_of
next_size = refl

abbrev file : List ℕ
file = lanes_disk.first

abbrev two : List (List ℕ)
two = spelling_of hand_issue ∷ spelling_of other_issue ∷ []

abbrev three : List (List ℕ)
three = two ++ spelling_of hand_premium ∷ []

abbrev four : List (List ℕ)
four = three ++ spelling_of other_premium ∷ []

found : IsJournal file two
found = is_posted [] issuing (spelling_of hand_issue ∷ []) other_issue (lit< tt) other_size issued issued_safe refl

paid : IsJournal (reads file paid_calls) three
paid = is_posted file (looks 2 file) two hand_premium (lit< tt) premium_size found (looks_safe 2 file) refl

paid_safe : AreSafe file paid_calls
paid_safe = posted_safe file (looks 2 file) two hand_premium (lit< tt) premium_size found (looks_safe 2 file) refl

opened : IsJournal open_disk.first four
opened = is_posted file paid_calls three other_premium (lit< tt) next_size paid paid_safe refl

shut : IsJournal shut_file three
shut = is_still file paid_calls three other_premium (lit< tt) next_size paid paid_safe refl

-- ---- the answers

paid_allowed : AreAllowed file untorn paid_calls
paid_allowed = ((((looks_allowed 2 file, tt), tt), tt), tt)

pub honest_paid : called.honest (called_disk file paid_calls)
honest_paid = (paid_allowed, posted_within file (looks 2 file) two hand_premium (lit< tt) premium_size found (looks_safe 2 file) refl refl)

pub honest_fault : called.honest fault_disk
honest_fault = (((((paid_allowed, tt), tt), tt), tt), posted_within file paid_calls three other_premium (lit< tt) next_size paid paid_safe refl honest_paid.1)

-- ---- what a crash leaves

abbrev pub faulted : WasFaulted lanes_turns (hand_premium ∷ []) other_premium
faulted = record { before = refused_turn ∷ lanes_pin ∷ paid_turn ∷ rows_turn ∷ []; caller = 12; count = 1; after = given_up_turn ∷ []; turns = refl; then = refl }

image_left : (image : List ℕ) → called.may_leave fault_disk image → IsJournal image three ⊎ IsJournal image four
image_left = failed_image file paid_calls three other_premium (lit< tt) next_size paid paid_safe refl

-- a journal of the commands on which an office was opened
of_legal : (opening : Opening) (history : List Entry) → IsLegal opening history → (image : List ℕ) → IsJournal image (bodies_of opening.commands)
    → JournalBytes image opening.commands
of_legal opening history legal image journal = record { records = journal; valid = legal.opens.valid; accepted = legal.opens.accepted }

of_two : (image : List ℕ) → IsJournal image two → JournalBytes image both_issues
of_two = of_legal lanes_opening lanes_turns legal

of_three : (image : List ℕ) → IsJournal image three → JournalBytes image held_commands
of_three = of_legal (opened_on held_commands 0) (again_turn ∷ []) goes_on

of_four : (image : List ℕ) → IsJournal image four → JournalBytes image left_commands
of_four = of_legal (opened_on left_commands 0) (late_turn ∷ []) too_late

pub shut_opens : Opens shut_file held_commands
shut_opens = inl (of_three shut_file shut)

pub found_opens : Opens file both_issues
found_opens = inl (of_two file found)

pub left_bytes : JournalBytes open_disk.first left_commands
left_bytes = of_four open_disk.first opened

held_two : (image : List ℕ) → IsJournal image two → HoldsOnce lanes_opening lanes_turns image
held_two image journal = ([], hand_premium ∷ [], refl, inl (inl (of_two image journal)))

held_three : (image : List ℕ) → IsJournal image three → HoldsOnce lanes_opening lanes_turns image
held_three image journal = (hand_premium ∷ [], [], refl, inl (inl (of_three image journal)))

held_four : (image : List ℕ) → IsJournal image four → HoldsOnce lanes_opening lanes_turns image
held_four image journal = (hand_premium ∷ [], [], refl, inr (other_premium, faulted, inl (of_four image journal)))

paying_held : (moment : ℕ) (image : List ℕ) → Left file paid_calls moment image → HoldsOnce lanes_opening lanes_turns image
paying_held moment image left = elim (posted_left file (looks 2 file) two hand_premium (lit< tt) premium_size found (looks_safe 2 file) refl moment image left) [
  | inl before ↦ held_two image (subst (λ (e : List ℕ). IsJournal e two) (sym (looks_left 2 file moment image before)) found)
  | inr (inl none) ↦ held_two image none
  | inr (inr one) ↦ held_three image one
]

lanes_held : (moment : ℕ) (image : List ℕ) → called.left_since fault_disk moment image → HoldsOnce lanes_opening lanes_turns image
lanes_held moment image left = elim (failed_left file paid_calls three other_premium (lit< tt) next_size paid paid_safe refl moment image left) [
  | inl before ↦ paying_held moment image before
  | inr (inl none) ↦ held_three image none
  | inr (inr one) ↦ held_four image one
]

lanes_now : (image : List ℕ) → called.may_leave fault_disk image → HoldsNow lanes_opening lanes_turns image
lanes_now image left = elim (image_left image left) [
  | inl none ↦ inl (of_three image none)
  | inr one ↦ inr (other_premium, faulted, of_four image one)
]

-- at least what was accepted in so many turns
pub front_held : (n : ℕ) (image : List ℕ) → called.may_leave fault_disk image
    → (more : List Command) × Opens image (both_issues ++ accepted_of (take n lanes_turns) ++ more)
front_held n image left =
    let front = accepted_of (take n lanes_turns) in
    let rest = accepted_of (drop n lanes_turns) in
    let all : hand_premium ∷ [] ≡ front ++ rest =
    ap accepted_of (sym (take-append-drop n lanes_turns))
    ∙ filter_map-append (λ (e : Entry). accepted_by e.call e.reply) (take n lanes_turns) (drop n lanes_turns) in
    elim (image_left image left) [
      | inl none ↦ (rest, subst (λ (cs : List Command). Opens image (both_issues ++ cs)) all (inl (of_three image none)))
      | inr one ↦ (
        rest ++ other_premium ∷ [],
        subst (λ (cs : List Command). Opens image (both_issues ++ cs))
            (ap (λ (cs : List Command). cs ++ other_premium ∷ []) all ∙ append_assoc front rest (other_premium ∷ [])) (inl (of_four image one)),
      )
    ]

-- ---- what stays

least_two : (image : List ℕ) → IsJournal image two ⊎ IsJournal image three → HoldsAtLeast both_issues image
least_two image (inl none) = ([], inl (of_two image none))
least_two image (inr one) = (hand_premium ∷ [], inl (of_three image one))

least_three : (image : List ℕ) → IsJournal image three ⊎ IsJournal image four → HoldsAtLeast held_commands image
least_three image (inl none) = ([], inl (of_three image none))
least_three image (inr one) = (other_premium ∷ [], inl (of_four image one))

paid_now : (image : List ℕ) → called.may_leave (called_disk file paid_calls) image → HoldsNow lanes_opening (refused_turn ∷ lanes_pin ∷ paid_turn ∷ []) image
paid_now image left = inl (of_three image (subst (λ (e : List ℕ). IsJournal e three) (sym (paid_safe image left)) paid))

kept_pin : KeepsAccepted called lanes_disk (called_disk file (looks 2 file)) lanes_opening (refused_turn ∷ lanes_pin ∷ [])
kept_pin = keeps_still called lanes_disk lanes_opening (called_disk file (looks 2 file)) (refused_turn ∷ []) lanes_pin refl
    (keeps_still called lanes_disk lanes_opening (called_disk file (looks 2 file)) [] refused_turn refl (kept_looked 2 file both_issues (of_two file found)))

kept_paid : KeepsAccepted called lanes_disk (called_disk file paid_calls) lanes_opening (refused_turn ∷ lanes_pin ∷ paid_turn ∷ [])
kept_paid = keeps_more called lanes_disk lanes_opening (called_disk file (looks 2 file)) (called_disk file paid_calls) (refused_turn ∷ lanes_pin ∷ []) paid_turn
    (λ (image : List ℕ). IsJournal image two ⊎ IsJournal image three)
    (posting_leaves file (looks 2 file) two hand_premium (lit< tt) premium_size found (looks_safe 2 file) refl) least_two kept_pin
    (kept_now called lanes_disk lanes_opening (called_disk file paid_calls) (refused_turn ∷ lanes_pin ∷ paid_turn ∷ []) only_now honest_paid (lit≤ tt) paid_now)

kept_fault : KeepsAccepted called lanes_disk fault_disk lanes_opening (refused_turn ∷ lanes_pin ∷ paid_turn ∷ rows_turn ∷ fault_turn ∷ [])
kept_fault = keeps_unaccepted called lanes_disk lanes_opening (called_disk file paid_calls) fault_disk (refused_turn ∷ lanes_pin ∷ paid_turn ∷ rows_turn ∷ []) fault_turn
    (λ (image : List ℕ). IsJournal image three ⊎ IsJournal image four)
    (failing_leaves file paid_calls three other_premium (lit< tt) next_size paid paid_safe refl) least_three
    (keeps_still called lanes_disk lanes_opening (called_disk file paid_calls) (refused_turn ∷ lanes_pin ∷ paid_turn ∷ []) rows_turn refl kept_paid) refl

pub lanes_left : IsLeftBy called lanes_disk fault_disk lanes_opening lanes_turns
lanes_left = left_by file fault_disk.calls lanes_opening lanes_turns (lit≤ tt) refl found_opens lanes_now lanes_held
    (keeps_still called lanes_disk lanes_opening fault_disk (refused_turn ∷ lanes_pin ∷ paid_turn ∷ rows_turn ∷ fault_turn ∷ []) given_up_turn refl kept_fault)
    (λ quiet. absurd (quiet.1.1.0.1 3 refl))

-- either file may be left
pub may_shut : called.may_leave fault_disk shut_file
may_shut = (shut_file, refl, record { before = refl; after = refl; no_shorter = omega arith; no_longer = omega arith })

pub may_open : called.may_leave fault_disk open_disk.first
may_open = facts.reads_as_image fault_disk honest_fault

-- the run that finds the other premium there
pub late_left : IsLeftBy called open_disk looked_again (opened_on left_commands 0) (late_turn ∷ [])
late_left = quiet_left 4 open_disk.first left_commands left_bytes (late_turn ∷ []) refl refl
    (keeps_still called open_disk (opened_on left_commands 0) looked_again [] late_turn refl (kept_looked 4 open_disk.first left_commands left_bytes))
